pub mod AnswerTexts
pub mod AnswerWrites
pub mod LogTexts
pub mod SameLogs
pub mod StepForms
pub mod StepReads
pub mod StepWords
