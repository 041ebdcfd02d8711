pub mod AnswerSteps
pub mod Answers
pub mod Logs
pub mod Reads
pub mod ReadSteps
pub mod StepLines
pub mod WriteSteps
