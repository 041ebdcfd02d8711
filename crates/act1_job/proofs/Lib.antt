pub mod JobLines
pub mod JobSteps
pub mod JobWrites
pub mod JobTexts
