pub mod Choice
pub mod Finds
pub mod Matches
pub mod SearchSteps
