pub mod Jobs
pub mod Laws
pub mod Lines
pub mod Reads
pub mod Steps
pub mod WriteSteps
