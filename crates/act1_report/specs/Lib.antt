pub mod CheckSteps
pub mod Checks
pub mod Laws
pub mod Lines
pub mod Reads
pub mod ReadSteps
pub mod Steps
pub mod Texts
