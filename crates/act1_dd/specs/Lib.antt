pub mod Diagram
pub mod Forks
pub mod Inputs
pub mod Limit
pub mod MemoSteps
pub mod Steps
