pub mod HintSteps
pub mod StatusSteps
pub mod Verdict
