pub mod Shown
pub mod ShownSteps
pub mod Text
pub mod TextSteps
