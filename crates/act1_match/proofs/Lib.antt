pub mod Bits
pub mod Choices
pub mod Modules
pub mod Parts
pub mod Steps
