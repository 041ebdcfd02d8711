pub mod Breaks
pub mod Pads
