pub mod Engines
pub mod Marking
pub mod Rounds
pub mod Slots
pub mod Turns
