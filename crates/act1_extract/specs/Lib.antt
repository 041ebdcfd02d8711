pub mod FaultWords
pub mod Gives
pub mod Laws
pub mod Layout
pub mod Net
pub mod Parts
pub mod Picked
