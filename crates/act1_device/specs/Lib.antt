pub mod Laws
pub mod Order
pub mod Pins
pub mod Rules
pub mod Sites
