pub mod Faults
pub mod Laws
pub mod Netlist
pub mod NetlistSteps
pub mod Parts
pub mod Text
