pub mod Cycles
pub mod FaultWords
pub mod Laws
pub mod Simulation
pub mod SimulationSteps
pub mod Vectors
