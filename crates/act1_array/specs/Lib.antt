pub mod ClassSteps
pub mod FaultWords
pub mod Gives
pub mod Laws
pub mod NetworkSteps
pub mod OwnerSteps
pub mod PartSteps
pub mod SpotSteps
