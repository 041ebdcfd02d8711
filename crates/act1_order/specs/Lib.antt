pub mod ClosingSteps
pub mod Laws
pub mod Order
pub mod Reach
pub mod ReachSteps
pub mod ReadersSteps
pub mod SearchSteps
