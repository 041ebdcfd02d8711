pub mod Acceptance
pub mod Assignment
pub mod AssignmentSteps
pub mod Clauses
pub mod Found
pub mod Laws
pub mod Ranges
pub mod TrailSteps
