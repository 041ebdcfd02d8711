pub mod Assigned
pub mod Circuits
pub mod Clear
pub mod Counts
pub mod Reports
pub mod Sure
pub mod Verdicts
