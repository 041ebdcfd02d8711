pub mod AssignmentLemmas
pub mod Breaks
pub mod Facts
pub mod Refutes
pub mod Tables
pub mod Takes
pub mod Truths
