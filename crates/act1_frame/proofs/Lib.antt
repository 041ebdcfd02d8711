pub mod Fine
pub mod One
pub mod Runs
pub mod Stages
pub mod Unwritten
