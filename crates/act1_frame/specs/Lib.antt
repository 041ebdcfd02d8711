pub mod Clauses
pub mod Endings
pub mod Leaving
pub mod Reading
pub mod Stages
pub mod World
