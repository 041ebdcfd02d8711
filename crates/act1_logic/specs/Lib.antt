pub mod Cover
pub mod Module
pub mod OnSets
pub mod Rows
