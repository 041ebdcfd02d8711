pub mod TearLoops
pub mod Times
