pub mod Apps
pub mod NumberReads
pub mod Passes
