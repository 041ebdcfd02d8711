pub mod Drivers
pub mod File
pub mod SiteSteps
