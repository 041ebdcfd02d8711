pub mod Emitted
pub mod Lists
pub mod Nets
pub mod Problems
pub mod Routes
pub mod RouteSteps
