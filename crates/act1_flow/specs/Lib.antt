pub mod Flow
pub mod Helping
pub mod Realizes
pub mod Steps
pub mod Sure
