pub mod ArrayNames
pub mod Carries
pub mod Constant
pub mod Extracted
pub mod Laws
pub mod Meaning
