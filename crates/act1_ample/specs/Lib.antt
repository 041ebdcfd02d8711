pub mod Ample
pub mod Laws
