pub mod ArrayMeaning
pub mod Carried
pub mod ConstantMeaning
pub mod EveryState
pub mod SiteWave
pub mod SourceLists
