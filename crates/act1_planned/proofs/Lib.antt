mod LegalPlans
mod Numbered
mod OrderClear
mod OrderForm
mod OrderMeans
mod OrderSources
mod OrderSums
mod Pairs
pub mod PortNames
mod SameRuns
