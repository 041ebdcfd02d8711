pub mod Graph
pub mod Laws
pub mod Names
pub mod Need
pub mod Rules
pub mod Run
pub mod Text
pub mod ValuationSteps
