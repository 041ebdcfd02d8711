pub mod Document
pub mod FaultWords
pub mod Laws
pub mod Range
pub mod ReadingSteps
pub mod Rules
pub mod Text
