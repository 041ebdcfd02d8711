pub mod EngineSteps
pub mod MarkSteps
pub mod ReaderSteps
pub mod RoundSteps
pub mod TurnSteps
pub mod WiringSteps
