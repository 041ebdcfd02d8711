pub mod BuildSteps
pub mod CutSteps
pub mod Gates
pub mod KeptSteps
pub mod MarkSteps
pub mod Net
pub mod PassSteps
pub mod TableSteps
