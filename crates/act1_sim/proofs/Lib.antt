pub mod CycleSteps
pub mod FirstBits
pub mod LineTexts
pub mod OneAnswers
pub mod OneStart
pub mod SimulationLaws
