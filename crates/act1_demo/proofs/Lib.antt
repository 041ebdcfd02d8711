pub mod RangeTexts
pub mod ShownRuns
