mod CheckFacts
mod ReportLines
mod ReportSteps
mod ReportTexts
mod ReportWrites
mod StepForms
