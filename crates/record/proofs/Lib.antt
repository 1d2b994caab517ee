pub mod RecordLaws
pub mod RecordSteps
