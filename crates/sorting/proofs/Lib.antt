pub mod SinkLaws
pub mod RunLaws
pub mod ChildLaws
pub mod SortSteps
