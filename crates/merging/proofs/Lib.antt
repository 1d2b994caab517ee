pub mod ExchangeLaws
pub mod CopyLaws
pub mod SiblingLaws
pub mod BelowSteps
pub mod PassedLaws
pub mod MergeLaws
