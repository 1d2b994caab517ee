pub mod TreeSteps
pub mod SubtreeLaws
pub mod LeftSteps
pub mod LighterSteps
pub mod LastLaws
pub mod SliceOrder
