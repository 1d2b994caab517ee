pub mod OneTree
pub mod NewFleet
pub mod RegisterLaws
pub mod CallLaws
pub mod Claims
