pub mod TurnedLaws
pub mod LeafLaws
pub mod RootLaws
pub mod Claims
