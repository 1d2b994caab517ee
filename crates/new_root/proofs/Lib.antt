pub mod NewRootLaws
