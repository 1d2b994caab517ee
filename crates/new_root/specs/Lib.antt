pub mod NewRoot
