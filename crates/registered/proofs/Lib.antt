pub mod RegisteredLaws
