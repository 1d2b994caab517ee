pub mod LeftoverLaws
