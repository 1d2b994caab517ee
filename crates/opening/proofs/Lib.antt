pub mod RequestLaws
pub mod ReadLaws
pub mod OpenLaws
pub mod Claims
