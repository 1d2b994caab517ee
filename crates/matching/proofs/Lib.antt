pub mod NeedLaws
pub mod ScanLaws
pub mod SizeLaws
pub mod FitsLaws
pub mod OccursAtLaws
