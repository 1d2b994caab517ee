pub mod Record
pub mod RecordDecided
pub mod NextRecord
pub mod Judging
