pub mod Words
pub mod CasesHold
pub mod Worked
