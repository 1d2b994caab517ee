pub mod Supertree
pub mod Profile
pub mod Candidate
pub mod Claims
