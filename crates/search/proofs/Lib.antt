pub mod SearchOrder
pub mod FrequentLaws
pub mod NextLaws
