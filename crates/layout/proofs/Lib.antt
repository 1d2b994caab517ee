pub mod LaidLaws
pub mod UniqueLaws
pub mod BlockLaws
pub mod RoomLaws
pub mod Claims
