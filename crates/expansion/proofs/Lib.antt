pub mod LevelTables
pub mod LevelPlaces
pub mod LevelKnown
pub mod TableLaws
