pub mod TakenOut
