pub mod Leftover
