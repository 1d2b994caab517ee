pub mod Blanket
