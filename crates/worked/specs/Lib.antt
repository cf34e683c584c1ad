pub mod Facts
pub mod Sevenths
