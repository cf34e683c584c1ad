pub mod Notes
pub mod Layers
pub mod Lemmas
