pub mod Places
pub mod Vectors
pub mod Spans
pub mod Pivots
pub mod Profiles
pub mod Theorems
pub mod Examples
