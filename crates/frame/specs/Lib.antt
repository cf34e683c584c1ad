pub mod Refusals
pub mod Orders
pub mod Owned
pub mod Frames
pub mod Parts
