pub mod Apart
pub mod Decides
pub mod Orders
pub mod Positions
