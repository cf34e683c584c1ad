pub mod Beyond
pub mod Readings
pub mod RowValues
mod NestedCaps
pub mod Strikes
mod SlotChanges
