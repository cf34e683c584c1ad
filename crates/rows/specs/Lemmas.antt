-- Facts that an `impl` names, and what these rest on. Nothing that a contract says is defined here.
pub mod Limits
pub mod SlotRows
