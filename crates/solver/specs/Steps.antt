-- Words of the steps inside the solver. No promise of a public call needs them.
pub mod Pivots
pub mod Spaces
pub mod Turns
pub mod Vectors
