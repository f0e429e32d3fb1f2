pub mod Sums
pub mod Moves
pub mod Toward
pub mod Refusals
