pub mod Spreads
pub mod Walked
pub mod Marking
pub mod Shifts
