pub mod Sums
pub mod Exchange
pub mod Says
pub mod Rows
pub mod Family
