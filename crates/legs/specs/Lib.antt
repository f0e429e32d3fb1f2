pub mod Lawful
pub mod Refusals
pub mod Shares
pub mod SharedLegs
pub mod Written
pub mod Lawfully
pub mod Ends
pub mod RowSums
