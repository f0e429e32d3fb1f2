pub mod Digits
pub mod Members
pub mod Counts
pub mod Walks
pub mod Listing
