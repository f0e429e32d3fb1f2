pub mod Dividing
pub mod TwoSeats
pub mod ByShares
pub mod WithCarried
