pub mod Units
pub mod Between
pub mod Weights
