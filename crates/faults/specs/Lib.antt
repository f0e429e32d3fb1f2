pub mod Reasons
pub mod Places
pub mod Depth
