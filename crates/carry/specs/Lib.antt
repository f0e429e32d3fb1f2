pub mod Carried
pub mod Layer
pub mod Added
