pub mod Chosen
pub mod Choices
