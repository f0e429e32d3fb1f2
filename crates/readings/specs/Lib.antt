pub mod Contents
pub mod Texts
pub mod Lawful
pub mod Rooms
pub mod Weights
pub mod Said
