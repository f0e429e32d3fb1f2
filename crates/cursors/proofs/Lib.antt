pub mod Read
pub mod Cells
pub mod Chained
mod Rises
mod Passing
pub mod Sections
