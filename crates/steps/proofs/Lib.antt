pub mod Walks
pub mod Graded
