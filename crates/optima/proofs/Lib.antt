pub mod LeastCost
pub mod Graded
pub mod Heaviest
pub mod Squares
