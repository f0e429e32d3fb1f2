pub mod Steps
pub mod Costs
