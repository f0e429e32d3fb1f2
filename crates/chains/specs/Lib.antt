pub mod Chains
pub mod Spreads
pub mod Exact
