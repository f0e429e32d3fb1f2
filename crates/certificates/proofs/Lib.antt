pub mod Answering
pub mod Certified
pub mod Counting
pub mod Filling
pub mod Gathering
pub mod Highest
pub mod Lasting
