pub mod Numbered
mod Fronts
