pub mod Params
pub mod Setters
pub mod Bounds
