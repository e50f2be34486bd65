pub mod Moves
pub mod Neighbors
pub mod Ordered
pub mod Lent
