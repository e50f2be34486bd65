pub mod SignLaws
pub mod Magnitudes
pub mod Compared
pub mod Named
pub mod DerivedOrder
