pub mod Final
pub mod Bounds
pub mod Signing
pub mod Filling
