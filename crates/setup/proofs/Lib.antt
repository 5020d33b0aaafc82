pub mod Signing
pub mod Terms
