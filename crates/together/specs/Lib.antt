pub mod Pairs
pub mod Ready
