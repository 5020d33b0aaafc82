pub mod Few
pub mod Placed
