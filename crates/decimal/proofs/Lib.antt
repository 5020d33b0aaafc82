pub mod Writing
pub mod Powers
pub mod Taking
pub mod Spelling
