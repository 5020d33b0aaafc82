pub mod Alike
pub mod Records
pub mod Fields
pub mod Plain
