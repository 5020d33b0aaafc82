pub mod Entries
pub mod Keeping
