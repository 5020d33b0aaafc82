pub mod Computed
pub mod Records
pub mod Situations
