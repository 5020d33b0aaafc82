pub mod Outcomes
pub mod Effects
pub mod Terms
