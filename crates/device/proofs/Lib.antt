pub mod Outcomes
pub mod Read
pub mod Effects
pub mod Terms
