pub mod There
pub mod Parts
pub mod Noted
