pub mod Ready
pub mod Ended
pub mod Whole
pub mod Few
pub mod All
pub mod Refused
