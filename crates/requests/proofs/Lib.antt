pub mod Within
pub mod Passing
