pub mod Pairs
pub mod Deciding
pub mod Issuing
