pub mod Opening
pub mod Words
pub mod Noted
