pub mod EachKind
pub mod Lengths
pub mod Terms
pub mod Keys
