pub mod There
pub mod Fields
