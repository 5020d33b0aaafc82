pub mod Large
pub mod Table
