pub mod Tests
pub mod Appends
pub mod Issues
