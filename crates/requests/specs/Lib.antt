pub mod Names
pub mod Tests
pub mod Formed
