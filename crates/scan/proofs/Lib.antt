pub mod Faults
pub mod Entering
pub mod Scanning
pub mod Checking
pub mod Records
pub mod Commands
