pub mod There
pub mod Commands
