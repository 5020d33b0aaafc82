pub mod View
pub mod Starting
