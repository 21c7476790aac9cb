pub mod Lays
pub mod Columns
pub mod Ends
pub mod Sinks
