pub mod Format
pub mod Group
pub mod Stages
pub mod Refusals
pub mod Calls
pub mod Column
pub mod Sinks
