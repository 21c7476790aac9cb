pub mod Tables
pub mod Decodes
