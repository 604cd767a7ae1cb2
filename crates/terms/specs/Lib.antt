pub mod Faults
pub mod Adding
pub mod Facts
