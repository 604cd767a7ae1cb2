pub mod Scratch
pub mod Faults
pub mod Calls
pub mod Questions
pub mod Work
pub mod Steps
pub mod Runs
pub mod Growing
