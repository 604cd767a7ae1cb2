pub mod Answers
pub mod Faults
pub mod Running
pub mod Stated
pub mod Taking
