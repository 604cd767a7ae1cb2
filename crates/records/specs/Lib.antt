pub mod Faults
pub mod Records
pub mod Lines
pub mod Pending
