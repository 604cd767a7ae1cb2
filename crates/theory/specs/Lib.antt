pub mod Theory
pub mod Counting
pub mod Rounds
pub mod Abstraction
pub mod Means
pub mod Faults
