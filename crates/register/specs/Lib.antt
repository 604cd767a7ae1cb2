pub mod Rows
pub mod Chains
