pub mod Working
pub mod Stages
pub mod Statements
