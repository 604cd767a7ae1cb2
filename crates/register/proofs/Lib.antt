pub mod Walking
pub mod Linking
pub mod Putting
