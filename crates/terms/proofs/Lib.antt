mod Growing
mod Reading
pub mod Meaning
