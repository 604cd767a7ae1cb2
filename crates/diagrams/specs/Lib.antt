pub mod Diagram
pub mod Books
pub mod Making
pub mod Applying
