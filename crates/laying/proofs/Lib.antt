pub mod Pushed
pub mod Turns
pub mod Rows
pub mod Loops
