pub mod Fields
pub mod Reading
pub mod Layout
pub mod Theorems
