pub mod Below
pub mod Confluence
pub mod Unique
pub mod Models
