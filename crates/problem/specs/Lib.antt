pub mod Lists
pub mod Views
pub mod Given
pub mod Faults
pub mod Tables
