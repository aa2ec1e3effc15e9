pub mod Layers
pub mod Lists
pub mod Says
pub mod Next
pub mod Records
pub mod Opens
