pub mod Pushed
pub mod Digits
pub mod Coming
