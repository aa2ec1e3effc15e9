pub mod Judging
pub mod Backs
pub mod Puts
pub mod Shows
pub mod Ranges
