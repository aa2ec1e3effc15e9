pub mod Headers
pub mod Counts
pub mod Layered
pub mod Taking
pub mod Judged
pub mod Telling
pub mod Drafted
