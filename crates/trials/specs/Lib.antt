pub mod Values
pub mod Forcing
pub mod Courses
pub mod Exist
pub mod Trials
