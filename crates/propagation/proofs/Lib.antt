pub mod Chained
pub mod Waiting
pub mod Comes
pub mod Watching
pub mod Steps
pub mod Turning
pub mod Puts
