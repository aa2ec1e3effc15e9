pub mod Judgements
pub mod Boards
pub mod Picks
pub mod Shown
