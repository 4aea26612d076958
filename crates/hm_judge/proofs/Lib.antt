pub mod Places
pub mod Telling
pub mod Judged
pub mod StandingLines
pub mod Pieces
pub mod Heads
pub mod Near
pub mod LaterLines
mod Users
