pub mod Working
pub mod Dealing
pub mod Peeking
pub mod Watching
pub mod Gates
