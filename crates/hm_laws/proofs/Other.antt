-- What an actor knows stays so, whatever entry of another actor is allowed.
pub mod Cleared
pub mod Emptied
pub mod Fetched
pub mod Frames
pub mod KnownPages
pub mod Lookups
pub mod Mirrors
pub mod Noted
pub mod Processes
pub mod Stable
