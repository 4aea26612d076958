pub mod Drains
pub mod Room
pub mod Trial
pub mod Idle
pub mod Advising
pub mod Replaying
pub mod Peeking
pub mod Threading
pub mod Making
pub mod Upgrading
pub mod Checking
pub mod Used
mod SentParts
mod SentTree
pub mod Sent
mod Users
