-- What the definitions and the rules say of one state, and of one entry that is allowed there.
pub mod AllowedAccepts
pub mod Invalidations
pub mod MirrorInterval
pub mod NextPage
pub mod Pieces
pub mod Search
pub mod TableEntries
