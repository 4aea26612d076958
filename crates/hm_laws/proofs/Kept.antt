-- An entry that is allowed keeps each of the rules, so a sound state stays sound.
pub mod AreaCuts
pub mod AreaOrder
pub mod Areas
pub mod Attached
pub mod Contents
pub mod Frames
pub mod Guards
pub mod Locks
pub mod Mirrors
pub mod PlaceLocks
pub mod Pools
pub mod Sequences
pub mod Sound
pub mod Tables
pub mod Untouched
