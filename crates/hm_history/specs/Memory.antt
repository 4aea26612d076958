-- What the memory manager guarantees: states of memory, what an entry makes of them, and the rules that they ask of it.
pub mod Words
pub mod Plain
pub mod Places
pub mod Sequences
pub mod Locks
pub mod Contents
pub mod After
pub mod Lookups
pub mod Rules
