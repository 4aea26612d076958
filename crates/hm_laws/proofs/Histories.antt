-- After each history of entries that were due: the rules hold, it is legal, and what stands stands.
pub mod FirstSound
pub mod Legal
pub mod Short
pub mod Sound
pub mod Stands
