pub mod Spelling
pub mod EventWords
pub mod Words
pub mod Events
pub mod Fits
pub mod Lines
pub mod Progress
pub mod Traces
