pub use Rattle.hm_io.specs.Streams
pub mod Exits
pub mod Input
pub mod Messages
pub mod Reading
pub mod Traffic
pub mod Users
pub mod Writing
