-- An actor that goes on alone: it never waits, and what is left falls to the end of its operation.
pub mod NeverWaits
pub mod Falls
pub mod TurnsAlong
pub mod RunsOut
pub mod EndsWell
pub mod Ends
