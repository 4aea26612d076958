-- Who waits for whom, and that some actor always goes on.
pub mod BusyGoesOn
pub mod NeverStuck
pub mod WaitsFor
