-- What is due to an actor of a driver with a flaw, in a state as it finds it.
pub mod Found
