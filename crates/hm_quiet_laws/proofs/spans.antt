-- What is left falls: operations that move no frame.
pub mod TellingsFall
pub mod BeginsFall
pub mod GuardsFall
pub mod OperationsFall
