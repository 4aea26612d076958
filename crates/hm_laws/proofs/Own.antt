-- What an actor knows of its frames stays so after its own entries about other frames.
pub mod Facts
pub mod Places
pub mod Records
pub mod WhileEmptying
