pub mod HoldSteps
pub mod HeldSystems
pub mod KeptTurns
mod Sure
