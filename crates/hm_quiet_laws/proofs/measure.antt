-- The measure: how many entries an actor that goes on alone may still add in its operation, by its stack of phases.
pub mod Left
pub mod Counts
pub mod Shapes
