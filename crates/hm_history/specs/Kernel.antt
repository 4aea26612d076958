-- The model of the kernel: the phases of an operation, what is due to an actor, what a run is, and legal histories.
pub mod Operation
pub mod Stacks
pub mod Going
pub mod Due
pub mod Legal
pub mod Run
pub mod Overrun
pub mod Quiet
