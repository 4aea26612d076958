-- What is left falls: migrations.
pub mod RecordsLeft
pub mod ItemsLeft
pub mod StepsFall
pub mod MovesFall
pub mod GuardsFall
pub mod SelectionFalls
pub mod OperationsFall
