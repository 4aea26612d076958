-- What is left falls: accesses, and operations that take a page alone.
pub mod GuardsFall
pub mod PiecesFall
pub mod HomeFalls
pub mod OperationsFall
