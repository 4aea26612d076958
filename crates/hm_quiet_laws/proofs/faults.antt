-- What is left falls: the decisions of a fault.
pub mod StagesLeft
pub mod TakesFall
pub mod StartsFall
pub mod FaultsFall
pub mod DecisionsFall
