-- Drains that never find a full history.
pub mod DrainHasRoom
pub mod FromStart
