-- What the rules and a giving up say of the past is what the history has.
pub mod GivingUp
pub mod Short
pub mod Told
