pub mod Places
pub mod WordsAgain
pub mod NamesAgain
pub mod EventsAgain
pub mod TextAgain
pub mod TracesAgain
