pub mod ActorsKept
pub mod Comings
pub mod KeysKept
pub mod RisingKept
pub mod TaskKept
