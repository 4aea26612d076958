-- What a migration that meets nobody keeps.
pub mod FreshPages
pub mod FreshStays
pub mod MovesKeepWell
pub mod MigrationsKeepWell
pub mod SelectedPages
pub mod MovesDeal
pub mod MigrationsDeal
pub mod PagesReturn
pub mod PagesArrive
pub mod MigrationsEnd
