mod Rows
mod Full
mod Named
mod Asked
mod Users
