mod DeadEnds
mod Trying
mod Turning
mod Waiting
