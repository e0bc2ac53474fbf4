-- The laws of the player.
pub mod Picking
pub mod Soonest
pub mod Slots
pub mod Steps
pub mod Releases
pub mod Moments
pub mod Playing
pub mod Staging
pub mod Turned
pub mod Ways
pub mod Within
pub mod Exactly
