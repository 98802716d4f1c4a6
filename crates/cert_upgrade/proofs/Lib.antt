pub mod Breaks
pub mod GoalRaised
pub mod Raised
pub mod SessionRaised
pub mod Upgrades
