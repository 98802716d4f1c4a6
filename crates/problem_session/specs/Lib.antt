pub mod Changes
pub mod Session
