mod Allowed
pub mod Histories
mod Replies
mod Rows
