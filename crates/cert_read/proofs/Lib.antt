pub mod Ahead
mod Answered
mod ByFirst
mod Counts
mod KeywordWords
mod LineRows
mod Paired
pub mod Parts
pub mod Pieces
pub mod Spelled
mod WordSteps
mod Takings
