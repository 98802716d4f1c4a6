pub mod Base
pub mod Gathered
pub mod Views
