pub mod Laws
pub mod Margins
pub mod Models
pub mod Runs
pub mod Stored
pub mod Views
