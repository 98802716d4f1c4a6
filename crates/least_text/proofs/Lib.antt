pub mod Books
pub mod Covered
pub mod Leads
pub mod Pointed
pub mod Remains
pub mod Whole
pub mod Written
