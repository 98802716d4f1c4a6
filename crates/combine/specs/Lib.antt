pub mod Coefficients
pub mod Parts
pub mod Visits
pub mod Hands
pub mod Lefts
pub mod Combined
pub mod Rooms
