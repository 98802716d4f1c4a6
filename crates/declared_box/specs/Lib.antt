pub mod Axes
pub mod Interval
pub mod Laws
pub mod Same
pub mod Sweep
pub mod Table
pub mod Views
pub mod Calls
