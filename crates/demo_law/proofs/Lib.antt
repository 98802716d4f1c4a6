mod Commands
pub mod Faultless
mod Numeral
mod Room
mod Shape
mod Text
mod Walked
