pub mod Assumes
pub mod Listed
pub mod Meaning
pub mod Queue
pub mod Propagations
pub mod Sets
pub mod Sound
pub mod Watching
pub mod Bools
pub mod Truth
pub mod Order
pub mod Same
mod Sorts
mod Named
mod Encodes
