pub mod TriedBookLock
pub mod TriedLemmaShelf
