pub mod TriedBookLock
