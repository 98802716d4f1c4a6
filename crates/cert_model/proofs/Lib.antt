pub mod Carries
pub mod Derives
pub mod FirstPath
pub mod Grown
pub mod Header
pub mod Invariant
pub mod Last
pub mod LeastCourse
pub mod LeastHeader
pub mod LeastMeans
mod LeastRows
pub mod Limited
pub mod Limits
pub mod MarkLists
pub mod Narrowings
pub mod Means
pub mod OverLeaves
pub mod PlainGoal
pub mod Problems
mod Rows
pub mod SessionHeader
pub mod SessionLeads
pub mod SessionMeans
mod SessionRows
pub mod SessionTexts
pub mod SessionWrites
pub mod Spells
pub mod Takes
pub mod Texts
mod TextRows
pub mod Versions
pub mod Writes
