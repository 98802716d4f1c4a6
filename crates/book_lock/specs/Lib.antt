pub mod History
pub mod Laws
pub mod Rest
pub mod Rule
pub mod Shared
pub mod SlotSteps
