pub mod Laws
pub mod NodeWidth
pub mod Plan
pub mod Search
pub mod Views
pub mod Width
