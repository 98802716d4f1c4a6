pub mod Real
pub mod RealPoint
pub mod Laws
pub mod RootOfTwo
pub mod RealMeaning
