pub mod Guards
pub mod Laws
