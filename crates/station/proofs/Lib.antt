pub mod Lent
pub mod Formed
pub mod Outcomes
pub mod Laws
pub mod Examples
