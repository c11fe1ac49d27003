pub mod Bits
pub mod Laws
pub mod Selected
pub mod Unions
