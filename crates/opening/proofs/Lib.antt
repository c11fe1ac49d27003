pub mod Rules
pub mod Accepted
