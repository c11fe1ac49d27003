pub mod Cases
pub mod Sums
pub mod Below
pub mod Digits
pub mod Hops
pub mod Stores
pub mod Lists
pub mod Counting
