-- Definitions that only code and proofs use: no public contract and no claim needs them.
pub mod Receivers
pub mod Listings
