-- Definitions that only code and proofs use: no public contract and no claim needs them.
pub mod Graph
pub mod Wave
pub mod Claim
pub mod Tree
