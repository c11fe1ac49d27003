-- Definitions that only code and proofs use: no public contract and no claim needs them.
pub mod Order
pub mod Back
pub mod Maps
pub mod Rendezvous
pub mod Mailbox
