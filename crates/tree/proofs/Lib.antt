pub mod Kind
pub mod Rendezvous
pub mod Carrying
pub mod Mailbox
pub mod Example
pub mod Tree
