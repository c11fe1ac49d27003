pub mod Answers
pub mod Searches
pub mod Judging
pub mod Chains
pub mod Sets
pub mod Transposition
pub mod Webs
pub mod Examples
