pub mod Rules
pub mod Listing
pub mod Outcome
pub mod Draws
pub mod Calls
pub mod Rows
pub mod Internal
