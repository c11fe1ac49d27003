pub mod Output
pub mod Running
pub mod Internal
