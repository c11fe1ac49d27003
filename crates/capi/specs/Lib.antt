pub mod Answers
pub mod Process
pub mod Map
pub mod Steps
pub mod Internal
