pub mod Events
pub mod Form
pub mod Process
