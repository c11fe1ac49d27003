pub mod Layout
pub mod Sheet
pub mod Adding
pub mod Internal
