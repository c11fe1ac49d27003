pub mod Net
pub mod Figure
pub mod Telling
pub mod Rules
pub mod Together
pub mod FarApart
pub mod Opening
pub mod Internal
