pub mod Stations
pub mod Words
pub mod Kept
pub mod Internal
