pub mod Words
pub mod Maps
pub mod Stored
pub mod Reading
pub mod Writing
pub mod RoundTrip
pub mod Openings
pub mod Internal
