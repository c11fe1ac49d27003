pub mod Sum
pub mod Below
pub mod Numbers
pub mod Tests
pub mod Links
pub mod Hops
pub mod Stores
pub mod Internal
