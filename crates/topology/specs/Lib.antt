pub mod Answer
pub mod Acceptance
pub mod Web
pub mod Internal
