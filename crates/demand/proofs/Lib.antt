pub mod Counted
pub mod Demand
pub mod Further
pub mod Carrying
pub mod FarApart
