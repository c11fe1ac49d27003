pub mod Kinds
pub mod Demand
pub mod Further
pub mod Carrying
pub mod FarApart
