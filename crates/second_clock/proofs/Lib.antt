-- The second clock's step is the driver's.
pub mod Tankless
pub mod Walks
pub mod Same
pub mod Laws
