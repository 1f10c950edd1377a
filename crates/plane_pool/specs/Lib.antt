pub mod Slot
pub mod Told
pub mod Asked
pub mod Owners
pub mod Pools
pub mod Rule
pub mod Free
