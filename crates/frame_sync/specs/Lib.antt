pub mod Framesync
pub mod Histories
pub mod Lanes
pub mod Timelines
pub mod Laws
pub mod SlowEvents
