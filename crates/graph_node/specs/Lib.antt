pub mod Times
pub mod Ports
pub mod Laws
pub mod Nodes
