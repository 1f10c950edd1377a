pub mod Sums
pub mod Keeps
pub mod Owned
pub mod Parts
pub mod Rows
pub mod Laws
pub mod PoolLemmas
