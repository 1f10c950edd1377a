pub mod Assignments
pub mod Demands
pub mod Walks
pub mod Listings
