pub mod Grammar
pub mod Graphs
pub mod Laws
pub mod Reading
