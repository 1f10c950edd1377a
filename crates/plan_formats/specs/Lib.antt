pub mod Wished
pub mod PathFormats
