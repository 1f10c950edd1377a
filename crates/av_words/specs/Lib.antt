pub mod Bounds
pub mod WordRoles
pub mod WordValues
pub mod WordFaults
pub mod WordChecks
pub mod CommandWords
