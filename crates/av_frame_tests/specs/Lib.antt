pub mod Bools
pub mod SmallFilters
pub mod SmallFilterLaws
pub mod Synced
pub mod SyncedLaws
