mod SmallFilterLemmas
mod SyncedLemmas
mod SyncedEvents
