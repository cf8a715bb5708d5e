pub mod AccountEntries
mod Additions
pub mod AllCrates
pub mod ArchiveEntries
mod Common
mod CrateChanges
pub mod CrateCounts
pub mod CrateLemmas
pub mod CrateNames
mod CratesStand
mod Dropped
pub mod FoundTokens
pub mod IndexWalk
pub mod Made
mod Migrated
pub mod NextId
mod Marking
pub mod MarkedStand
pub mod Numbered
pub mod Gates
mod PairsStand
pub mod PairChanges
pub mod PairEntries
pub mod Raising
pub mod Readings
mod Removed
mod ReservedChanges
mod Relations
pub mod Results
mod Rising
pub mod Room
pub mod RowReading
pub mod Rowids
pub mod ScopeRows
pub mod Selected
pub mod Standing
pub mod SummaryRows
pub mod SummaryLaws
mod SummaryFound
mod SummaryMarked
pub mod SummaryPushed
mod SummarySteps
mod SummaryChanges
mod SummaryTops
pub mod Stays
mod TokenChanges
pub mod TokenEntries
pub mod VersionCounts
pub mod VersionEntries
pub mod Walking
pub mod Withins
mod Writings
mod Yanks
mod Words
