mod AboutQueries
mod AboutTexts
mod AccountQueries
mod AccountTexts
mod ArchiveQueries
mod ArchiveTexts
mod CrateQueries
mod CrateTexts
mod FirstIds
mod PairQueries
mod PairTexts
mod Relations
mod ReservedTexts
mod RestrictedQueries
mod RestrictedTexts
mod RowidQueries
mod ScopeQueries
mod ScopeTexts
mod SummaryQueries
mod SummaryTexts
mod TokenTexts
mod Updates
mod VersionMarkQueries
mod VersionQueries
mod VersionRows
mod VersionTexts
pub mod ReservedQueries
pub mod StemQueries
pub mod TokenQueries
pub mod Walking
mod Words
