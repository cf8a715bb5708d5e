mod Admitting
mod Answered
mod Askers
pub mod Calls
mod CrateLaw
mod CrateText
mod Distinct
mod FoundFacts
mod GrantRows
mod GrantText
mod GrantAsked
pub mod GrantLaw
mod GrantLists
mod JoinLaw
mod Joins
mod Nulls
pub mod Questions
mod ReadLaw
mod ReservedLaw
mod ReservedText
mod ScopeLaw
mod ScopeText
mod Somes
mod TokenLaw
pub mod VersionIds
mod VersionLaw
mod VersionTexts
mod Words
