pub mod FactLemmas
pub mod Lists
pub mod PatternTexts
pub mod ReportLines
pub mod RowFacts
