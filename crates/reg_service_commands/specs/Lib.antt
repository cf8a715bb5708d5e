pub mod Exported
pub mod Orders
pub mod ReportedCrates
pub mod ReportedTokens
pub mod Reports
pub mod Telling
