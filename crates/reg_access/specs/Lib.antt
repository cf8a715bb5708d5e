pub mod Admitted
pub mod Found
pub mod JoinRows
pub mod Laws
pub mod Verdict
pub mod Grants
