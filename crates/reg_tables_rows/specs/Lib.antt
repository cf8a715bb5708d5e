pub mod Counting
pub mod WholeRows
