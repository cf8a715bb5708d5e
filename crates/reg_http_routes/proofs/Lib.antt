pub mod Fitting
pub mod Walking
pub mod Parts
pub mod Leading
