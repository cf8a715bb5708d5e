pub mod After
pub mod Ascii
pub mod Back
pub mod LineBack
pub mod Maps
pub mod NoFloat
pub mod Plain
pub mod Shortest
pub mod StemFacts
pub mod Stems
pub mod Weak
pub mod WhichLine
mod Words
