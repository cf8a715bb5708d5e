mod Decimals
mod Making
