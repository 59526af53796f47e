-- How rows are written: their sizes, and the tables, blocks and ranges that they are cut into.
pub mod Sizes
pub mod Plan
pub mod Tables
pub mod TableBytes
