pub mod Order
pub mod Cursors
pub mod Pieces
pub mod Table
pub mod Iterator
pub mod Run
