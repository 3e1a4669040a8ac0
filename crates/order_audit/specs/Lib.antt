pub mod Sets
pub mod Rows
pub mod Cursors
pub mod Walking
