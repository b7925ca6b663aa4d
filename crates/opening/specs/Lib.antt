-- Files opened: open.
pub mod Open
