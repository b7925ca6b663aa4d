-- Files ended: delete.
pub mod Delete
