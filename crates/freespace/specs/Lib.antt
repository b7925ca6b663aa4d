-- The space that is left: free space.
pub mod FreeSpace
