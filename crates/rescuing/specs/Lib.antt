-- A file read off a volume that need not be sound: rescue.
pub mod Rescue
