-- The kinds of diskette. Read Kinds, Places and Images.
pub mod Kinds
pub mod Places
pub mod Images
pub mod Aids
