-- A file's attribute told and changed: file mode.
pub mod Mode
pub mod Aids
