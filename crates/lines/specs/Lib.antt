-- The listing's lines. Read Lines; Worked has the paper's own case.
pub mod Lines
pub mod Worked
pub mod Aids
