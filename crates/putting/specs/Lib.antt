-- A file made longer (Longer), and bytes put into it (Written).
pub mod Longer
pub mod Written
pub mod Aids
