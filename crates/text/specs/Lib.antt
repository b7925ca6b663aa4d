-- How the listing writes numbers, names and stamps. Read Ascii, Digits, Names and Stamps in this order.
pub mod Ascii
pub mod Digits
pub mod Names
pub mod Stamps
pub mod Aids
