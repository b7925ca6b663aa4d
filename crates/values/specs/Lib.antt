-- An entry of the table as a number: its bits in their word, and what they mean. Read Bits and Values.
pub mod Bits
pub mod Values
