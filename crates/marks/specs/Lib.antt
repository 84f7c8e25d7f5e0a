-- `Bits`: numbers as the bits of words.
pub mod Bits
