-- Laws of what specs/ defines: `Bits` of the bits of a number, `Zeros` of the zeros at either end of one, `Marks` of numbers that
-- are marked, `Room` of how many there can be.
pub mod Bits
pub mod Zeros
pub mod Marks
pub mod Room
