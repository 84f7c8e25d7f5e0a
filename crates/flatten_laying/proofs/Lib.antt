-- Laws of words laid into others: `Lay` of the words, `Laid` of one call behind another.
pub mod Lay
pub mod Laid
