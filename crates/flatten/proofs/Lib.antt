-- Laws of flattening: `Written` of what is laid, `Answers` of what is said.
pub mod Written
pub mod Answers
