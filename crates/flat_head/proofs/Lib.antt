-- Laws of what specs/ defines: `Told` that each test tells its rule, `Readable` that a table that keeps the rules can be read.
pub mod Told
pub mod Readable
