-- Laws of what specs/ defines: `Told` that each test tells its rule, `Readable` that a table which keeps them can be read.
pub mod Told
pub mod Readable
