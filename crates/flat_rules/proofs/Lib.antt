-- Laws of what specs/ defines: `Told` that each test tells its rule, `Readable` that a table that keeps the rules can be read, `Read`
-- that tests on what is read are those on what the table shows.
pub mod Told
pub mod Readable
pub mod Read
