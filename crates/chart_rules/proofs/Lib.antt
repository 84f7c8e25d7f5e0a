-- Laws of what specs/ defines: `Told` that each test tells its rule, `Readable` that an accepted chart can be read, with the list
-- `chart_needs` by which `search` finds that.
pub mod Told
pub mod Readable
