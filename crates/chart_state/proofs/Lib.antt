-- Laws of what this crate works out: `Laid` of words laid into the front of others.
pub mod Laid
