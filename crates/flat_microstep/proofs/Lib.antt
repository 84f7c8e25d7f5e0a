-- Laws of what this crate works out: `Inside` that the guards of a rule are there, `Seeking` of rules that are passed over, `Asking`
-- of guards that are asked for, `Firing` of the rules that fire.
pub mod Inside
pub mod Seeking
pub mod Asking
pub mod Firing
