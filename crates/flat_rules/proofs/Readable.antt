-- A table that keeps the rules can be read, by rules 11 to 13. Assumes nothing.
use Prim.Native.Nat.{ℕ}
use mathlib.Core.List.{List}
use borrow.Author.Rules.{rules}
use Rattle.flat.specs.Readable.{FlatReadable}
use Rattle.flat_head.proofs.Readable.{readable}
use Rattle.flat_rules.specs.Rules.{FlatRules}

pub flat_readable : {t : List ℕ} → FlatRules t → FlatReadable t
flat_readable g = readable g.form g.counts g.layout

-- for `search`, where a table that keeps the rules is read
pub ruleset flat_needs = (rules, flat_readable)
