-- What the target word of a rule of a flat table says.
use Rattle.std.specs.Prelude.{ℕ, cond, eqb, Option, None, Some}

-- 01, Flat words, Rule: "target or 65535".
abbrev pub flat_target_of : ℕ → Option ℕ
flat_target_of w = cond (eqb w 65535) None (Some w)
