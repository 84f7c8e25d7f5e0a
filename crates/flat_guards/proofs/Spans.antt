-- A loop through the literals of a guard's span: what rule 16 says of the literal where it is, and that what is asked of all is asked
-- of those left. Assumes nothing.
use Prim.Native.Nat.{ℕ, ◌+◌, ◌-◌, ◌<◌, ◌≤◌}
use mathlib.Core.Path.{◌≡◌, sym, ap, ◌∙◌}
use mathlib.Core.Bool.{Bool, true, false}
use mathlib.Core.List.{List}
use native.Mathlib.Omega.{arith}
use Rattle.words.specs.Loops.{many, all}
use Rattle.words.proofs.Many.{all_good, all_bad, all_end}
use Rattle.flat.specs.View.{Flat, flat_view}
use Rattle.flat.specs.Literals.{flat_literal_in}
use Rattle.flat.specs.declared.FlatLiteral.{FlatLiteral}
use Rattle.flat_rules.specs.Rules.{FlatRules}
use Rattle.flat_meaning.specs.Guards.{flat_literals_of}
use Rattle.flat_guards.specs.Names.{Names}
use Rattle.flat_guards.specs.Parts.{AsksFor}
use Rattle.flat_guards.proofs.Named.{held_names, held_smaller}

-- literal n of a flat table
abbrev pub literal : Flat → ℕ → FlatLiteral
literal f n = flat_literal_in (f.literal n)

-- the number behind guard k's last literal
abbrev end_of : Flat → ℕ → ℕ
end_of f k = (f.asks k).first + (f.asks k).count

-- what is asked of all literals of guard k is asked of those from literal i on
pub record AskedOfRest (p : FlatLiteral → Bool) (f : Flat) (k i : ℕ) : Type 0 where
  pub is : all p (flat_literals_of f k) ≡ all p (many (literal f) i (end_of f k - i))

pub rest_all : (p : FlatLiteral → Bool) (f : Flat) (k i : ℕ) → i ≡ (f.asks k).first → AskedOfRest p f k i
unfolding flat_literals_of
rest_all p f k i e =
    let left : end_of f k - i ≡ (f.asks k).count = omega arith in
    record { is = rw left (sym (ap (λ (n : ℕ). all p (many (literal f) n (f.asks k).count)) e)) }

module _ {p : FlatLiteral → Bool} {f : Flat} {k i : ℕ} (rest : AskedOfRest p f k i) where
  pub rest_none : end_of f k ≤ i → all p (flat_literals_of f k) ≡ true
  rest_none h = rest.is ∙ all_end p (literal f) i (end_of f k - i) (omega arith)

  -- b tells whether literal i passes
  module _ (on : i < end_of f k) {x : FlatLiteral} {b : Bool} (read : x ≡ literal f i) (told : b ≡ p x) where
    left : 0 < end_of f k - i
    left = omega arith

    passes : p (literal f i) ≡ b
    passes = sym (told ∙ ap p read)

    pub rest_bad : b ≡ false → all p (flat_literals_of f k) ≡ false
    rest_bad e = rest.is ∙ all_bad p (literal f) i (end_of f k - i) left (passes ∙ e)

    pub rest_good : b ≡ true → AskedOfRest p f k (i + 1)
    rest_good e =
        let one_less : end_of f k - (i + 1) ≡ end_of f k - i - 1 = omega arith in
        record { is = rw one_less (rest.is ∙ all_good p (literal f) i (end_of f k - i) left (passes ∙ e)) }

-- what a literal of guard k's span names is there, and the guard that it asks for is smaller
module _ {t : List ℕ} {k i : ℕ} (g : FlatRules t) (m : k < (flat_view t).guards) (from : ((flat_view t).asks k).first ≤ i)
    (on : i < end_of (flat_view t) k) {x : FlatLiteral} (read : x ≡ literal (flat_view t) i) where
  pub literal_names : Names (flat_view t) x
  literal_names = rw read (held_names (flat_view t) k (g.guards k m) i from on m)

  pub literal_smaller : (a : ℕ) → AsksFor x a → a < k
  literal_smaller = rw read (held_smaller (flat_view t) k (g.guards k m) i from on)
