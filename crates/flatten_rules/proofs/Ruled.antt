-- Rules laid one behind the other. Assumes nothing.
use Prim.Native.Nat.{ℕ, suc, ◌+◌, ◌-◌, ◌<◌, ◌≤◌}
use mathlib.Core.Path.{◌≡◌, ap, ◌∙◌, subst}
use mathlib.Core.List.{List, [], ◌∷◌}
use native.Mathlib.Omega.{arith}
use Rattle.words.specs.Loops.{join_down}
use Rattle.flatten_meaning.specs.Tables.{FlatRule}
use Rattle.flatten_meaning.specs.Encoded.{rule_row}
use Rattle.flatten_laying.specs.Lay.{lay}
use Rattle.flatten_laying.proofs.Laid.{laid_none, rows_both}
use Rattle.flatten_rules.specs.Ruled.{Ruled}

pub one_rule : (r : FlatRule) {at next : ℕ} {ws old new : List ℕ} → ws ≡ rule_row r → next ≡ at + 6 → new ≡ lay at ws old
    → Ruled at (r ∷ []) old next new
one_rule r {at} {old = old} e p q = record { place = p; laid = q ∙ ap (λ (l : List ℕ). lay at l old) e }

-- six words, one by one
pub same_row : {a b d e f g a' b' d' e' f' g' : ℕ} → a ≡ a' → b ≡ b' → d ≡ d' → e ≡ e' → f ≡ f' → g ≡ g'
    → a ∷ b ∷ d ∷ e ∷ f ∷ g ∷ [] ≡ a' ∷ b' ∷ d' ∷ e' ∷ f' ∷ g' ∷ []
same_row p q r s t u = cc

-- a loop that lays the rules of falling numbers: with those below j behind what is laid, all are laid
abbrev pub Falling : (ℕ → List FlatRule) → ℕ → ℕ → List ℕ → ℕ → ℕ → List ℕ → Type 0
Falling f n at old j m mid =
    (next : ℕ) (new : List ℕ) → Ruled m (join_down f j) mid next new → Ruled at (join_down f n) old next new

module _ (f : ℕ → List FlatRule) (n at : ℕ) (old : List ℕ) where
  pub falling_next : (j : ℕ) {m l : ℕ} {mid end : List ℕ} → 0 < j → Falling f n at old j m mid
      → Ruled m (f (j - 1)) mid l end → Falling f n at old (j - 1) l end
  falling_next j {m} {l} {mid} {end} h inv one next new rest =
      let z : suc (j - 1) ≡ j = omega arith in
      inv next new (subst (λ (i : ℕ). Ruled m (join_down f i) mid next new) z
      (rows_both rule_row (f (j - 1)) (join_down f (j - 1)) one rest))

  pub falling_end : (j : ℕ) {m : ℕ} {mid : List ℕ} → j ≤ 0 → Falling f n at old j m mid
      → Ruled at (join_down f n) old m mid
  falling_end j {m} {mid} h inv =
      let z : 0 ≡ j = omega arith in
      inv m mid (subst (λ (i : ℕ). Ruled m (join_down f i) mid m mid) z laid_none)
