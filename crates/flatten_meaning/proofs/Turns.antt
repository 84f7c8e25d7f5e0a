-- One turn of each loop that writes a flat table: how numbers, cells and words go on from one record to the next.
-- Assumes nothing.
use Prim.Native.Nat.{ℕ, zero, suc, ◌+◌, ◌<◌}
use mathlib.Core.Path.{◌≡◌, refl, sym, ap, ◌∙◌}
use mathlib.Core.Bool.{Bool, false, not, ◌&&◌, cond}
use mathlib.Core.List.{List, [], ◌∷◌, ◌++◌, append-nil}
use native.Mathlib.Nat.{add-zero}
use native.Mathlib.Omega.{arith}
use lib.ListN.{length, length-append}
use Rattle.words.specs.Loops.{tab, many, joined, rank}
use Rattle.words.proofs.Tests.{by_bool}
use Rattle.words.proofs.Loops.{tab_at}
use Rattle.words.proofs.Lists.{joined_append}
use Rattle.table.specs.Span.{Span}
use Rattle.chart.specs.View.{Chart, is_and}
use Rattle.flat.specs.declared.FlatLiteral.{FlatLiteral}
use Rattle.chart_meaning.specs.Scope.{scoped}
use Rattle.flatten_meaning.specs.Flattened.{active_guard, active_guards, bare, taken_guard, taken_guards, may_at, may, forks, entered_guard, refer_at, refers, above}
use Rattle.flatten_meaning.specs.Encoded.{spans_from}

-- ---- rows and spans
-- one more record's words behind those of the records before
pub joined_next : {A B : Type 0} (row : A → List B) (xs : List A) (x : A)
    → joined row (xs ++ (x ∷ [])) ≡ joined row xs ++ row x
joined_next {A} {B} row xs x =
    joined_append row xs (x ∷ []) ∙ ap (λ (l : List B). joined row xs ++ l) (append-nil (row x))

pub many_next : {A : Type 0} (f : ℕ → A) (first count : ℕ)
    → many f first (suc count) ≡ many f first count ++ (f (first + count) ∷ [])
many_next f first zero = ap (λ (i : ℕ). f i ∷ []) (sym (add-zero first))
many_next {A} f first (suc count) =
    let e : suc first + count ≡ first + suc count = omega arith in
    ap (λ (l : List A). f first ∷ l)
    (many_next f (suc first) count ∙ ap (λ (i : ℕ). many f (suc first) count ++ (f i ∷ [])) e)

-- one more guard's span begins where the literals so far end
pub spans_next : (i : ℕ) (gs : List (List FlatLiteral)) (g : List FlatLiteral)
    → spans_from i (gs ++ (g ∷ []))
    ≡ spans_from i gs ++ (record { first = i + length (joined (λ (l : List FlatLiteral). l) gs); count = length g } ∷ [])
unfolding spans_from
spans_next i [] g = ap (λ (n : ℕ). record { first = n; count = length g } ∷ []) (sym (add-zero i))
spans_next i (h ∷ gs) g =
    let rest = joined (λ (l : List FlatLiteral). l) gs in
    let e : i + length h + length rest ≡ i + length (h ++ rest) = omega (arith, length-append h rest) in
    let here : Span = record { first = i; count = length h } in
    ap (λ (l : List Span). here ∷ l)
    (spans_next (i + length h) gs g
    ∙ ap (λ (n : ℕ). spans_from (i + length h) gs ++ (record { first = n; count = length g } ∷ [])) e)

-- ---- guards' numbers
module _ (c : Chart) where
  -- a transition's guard is its source's, or the next one
  pub taken_now : (t : ℕ)
      → taken_guard c t ≡ cond (bare c t) (active_guard c (c.source t)) (active_guards c + rank (λ s. not (bare c s)) t)
  unfolding taken_guard
  taken_now t = refl

  pub entered_first : entered_guard c 0 0 ≡ active_guards c + taken_guards c
  unfolding entered_guard
  entered_first = omega arith

  pub entered_next : (t j : ℕ)
      → entered_guard c t (suc j) ≡ cond (forks c t j) (suc (entered_guard c t j)) (entered_guard c t j)
  unfolding entered_guard
  entered_next t j = by_bool (forks c t j) (λ e. rw e (omega arith)) (λ e. rw e refl)

  -- the numbers run on from transition to transition
  pub entered_row : (t : ℕ) → entered_guard c (suc t) 0 ≡ entered_guard c t c.states
  unfolding entered_guard
  entered_row t = omega arith

  -- ---- cells
  -- whether t can enter j, by the cells of the states below j
  pub may_now : (t j : ℕ) → j < c.states → may c t j ≡ (scoped c t && may_at c t j (tab (may_at c t) j))
  unfolding may
  may_now t j h = ap (λ (b : Bool). scoped c t && b) (tab_at (may_at c t) false c.states j h)

  -- the guards that say what t enters, one more
  pub refers_next : (t j : ℕ)
      → refers c t (suc j)
      ≡ refers c t j ++ (cond (is_and c j) (cond (forks c t j) (entered_guard c t j) (above c t j)) 0 ∷ [])
  unfolding refers refer_at above
  refers_next t j = refl
