-- The guard of an and-state is true where the and-state is active. Assumes nothing.
use Prim.Native.Nat.{ℕ, ◌<◌}
use mathlib.Core.Path.{◌≡◌, refl, sym, ap, ap₂, ◌∙◌}
use mathlib.Core.Logic.{◌≢◌}
use mathlib.Core.Bool.{Bool, true, false, ◌&&◌, and-true, and_comm}
use mathlib.Core.List.{List, [], map}
use native.Mathlib.Omega.{arith}
use lib.ListN.{length, get_or, get_or-map}
use lib.Dec.{eqb}
use Rattle.words.specs.Loops.{all}
use Rattle.words.proofs.Tests.{by_bool, eqb_eq, eqb_ne}
use Rattle.words.proofs.Smaller.{by_smaller}
use Rattle.chart.specs.View.{Chart, is_and}
use Rattle.flat.specs.declared.FlatLiteral.{FlatLiteral}
use Rattle.flat.specs.declared.FlatLiteral.TheVariants.{Current}
use Rattle.chart_meaning.specs.Active.{or_rank, child, active}
use Rattle.chart_meaning.specs.Theorems.{Children}
use Rattle.chart_meaning.proofs.Tree.{Tree, up_lt, grand_lt}
use Rattle.chart_meaning.proofs.Active.{active_root, active_or, active_and}
use Rattle.flatten_meaning.specs.Numbers.{and_rank}
use Rattle.flatten_meaning.specs.Tables.{current_in, holds_in, values_in}
use Rattle.flatten_meaning.specs.Flattened.{grand, asked, active_guard, active_literals, all_guards, flattened}
use Rattle.flatten_meaning.proofs.Sums.{rank_eqb}
use Rattle.flatten_meaning.proofs.Children.{word_is}
use Rattle.flatten_meaning.proofs.Encoded.{shows}
use Rattle.flatten_meaning.proofs.Machine.{guard_value}
use Rattle.flatten_meaning.proofs.Machines.{owner_at}
use Rattle.flatten_meaning.proofs.Asked.{asked_and, asked_grand, LiteralsKept}
use Rattle.flatten_meaning.proofs.Places.{active_in, active_at_lem}
use Rattle.flatten_meaning.proofs.Names.{guards_good}

module _ (c : Chart) (words vars : List ℕ) where
  -- the values of the flat table's guards at the chart's own words; a guard's, and a literal's
  abbrev pub values : List Bool
  values = values_in (flattened c) (map (and_rank c) words) vars

  abbrev pub value : ℕ → Bool
  value k = get_or values k false

  abbrev pub hold : FlatLiteral → Bool
  hold = holds_in (flattened c) (map (and_rank c) words) vars values

module _ {c : Chart} (w : Tree c) (fit : LiteralsKept c) (words vars : List ℕ) where
  -- a guard's value is what its literals say
  pub value_is : (k : ℕ) (asks : List FlatLiteral) → k < length (all_guards c) → get_or (all_guards c) k [] ≡ asks
      → value c words vars k ≡ all (hold c words vars) asks
  unfolding flattened
  value_is k asks h e =
      guard_value (shows (flattened c)) (guards_good w fit) (map (and_rank c) words) vars k h
      ∙ ap (all (hold c words vars)) e

-- a machine is at an and-state's flat state where its or-state's current child is the and-state
pub word_test : {c : Chart} → Tree c → (words : List ℕ) → Children c words → (j : ℕ) → j < c.states → is_and c j ≡ true
    → eqb (get_or (map (and_rank c) words) (or_rank c (c.parent j)) 0) (and_rank c j) ≡ eqb (child c words (c.parent j)) j
unfolding child and_rank
word_test {c} w words kids j h a =
    let o = c.parent j in
    ap (λ (k : ℕ). eqb k (and_rank c j)) (get_or-map (and_rank c) words (or_rank c o) 0)
    ∙ rank_eqb (is_and c) (child c words o) j
    (word_is w o (omega (arith, up_lt w j h a)) (w.and_up j h a) words kids).is_and_lem a

module _ {c : Chart} (w : Tree c) (fit : LiteralsKept c) (words vars : List ℕ) (kids : Children c words) where
  pub current_is : (j : ℕ) → j < c.states → is_and c j ≡ true
      → hold c words vars (Current (and_rank c j)) ≡ eqb (child c words (c.parent j)) j
  unfolding holds_in current_in
  current_is j h a =
      ap (λ (k : ℕ). eqb (get_or (map (and_rank c) words) k 0) (and_rank c j)) (owner_at c j h a)
      ∙ word_test w words kids j h a

  -- a child of the root is active where it is current, any other and-state if the one above is, too
  active_top : (j : ℕ) → j < c.states → is_and c j ≡ true → c.parent j ≡ 0
      → active c words j ≡ eqb (child c words (c.parent j)) j
  active_top j h a z =
      active_and w words j h a
      ∙ ap (λ (k : ℕ). active c words k && eqb (child c words (c.parent j)) j) z ∙ rw (active_root w words) refl

  active_in_grand : (j : ℕ) → j < c.states → is_and c j ≡ true → c.parent j ≢ 0
      → active c words j ≡ (eqb (child c words (c.parent j)) j && active c words (grand c j))
  active_in_grand j h a z =
      let l = up_lt w j h a in
      active_and w words j h a
      ∙ ap (λ (b : Bool). b && eqb (child c words (c.parent j)) j)
      (active_or w words (c.parent j) (omega arith) z (w.and_up j h a))
      ∙ and_comm (active c words (grand c j)) (eqb (child c words (c.parent j)) j)

  abbrev Shows : ℕ → Type 0
  Shows j = j < c.states → asked c j ≡ true → value c words vars (active_guard c j) ≡ active c words j

  guard_shows : (j : ℕ) → ((k : ℕ) → k < j → Shows k) → Shows j
  unfolding active_literals holds_in
  guard_shows j ih h b =
      let a = asked_and c j b in
      value_is w fit words vars (active_guard c j) (active_literals c j) (active_in c j h b) (active_at_lem c j h b)
      ∙ by_bool (eqb (c.parent j) 0)
      (λ e. rw e (and-true _ ∙ current_is j h a ∙ sym (active_top j h a (eqb_eq (c.parent j) 0 e))))
      (λ e. let z = eqb_ne (c.parent j) 0 e in
      let l = grand_lt w j h a z in
      rw e
      (ap₂ ◌&&◌ (current_is j h a) (and-true _ ∙ ih (grand c j) l (omega arith) (asked_grand w j h b z))
      ∙ sym (active_in_grand j h a z)))

  pub active_value : (j : ℕ) → Shows j
  active_value = by_smaller Shows guard_shows
