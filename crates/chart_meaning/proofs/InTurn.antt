-- The transitions that a microstep takes, carried out one after another, do what they do read at its start. Assumes
-- nothing.
use Prim.Native.Nat.{ℕ, zero, suc, ◌<◌, ◌≤◌}
use mathlib.Core.Path.{◌≡◌, refl, sym, ap, ◌∙◌}
use mathlib.Core.Logic.{◌≢◌, ⊎_elim}
use mathlib.Core.Bool.{Bool, true, false, not, ◌&&◌}
use mathlib.Core.List.{List, ◌++◌}
use native.Mathlib.Nat.{le_refl}
use native.Mathlib.Decide.{dec_le}
use native.Mathlib.Omega.{arith}
use lib.ListN.{get_or}
use Rattle.words.specs.Loops.{tab, all_below}
use Rattle.words.proofs.Tests.{by_bool, clash, and_l, and_r, or_l, or_r, not_yes}
use Rattle.words.proofs.Loops.{tab_at, tab_same, all_below_at}
use Rattle.effects.specs.Run.{Step, sets_of, set_all}
use Rattle.chart.specs.View.{Chart, is_and}
use Rattle.chart.specs.Tree.{within}
use Rattle.chart.proofs.Tree.{within_parent, chain}
use Rattle.chart_meaning.specs.Active.{or_rank, child, actives}
use Rattle.chart_meaning.specs.Scope.{scope, scoped, related}
use Rattle.chart_meaning.specs.Taken.{enabled, taken_at, takens}
use Rattle.chart_meaning.specs.Entered.{entereds}
use Rattle.chart_meaning.specs.Steps.{enters, fires, chart_machine}
use Rattle.chart_meaning.specs.Theorems.{in_turn, SameInTurn}
use Rattle.chart_meaning.proofs.Tree.{Tree, tree}
use Rattle.chart_meaning.proofs.Words.{or_inj}
use Rattle.chart_meaning.proofs.Stores.{set_all_cell}
use Rattle.chart_meaning.proofs.Sets.{comes_and, upto, took, machine_upto, From, sets_from}
use Rattle.chart_meaning.proofs.Entered.{entered_in}
use Rattle.chart_meaning.proofs.Beside.{enters_same, enters_idle, fires_same, fires_idle}

-- s is one of the transitions before t that are taken and have a scope
pub record Earlier (c : Chart) (tk : ℕ → Bool) (t s : ℕ) : Type 0 where
  pub before : s < t
  pub taken : tk s ≡ true
  pub has_scope : scoped c s ≡ true

module _ {c : Chart} (w : Tree c) (e : ℕ) (words vars : List ℕ) where
  abbrev tk : ℕ → Bool
  tk = took c e words vars

  -- the words after the transitions before t
  abbrev done : ℕ → List ℕ
  done t = set_all (sets_of (upto c tk words t)) words

  -- not at or below the scope of an earlier transition
  abbrev Free : ℕ → ℕ → Type 0
  Free t j = (s : ℕ) → Earlier c tk t s → within c (scope c s) j ≡ false

  free_above : (t j : ℕ) → j < c.states → j ≢ 0 → Free t j → Free t (c.parent j)
  free_above t j h z f s r =
      by_bool (within c (scope c s) (c.parent j))
      (λ q. clash (within c (scope c s) j) (within_parent c w.some w.smaller (scope c s) j h z q) (f s r)) (λ q. q)

  -- an or-state that was set is at or below the scope that set it
  set_within : (t o : ℕ) → is_and c o ≡ false → (v : ℕ) → From c tk words t (or_rank c o, v)
      → (s : ℕ) × Earlier c tk t s × (within c (scope c s) o ≡ true)
  set_within t o a v f =
      let s = f.by in
      let j = f.to in
      let b = comes_and c words s j f.to_in f.enters in
      let one : or_rank c o ≡ or_rank c (c.parent j) = ap (λ (p : ℕ × ℕ). p.0) f.is in
      let same : o ≡ c.parent j = or_inj c o (c.parent j) a (w.and_up j f.to_in b) one in
      let en = and_r (scoped c s) (get_or (entereds c words s) j false) f.enters in (
        s,
        record { before = f.by_in; taken = f.taken; has_scope = and_l (scoped c s) _ f.enters },
        rw same (entered_in w words s j f.to_in b en),
      )

  free_word : (t o : ℕ) → is_and c o ≡ false → Free t o → child c (done t) o ≡ child c words o
  unfolding child
  free_word t o a f =
      ⊎_elim (λ q. q)
      (λ m. let r = set_within t o a (child c (done t) o) (sets_from c tk words t (or_rank c o, child c (done t) o) m) in
      clash (within c (scope c r.0) o) r.2 (f r.0 r.1))
      (set_all_cell (sets_of (upto c tk words t)) words (or_rank c o))

  -- a transition is taken only if its scope is related to no earlier one's
  pub unrelated : (t : ℕ) → t < c.transitions → tk t ≡ true → (s : ℕ) → s < t → tk s ≡ true → related c s t ≡ false
  unfolding takens taken_at
  unrelated t h q s l r =
      let acts = actives c words in
      let rule = taken_at c e acts vars in
      let cells = tab rule t in
      let apart : ℕ → Bool = λ s. not (get_or cells s false && related c s t) in
      let free = and_r (enabled c e acts vars t) (all_below apart t) (sym (tab_at rule false c.transitions t h) ∙ q) in
      let here : get_or cells s false ≡ true = tab_same rule false t c.transitions s l (omega arith) ∙ r in
      not_yes (related c s t) (rw here at (all_below_at apart t s free l))

  -- one of two scopes at or above a state is at or above the other, so that they are related
  pub scopes_related : (s t j : ℕ) → j < c.states → scoped c s ≡ true → scoped c t ≡ true
      → within c (scope c s) j ≡ true → within c (scope c t) j ≡ true → related c s t ≡ true
  unfolding related
  scopes_related s t j h a b p q =
      let up = chain c w.some w.smaller in
      let m = scope c s in
      let n = scope c t in
      rw (a, b) (elim (dec_le m n) [
        | yes l ↦ or_l (within c m n) _ (up m n j h p q l)
        | no l ↦ or_r (within c m n) (within c n m) (up n m j h q p (omega arith))
      ])

  free_below : (t : ℕ) → t < c.transitions → tk t ≡ true → scoped c t ≡ true
      → (j : ℕ) → j < c.states → within c (scope c t) j ≡ true → Free t j
  free_below t l q b j h p s r =
      by_bool (within c (scope c s) j)
      (λ i. clash (related c s t) (scopes_related s t j h r.has_scope b i p) (unrelated t l q s r.before r.taken))
      (λ i. i)

  fires_turn : (t : ℕ) → t < c.transitions → tk t ≡ true
      → fires c (done t) (actives c (done t)) t ≡ fires c words (actives c words) t
  fires_turn t l q =
      by_bool (scoped c t)
      (λ b. fires_same w words (done t) t (Free t) (free_above t) (free_below t l q b) (λ o h a f. free_word t o a f))
      (λ b. fires_idle c words (done t) t b)

  -- and it enters the same, whichever states it leaves
  pub enters_turn : (t : ℕ) → t < c.transitions → tk t ≡ true → enters c (done t) t ≡ enters c words t
  enters_turn t l q =
      by_bool (scoped c t)
      (λ b. enters_same w words (done t) t (Free t) (free_above t) (free_below t l q b) (λ o h a f. free_word t o a f))
      (λ b. enters_idle c words (done t) t b)

  turns : (n : ℕ) → n ≤ c.transitions → in_turn c (takens c e (actives c words) vars) n words ≡ upto c tk words n
  unfolding in_turn
  turns zero h = refl
  turns (suc n) h =
      rw (turns n (omega arith))
      (ap (λ (l : List Step). upto c tk words n ++ l)
      (by_bool (tk n) (λ q. rw q (fires_turn n h q)) (λ q. rw q refl)))

  pub in_turn_lem : in_turn c (takens c e (actives c words) vars) c.transitions words ≡ chart_machine c e words vars
  in_turn_lem = turns c.transitions (le_refl c.transitions) ∙ sym (machine_upto c e words vars)

pub same_in_turn : SameInTurn
same_in_turn chart r e words vars kids = in_turn_lem (tree r) e words vars
