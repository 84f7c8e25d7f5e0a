-- Words of a chart and words of its flat table agree if the flat ones show the chart's children where the chart looks; and
-- then they make the same states active. Assumes nothing.
use Prim.Native.Nat.{ℕ, ◌<◌}
use mathlib.Core.Path.{◌≡◌, refl, sym, ap, ◌∙◌}
use mathlib.Core.Bool.{Bool, true, false, ◌&&◌, ◌||◌}
use mathlib.Core.List.{List, map}
use native.Mathlib.Omega.{arith}
use lib.ListN.{length, get_or, length-map}
use lib.Seq.{ext_get_or}
use lib.Dec.{eqb, ltb}
use Rattle.words.specs.Loops.{tab, greatest}
use Rattle.words.proofs.Tests.{by_bool, eqb_yes, eqb_no, eqb_eq, eqb_ne, ltb_lt, and_l, and_r, and_i}
use Rattle.words.proofs.Loops.{greatest_passes}
use Rattle.words.proofs.Ranks.{rank_inj}
use Rattle.chart.specs.View.{Chart, IsOr, is_and}
use Rattle.flat.specs.View.{flat_view}
use Rattle.chart_meaning.specs.Active.{or_rank, child, active_at, actives, active}
use Rattle.chart_meaning.specs.State.{or_states}
use Rattle.chart_meaning.specs.Theorems.{Children}
use Rattle.chart_meaning.proofs.Tree.{Tree, child_told, child_and}
use Rattle.chart_meaning.proofs.Words.{or_lt, or_inj}
use Rattle.flat_meaning.proofs.State.{Owned}
use Rattle.flatten_meaning.specs.Numbers.{and_rank, and_states}
use Rattle.flatten_meaning.specs.Flattened.{flattened}
use Rattle.flatten_meaning.specs.Encoded.{header, encode}
use Rattle.flatten_meaning.specs.Agreement.{flat_active_at, flat_active}
use Rattle.flatten_meaning.specs.Simulation.{Sim, ShowsChildren}
use Rattle.flatten_meaning.proofs.Laws.{tab_cong, map_at}
use Rattle.flatten_meaning.proofs.Children.{word_is}
use Rattle.flatten_meaning.proofs.Encoded.{shows}
use Rattle.flatten_meaning.proofs.Machines.{machines_are, states_are, owner_at, state_of}
use Rattle.flatten_meaning.proofs.Active.{word_test}
use Rattle.flatten_meaning.proofs.Near.{near_actives}

module _ (c : Chart) where
  abbrev has : ℕ → ℕ → Bool
  has v j = is_and c j && eqb (and_rank c j) v

  -- the and-state of a flat state
  and_state : ℕ → ℕ
  and_state v = greatest (has v) c.states

  record Found (v : ℕ) : Type 0 where
    in_chart : and_state v < c.states
    is_and_lem : is_and c (and_state v) ≡ true
    rank_is : and_rank c (and_state v) ≡ v

  found : (v : ℕ) → v < and_states c → Found v
  unfolding and_state and_rank
  found v h =
      let r = state_of c v h in
      let j = greatest (has v) c.states in
      let e = greatest_passes (has v) c.states r.state r.below (and_i r.and (eqb_yes r.number)) in
      let is_and_lem = and_l (is_and c j) (eqb (and_rank c j) v) e in
      let rank_is = eqb_eq (and_rank c j) v (and_r (is_and c j) (eqb (and_rank c j) v) e) in
      let same : j ≡ r.state = rank_inj (is_and c) j r.state is_and_lem r.and (rank_is ∙ sym r.number) in
      record { in_chart = rw same r.below; is_and_lem = is_and_lem; rank_is = rank_is }

  -- a word of a state of the table is a flat state of the machine whose word it is
  own_word : (f : List ℕ) → Owned (flat_view (encode (flattened c))) f → (m : ℕ) → m < or_states c
      → (get_or f m 0 < and_states c) × (get_or (flattened c).owners (get_or f m 0) 0 ≡ m)
  unfolding encode header
  own_word f own m h =
      let flat = flat_view (encode (flattened c)) in
      let v = get_or f m 0 in
      let told = own.own m (omega (arith, machines_are c)) in
      let l = ltb_lt v flat.states (and_l (ltb v flat.states) _ told) in
      let is = eqb_eq (flat.machine v) m (and_r (ltb v flat.states) _ told) in
      (omega (arith, l, states_are c), sym ((shows (flattened c)).machine v l) ∙ is)

module _ {c : Chart} (w : Tree c) (x f : List ℕ)
    (kids : Children c x) (own : Owned (flat_view (encode (flattened c))) f) (tells : ShowsChildren c x f) where
  abbrev word : ℕ → ℕ
  word o = get_or f (or_rank c o) 0

  abbrev real : List ℕ
  real = map (and_state c) f

  size : length f ≡ or_states c
  unfolding encode header
  size = own.long ∙ machines_are c

  real_child : (o : ℕ) → o < c.states → is_and c o ≡ false → child c real o ≡ and_state c (word o)
  unfolding child
  real_child o h a = map_at (and_state c) f (or_rank c o) 0 0 (omega (arith, size, or_lt c o h a))

  real_children : Children c real
  real_children o h n =
      let v = word o in
      let a = eqb_no n in
      let is = own_word c f own (or_rank c o) (or_lt c o h a) in
      let k = found c v is.0 in
      let j = and_state c v in
      let owner = owner_at c j k.in_chart k.is_and_lem in
      let place = sym owner ∙ ap (λ (i : ℕ). get_or (flattened c).owners i 0) k.rank_is ∙ is.1 in
      let up = or_inj c (c.parent j) o (w.and_up j k.in_chart k.is_and_lem) a place in
      rw (real_child o h a) ((child_told c o j).tells (k.in_chart, up))

  real_same : (o : ℕ) → o < c.states → IsOr c o → word o ≡ and_rank c (child c x o) → child c x o ≡ child c real o
  unfolding and_rank
  real_same o h n e =
      let a = eqb_no n in
      let k = found c (word o) (own_word c f own (or_rank c o) (or_lt c o h a)).0 in
      rank_inj (is_and c) (child c x o) (and_state c (word o)) (word_is w o h a x kids).is_and_lem k.is_and_lem
      (sym e ∙ sym k.rank_is)
      ∙ sym (real_child o h a)

  flat_real : f ≡ map (and_rank c) real
  flat_real =
      ext_get_or 0 f (map (and_rank c) real) (sym (length-map real (and_rank c) ∙ length-map f (and_state c)))
      (λ i l. let k = found c (get_or f i 0) (own_word c f own i (omega (arith, size))).0 in
      sym (map_at (and_rank c) real i 0 0 (omega (arith, length-map f (and_state c)))
      ∙ ap (and_rank c) (map_at (and_state c) f i 0 0 l)
      ∙ k.rank_is))

  pub sim_made : Sim c x f
  sim_made = record {
    real = real;
    near = record { left = kids; right = real_children; same = λ o h n q. real_same o h n (tells o h n q) };
    flat = flat_real;
  }

-- ---- words that agree make the same states active
module _ {c : Chart} (w : Tree c) where
  active_cell : (real : List ℕ) → Children c real → (j : ℕ) → j < c.states → (cells : List Bool)
      → active_at c real j cells ≡ flat_active_at c (map (and_rank c) real) j cells
  unfolding active_at flat_active_at
  active_cell real kids j h cells =
      by_bool (eqb j 0) (λ z. rw z refl)
      (λ z. let l = w.smaller j h (eqb_ne j 0 z) in
      by_bool (is_and c (c.parent j)) (λ a. rw a refl)
      (λ a. ap (λ (b : Bool). eqb j 0 || (get_or cells (c.parent j) false && (is_and c (c.parent j) || b)))
      (sym (word_test w real kids j h (child_and w j h (omega arith) a)))))

  pub sim_active : (x f : List ℕ) → Sim c x f → (j : ℕ) → active c x j ≡ flat_active c f j
  unfolding active actives flat_active
  sim_active x f s j =
      ap (λ (l : List Bool). get_or l j false)
      (near_actives w x s.real s.near
      ∙ tab_cong (active_at c s.real) (flat_active_at c (map (and_rank c) s.real)) c.states
      (active_cell s.real s.near.right)
      ∙ ap (λ (l : List ℕ). tab (flat_active_at c l) c.states) (sym s.flat))
