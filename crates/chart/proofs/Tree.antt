-- Where parents have smaller numbers, `within` tells what is above a state, and `apart` what 01 asks of two targets.
-- Assumes nothing.
use Prim.Native.Nat.{ℕ, zero, suc, ◌<◌, ◌≤◌}
use mathlib.Core.Path.{◌≡◌, sym, ap, ◌∙◌}
use mathlib.Core.Logic.{◌≢◌, ◌⊎◌, inl, inr, ⊎_elim}
use mathlib.Core.Bool.{Bool, true, ◌&&◌, ◌||◌}
use native.Mathlib.Nat.{not-suc-le-zero, le_refl}
use native.Mathlib.Omega.{arith}
use lib.Dec.{eqb}
use Rattle.words.proofs.Tests.{by_bool, eqb_yes, eqb_no, eqb_eq, eqb_ne, ltb_yes}
use Rattle.words.proofs.Tests.{and_l, and_r, and_i, or_r, or_second, not_yes, not_no}
use Rattle.words.proofs.Loops.{greatest_passes, greatest_most}
use Rattle.chart.specs.View.{Chart, is_and}
use Rattle.chart.specs.Tree.{Above, parent_of, above_parent, Nearest, Apart}
use Rattle.chart.specs.Tree.{within, common, meeting, unequal, apart}
use Rattle.chart.proofs.Within.{within_step, within_root, within_self, within_le}

module _ (c : Chart) (some : 0 < c.states) (grows : (j : ℕ) → j < c.states → j ≢ 0 → c.parent j < j) where
  -- ---- going up
  -- what a state has if its parent has it
  abbrev pub Step : (ℕ → Type 0) → Type 0
  Step P = (j : ℕ) → j < c.states → (j ≢ 0 → P (c.parent j)) → P j

  climb_by : (P : ℕ → Type 0) → Step P → (f j : ℕ) → j < f → j < c.states → P j
  climb_by P step zero j l h = absurd (not-suc-le-zero l)
  climb_by P step (suc f) j l h =
      step j h (λ z. let p = grows j h z in climb_by P step f (c.parent j) (omega arith) (omega arith))

  -- every state has it
  pub climb : (P : ℕ → Type 0) → Step P → (j : ℕ) → j < c.states → P j
  climb P step j = climb_by P step (suc j) j (le_refl (suc j))

  pub within_is : (a j : ℕ) → j < c.states → j ≢ 0 → within c a j ≡ (eqb a j || within c a (c.parent j))
  within_is a j h z =
      within_step c a j h z
      ∙ ap (λ (b : Bool). eqb a j || (b && within c a (c.parent j))) (ltb_yes (c.parent j) j (grows j h z))

  -- j is a, or has a parent that is a or has a above it
  abbrev Cases : ℕ → ℕ → Type 0
  Cases a j = (a ≡ j) ⊎ ((j ≢ 0) × (within c a (c.parent j) ≡ true))

  within_cases : (a j : ℕ) → j < c.states → within c a j ≡ true → Cases a j
  within_cases a j h w =
      by_bool (eqb a j) (λ e. inl (eqb_eq a j e))
      (λ e. by_bool (eqb j 0)
      (λ z. let r = eqb_eq j 0 z in inl (eqb_eq a 0 (sym (within_root c a some) ∙ ap (within c a) (sym r) ∙ w) ∙ sym r))
      (λ z. let r = eqb_ne j 0 z in
      inr (r, or_second (eqb a j) (within c a (c.parent j)) (sym (within_is a j h r) ∙ w) e)))

  pub within_parent : (a j : ℕ) → j < c.states → j ≢ 0 → within c a (c.parent j) ≡ true → within c a j ≡ true
  within_parent a j h z w = within_is a j h z ∙ or_r (eqb a j) (within c a (c.parent j)) w

  pub all_within_root : (j : ℕ) → j < c.states → within c 0 j ≡ true
  all_within_root =
      climb (λ j. within c 0 j ≡ true)
      (λ j h ih. by_bool (eqb j 0) (λ z. rw (eqb_eq j 0 z) (within_self c 0 some))
      (λ z. within_parent 0 j h (eqb_ne j 0 z) (ih (eqb_ne j 0 z))))

  -- ---- above
  pub above_told : (a j : ℕ) → j < c.states → within c a j ≡ true → (a ≡ j) ⊎ Above c a j
  above_told a =
      climb (λ j. within c a j ≡ true → (a ≡ j) ⊎ Above c a j)
      (λ j h ih w. ⊎_elim inl
      (λ q. inr (⊎_elim (λ e. parent_of q.0 (sym e)) (above_parent q.0) (ih q.0 q.1)))
      (within_cases a j h w))

  pub above_tells : (a j : ℕ) → j < c.states → Above c a j → within c a j ≡ true
  above_tells a j h (parent_of z e) = within_parent a j h z (rw e (within_self c a (omega (arith, grows j h z))))
  above_tells a j h (above_parent z p) =
      let l = grows j h z in within_parent a j h z (above_tells a (c.parent j) (omega arith) p)

  pub above_lt : (a j : ℕ) → j < c.states → Above c a j → a < j
  above_lt a j h (parent_of z e) = omega (arith, grows j h z)
  above_lt a j h (above_parent z p) = let l = grows j h z in omega (arith, above_lt a (c.parent j) (omega arith) p)

  -- of two states at or above j, the smaller is at or above the greater
  pub chain : (k m j : ℕ) → j < c.states → within c k j ≡ true → within c m j ≡ true → k ≤ m → within c k m ≡ true
  chain k m =
      climb (λ j. within c k j ≡ true → within c m j ≡ true → k ≤ m → within c k m ≡ true)
      (λ j h ih v w l. ⊎_elim (λ e. rw e v)
      (λ q. let s = grows j h q.0 in
      let i = within_le c m (c.parent j) (omega arith) q.1 in
      ⊎_elim (λ e. absurd (omega arith)) (λ r. ih q.0 r.1 q.1 l) (within_cases k j h v))
      (within_cases m j h w))

  -- ---- two states apart
  -- at or above, and another state
  other : (m j : ℕ) → m ≢ j → (m ≡ j) ⊎ Above c m j → Above c m j
  other m j n (inl e) = absurd (n e)
  other m j n (inr p) = p

  module _ (a b : ℕ) (a_in : a < c.states) (b-in : b < c.states) where
    met : common c a b (meeting c a b) ≡ true
    unfolding meeting
    met = greatest_passes (common c a b) c.states 0 some (and_i (all_within_root a a_in) (all_within_root b b-in))

    at_first : within c (meeting c a b) a ≡ true
    at_first = and_l (within c (meeting c a b) a) (within c (meeting c a b) b) met

    at_second : within c (meeting c a b) b ≡ true
    at_second = and_r (within c (meeting c a b) a) (within c (meeting c a b) b) met

    -- a state at or above both is at most their meeting
    most : (k : ℕ) → within c k a ≡ true → within c k b ≡ true → k ≤ meeting c a b
    unfolding meeting
    most k v w = greatest_most (common c a b) c.states k (omega (arith, within_le c k a a_in v)) (and_i v w)

    -- where they do not meet in one of them, they meet in their nearest common ancestor
    nearest_meeting : meeting c a b ≢ a → meeting c a b ≢ b → Nearest c (meeting c a b) a b
    nearest_meeting x y =
        let m = meeting c a b in
        let m-in : m < c.states = omega (arith, within_le c m a a_in at_first) in
        record {
          above_first = other m a x (above_told m a a_in at_first);
          above_second = other m b y (above_told m b b-in at_second);
          nearest = λ k p q.
              let v = above_tells k a a_in p in
              above_told k m m-in (chain k m a a_in v at_first (most k v (above_tells k b b-in q)));
        }

    pub apart_told : apart c a b ≡ true → Apart c a b
    unfolding apart
    apart_told e =
        let m = meeting c a b in
        let x : m ≢ a = eqb_ne m a (not_yes (eqb m a) (and_l (unequal m a) _ e)) in
        let r = and_r (unequal m a) (unequal m b && is_and c m) e in
        let y : m ≢ b = eqb_ne m b (not_yes (eqb m b) (and_l (unequal m b) (is_and c m) r)) in
        let i = within_le c m a a_in at_first in
        let j = within_le c m b b-in at_second in
        let not_a : within c a b ≡ true → ⊥ = λ w. x (omega (arith, most a (within_self c a a_in) w)) in
        let not-b : within c b a ≡ true → ⊥ = λ w. y (omega (arith, most b w (within_self c b b-in))) in
        record {
          distinct = λ q. not_a (rw q (within_self c b b-in));
          first_not_above = λ p. not_a (above_tells a b b-in p);
          second_not_above = λ p. not-b (above_tells b a a_in p);
          meeting = m;
          meets = nearest_meeting x y;
          in_an_and_state = eqb_eq (c.kind m) 2 (and_r (unequal m b) (is_and c m) r);
        }

    pub apart_tells : Apart c a b → apart c a b ≡ true
    unfolding apart
    apart_tells p =
        let m = meeting c a b in
        let n = p.meeting in
        let near = p.meets in
        let x : m ≢ a = λ e. ⊎_elim p.distinct p.first_not_above (above_told a b b-in (rw e at at_second)) in
        let y : m ≢ b = λ e.
        ⊎_elim (λ q. p.distinct (sym q)) p.second_not_above (above_told b a a_in (rw e at at_first)) in
        let up = nearest_meeting x y in
        let n-in : n < c.states = omega (arith, above_lt n a a_in near.above_first) in
        let l = most n (above_tells n a a_in near.above_first) (above_tells n b b-in near.above_second) in
        let same : m ≡ n =
        ⊎_elim (λ e. e) (λ q. absurd (omega (arith, above_lt m n n-in q)))
        (near.nearest m up.above_first up.above_second) in
        and_i (not_no (eqb m a) (eqb_no x))
        (and_i (not_no (eqb m b) (eqb_no y)) (eqb_yes (ap c.kind same ∙ p.in_an_and_state)))
