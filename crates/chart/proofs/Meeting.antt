-- Two states meet where the larger one's parent meets the other, on any words at all. Assumes nothing.
use Prim.Native.Nat.{ℕ, ◌<◌, ◌≤◌}
use mathlib.Core.Path.{◌≡◌, refl, ◌∙◌}
use mathlib.Core.Bool.{true, false, ◌&&◌, and_comm}
use native.Mathlib.Omega.{arith}
use lib.Dec.{ltb}
use Rattle.words.specs.Loops.{greatest}
use Rattle.words.proofs.Tests.{by_bool, eqb_no, and_i, and_l, ltb_yes, ltb_no}
use Rattle.words.proofs.Loops.{greatest_passes, greatest_most, greatest_none, greatest_cong}
use Rattle.chart.specs.View.{Chart}
use Rattle.chart.specs.Tree.{within, common, meeting}
use Rattle.chart.proofs.Within.{within_step, within_out, within_self, within_le}

module _ (c : Chart) where
  pub meeting_swap : (a b : ℕ) → meeting c a b ≡ meeting c b a
  unfolding meeting
  meeting_swap a b = greatest_cong (common c a b) (common c b a) c.states (λ k h. and_comm (within c k a) (within c k b))

  -- what is no state meets nothing
  pub meets_none : (a b : ℕ) → c.states ≤ a → meeting c a b ≡ 0
  unfolding meeting
  meets_none a b h = greatest_none (common c a b) c.states (λ k l. rw (within_out c k a h) refl)

  pub meets_itself : (a : ℕ) → a < c.states → meeting c a a ≡ a
  unfolding meeting
  meets_itself a h =
      let own : common c a a a ≡ true = and_i (within_self c a h) (within_self c a h) in
      let m = greatest (common c a a) c.states in
      let most = greatest_most (common c a a) c.states a h own in
      let least = within_le c m a h (and_l (within c m a) (within c m a) (greatest_passes (common c a a) c.states a h own)) in
      let e : m ≡ a = omega arith in
      e

  module _ (a b : ℕ) (l : a < b) (h : b < c.states) where
    -- of what is at or above the smaller one, the larger one's parent tells
    above_both : (k : ℕ) → common c a b k ≡ (within c k a && (ltb (c.parent b) b && within c k (c.parent b)))
    above_both k =
        by_bool (within c k a)
        (λ e. rw (e, within_step c k b h (λ z. omega arith), eqb_no {m = k} {n = b} (λ z. omega (arith, within_le c k a (omega arith) e))) refl)
        (λ e. rw e refl)

    pub meets_above : c.parent b < b → meeting c a b ≡ meeting c a (c.parent b)
    unfolding meeting
    meets_above p =
        greatest_cong (common c a b) (common c a (c.parent b)) c.states (λ k i. above_both k ∙ rw (ltb_yes (c.parent b) b p) refl)

    pub meets_nowhere : b ≤ c.parent b → meeting c a b ≡ 0
    unfolding meeting
    meets_nowhere p =
        greatest_none (common c a b) c.states (λ k i. above_both k ∙ rw (ltb_no (c.parent b) b p) (and_comm (within c k a) false))
