-- How large the numbers are, and how they go on. Assumes nothing.
use Prim.Native.Nat.{ℕ, ◌+◌, ◌*◌, ◌<◌, ◌≤◌}
use mathlib.Core.Path.{◌≡◌, refl}
use mathlib.Core.Bool.{Bool, not, cond}
use native.Mathlib.Omega.{arith}
use Rattle.words.specs.Loops.{rank}
use Rattle.words.proofs.Tests.{by_bool}
use Rattle.words.proofs.Loops.{rank_most}
use Rattle.chart.specs.View.{Chart}
use Rattle.flatten_meaning.specs.Flattened.{asked, active_guard, active_guards, bare, taken_guard, taken_guards, forks, entered_guard}
use Rattle.flatten_meaning.proofs.Sums.{sum_le, sum_same}
use Rattle.flatten_numbers.proofs.Cells.{Counts}

module _ (c : Chart) where
  -- ---- guards of active states
  pub actives_most : active_guards c ≤ c.states
  unfolding active_guards active_guard
  actives_most = rank_most (asked c) c.states

  -- ---- guards of taken transitions: the number of the next new one, at transition k
  unfoldable pub taken_next : ℕ → ℕ
  taken_next k = active_guards c + rank (λ s. not (bare c s)) k

  pub taken_first : active_guards c ≡ taken_next 0
  unfolding taken_next
  taken_first = omega arith

  pub taken_next_lem : (k : ℕ) → Counts taken_next k (not (bare c k))
  unfolding taken_next
  taken_next_lem k = by_bool (not (bare c k)) (λ e. rw e (omega arith)) (λ e. rw e refl)

  pub taken_last : taken_next c.transitions ≡ active_guards c + taken_guards c
  unfolding taken_next taken_guards
  taken_last = refl

  pub taken_most : (k : ℕ) → c.states ≤ 48 → taken_next k ≤ 48 + k
  unfolding taken_next
  taken_most k h = omega (arith, actives_most, rank_most (λ s. not (bare c s)) k)

  -- a bare transition has its source's guard, another the next one
  pub taken_cell : (k : ℕ) {x next : ℕ} {said : Bool} → said ≡ bare c k → next ≡ taken_next k
      → x ≡ cond said (active_guard c (c.source k)) next → x ≡ taken_guard c k
  unfolding taken_next taken_guard
  taken_cell k p q e = rw (← q, ← p) e

  -- ---- guards of entered states
  takens_most : taken_guards c ≤ c.transitions
  unfolding taken_guards
  takens_most = rank_most (λ s. not (bare c s)) c.transitions

  pub entered_most : (k j : ℕ) → c.states ≤ 48 → c.transitions ≤ 48 → entered_guard c k j ≤ 96 + 48 * k + j
  unfolding entered_guard
  entered_most k j h l =
      let row : ℕ → ℕ = λ s. rank (forks c s) c.states in
      let rows = sum_le row (λ s. 48) k (λ s q. omega (arith, rank_most (forks c s) c.states)) in
      omega (arith, actives_most, takens_most, rank_most (forks c k) j, sum_same 48 k)

  pub entered_small : (k j : ℕ) {next : ℕ} → c.states ≤ 48 → c.transitions ≤ 48 → k < c.transitions → j < c.states
      → next ≡ entered_guard c k j → next + 1 < 65536
  entered_small k j h l p q e = omega (arith, e, entered_most k j h l)
