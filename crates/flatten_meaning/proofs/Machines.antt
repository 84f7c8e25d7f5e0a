-- The machines and states of a chart's flat table: a machine for each or-state, a flat state for each and-state, and whose
-- they are. Assumes nothing.
use Prim.Native.Nat.{ℕ, ◌+◌, ◌<◌}
use mathlib.Core.Path.{◌≡◌, ap}
use mathlib.Core.Bool.{true, false, not}
use lib.ListN.{length, get_or}
use Rattle.words.proofs.Tests.{not_yes}
use Rattle.words.proofs.Ranks.{rank_lt, rank_both, rank_length, rank_at}
use Rattle.chart.specs.View.{Chart, is_and}
use Rattle.chart_meaning.specs.Active.{is_or, or_rank}
use Rattle.chart_meaning.specs.State.{or_states}
use Rattle.flatten_meaning.specs.Numbers.{and_rank, and_states}
use Rattle.flatten_meaning.specs.Flattened.{flattened}
use Rattle.flatten_meaning.proofs.Sums.{rank_onto}

module _ (c : Chart) where
  -- ---- how many there are
  pub machines_are : length (flattened c).initials ≡ or_states c
  unfolding flattened or_states
  machines_are = rank_length (is_or c) (λ o. and_rank c (c.initial o)) c.states

  pub states_are : length (flattened c).owners ≡ and_states c
  unfolding flattened and_states
  states_are = rank_length (is_and c) (λ j. or_rank c (c.parent j)) c.states

  pub all_states : or_states c + and_states c ≡ c.states
  unfolding or_states and_states
  all_states = rank_both (is_and c) c.states

  -- ---- an and-state's flat state is there, and belongs to its parent's machine
  pub and_lt : (j : ℕ) → j < c.states → is_and c j ≡ true → and_rank c j < and_states c
  unfolding and_rank and_states
  and_lt j h a = rank_lt (is_and c) c.states j h a

  pub owner_at : (j : ℕ) → j < c.states → is_and c j ≡ true
      → get_or (flattened c).owners (and_rank c j) 0 ≡ or_rank c (c.parent j)
  unfolding flattened and_rank
  owner_at j h a = rank_at (is_and c) (λ j. or_rank c (c.parent j)) 0 c.states j h a

  pub initial_at : (o : ℕ) → o < c.states → is_and c o ≡ false
      → get_or (flattened c).initials (or_rank c o) 0 ≡ and_rank c (c.initial o)
  unfolding flattened or_rank
  initial_at o h a = rank_at (is_or c) (λ o. and_rank c (c.initial o)) 0 c.states o h (ap not a)

  -- ---- machine m is some or-state's, flat state k some and-state's
  pub record OfMachine (m : ℕ) : Type 0 where
    pub state : ℕ
    pub below : state < c.states
    pub or : is_and c state ≡ false
    pub number : or_rank c state ≡ m

  pub record OfState (k : ℕ) : Type 0 where
    pub state : ℕ
    pub below : state < c.states
    pub and : is_and c state ≡ true
    pub number : and_rank c state ≡ k

  pub machine_of : (m : ℕ) → m < or_states c → OfMachine m
  unfolding or_states or_rank
  machine_of m h =
      let r = rank_onto (is_or c) c.states m h in
      record { state = r.number; below = r.below; or = not_yes (is_and c r.number) r.passes; number = r.count }

  pub state_of : (k : ℕ) → k < and_states c → OfState k
  unfolding and_states and_rank
  state_of k h =
      let r = rank_onto (is_and c) c.states k h in
      record { state = r.number; below = r.below; and = r.passes; number = r.count }
