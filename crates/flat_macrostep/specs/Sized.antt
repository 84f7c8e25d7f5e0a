-- The lengths of what a macrostep of a flat table works on.
use Rattle.std.specs.Prelude.{ℕ, ◌+◌, ◌*◌, ◌≤◌, ◌≡◌, List, length}
use Rattle.flat.specs.View.{Flat}

pub record Sized (f : Flat) (marks state next vars queue : List ℕ) : Type 0 where
  pub bits : f.guards ≤ 16 * length marks
  pub next_long : length next ≡ f.machines
  pub few : length next ≤ 24
  pub state_long : length state ≡ length next + length vars
  pub queue_long : length queue ≡ 32
