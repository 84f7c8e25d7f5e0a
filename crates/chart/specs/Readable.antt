-- What reading a chart table takes: its header and its sections lie inside it, and it has a state. Rules 1 to 3 of document 01
-- see to that.
use Rattle.std.specs.Prelude.{ℕ, ◌+◌, ◌*◌, ◌<◌, ◌≤◌, List, length}
use Rattle.table.specs.Layout.{at}
use Rattle.chart.specs.View.{view, state_at, transition_at}

pub record Readable (t : List ℕ) : Type 0 where
  pub header : 16 ≤ length t
  pub some_state : 0 < (view t).states
  pub states : state_at t (view t).states ≤ length t
  pub transitions : transition_at t (view t).transitions ≤ length t
  pub targets : at t 13 + (view t).targets ≤ length t
  pub literals : at t 14 + 3 * (view t).literals ≤ length t
  pub items : at t 15 + 3 * (view t).items ≤ length t
