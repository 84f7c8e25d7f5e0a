-- What reading a flat table takes: its header and its sections lie inside it. Rules 11 to 13 of document 01 see to that.
use Rattle.std.specs.Prelude.{ℕ, ◌+◌, ◌*◌, ◌≤◌, List, length}
use Rattle.table.specs.Layout.{at}
use Rattle.flat.specs.View.{flat_view, guard_at, literal_at, rule_at}

pub record FlatReadable (t : List ℕ) : Type 0 where
  pub header : 18 ≤ length t
  pub machines : at t 12 + (flat_view t).machines ≤ length t
  pub states : at t 13 + (flat_view t).states ≤ length t
  pub guards : guard_at t (flat_view t).guards ≤ length t
  pub literals : literal_at t (flat_view t).literals ≤ length t
  pub items : at t 16 + 3 * (flat_view t).items ≤ length t
  pub rules : rule_at t (flat_view t).rules ≤ length t
