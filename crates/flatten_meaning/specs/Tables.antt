-- A flat table as lists, before it is words: what flattening makes of a chart. A guard is the list of its literals.
use Rattle.std.specs.Prelude.{ℕ, Bool, false, not, ◌&&◌, List, [], length, get_or, eqb}
use Rattle.words.specs.Signed.{below}
use Rattle.words.specs.Loops.{tab, many, all, joined, when}
use Rattle.table.specs.Triple.{Triple}
use Rattle.table.specs.Items.{item_in}
use Rattle.table.specs.Span.{Span}
use Rattle.effects.specs.Run.{fire, Step, Machine}
use Rattle.flat.specs.declared.FlatLiteral.{FlatLiteral}
use Rattle.flat.specs.declared.FlatLiteral.TheVariants.{Current, NotCurrent, AtLeast, Less, Holds, Fails}

-- A rule: 65535 is no target.
pub record FlatRule : Type 0 where
  pub trigger : ℕ
  pub first_guard : ℕ
  pub second_guard : ℕ
  pub does : Span
  pub target : ℕ

-- `initials` are the machines' initial states, `owners` the states' machines.
pub record Table : Type 0 where
  pub events : ℕ
  pub signals : ℕ
  pub outputs : ℕ
  pub variables : ℕ
  pub initials : List ℕ
  pub owners : List ℕ
  pub guards : List (List FlatLiteral)
  pub items : ℕ
  pub item : ℕ → Triple
  pub rules : List FlatRule

module _ (g : Table) where
  unfoldable pub current_in : List ℕ → ℕ → Bool
  current_in words a = eqb (get_or words (get_or g.owners a 0) 0) a

  unfoldable pub holds_in : List ℕ → List ℕ → List Bool → FlatLiteral → Bool
  holds_in words vars cells (Current a) = current_in words a
  holds_in words vars cells (NotCurrent a) = not (current_in words a)
  holds_in words vars cells (AtLeast a b) = not (below (get_or vars a 0) b)
  holds_in words vars cells (Less a b) = below (get_or vars a 0) b
  holds_in words vars cells (Holds a) = get_or cells a false
  holds_in words vars cells (Fails a) = not (get_or cells a false)

  unfoldable pub value_in : List ℕ → List ℕ → ℕ → List Bool → Bool
  value_in words vars k cells = all (holds_in words vars cells) (get_or g.guards k [])

  unfoldable pub values_in : List ℕ → List ℕ → List Bool
  values_in words vars = tab (value_in words vars) (length g.guards)

  unfoldable pub step_of : FlatRule → Step
  step_of r = record {
    tag = fire;
    does = many (λ i. item_in (g.item i)) r.does.first r.does.count;
    sets = when (not (eqb r.target 65535)) (get_or g.owners r.target 0, r.target);
  }

  unfoldable pub fires_in : ℕ → List Bool → FlatRule → Bool
  fires_in e vals r = eqb r.trigger e && (get_or vals r.first_guard false && get_or vals r.second_guard false)

  -- The machine that it is: theorems show that its words, read as a flat table, are this machine.
  unfoldable pub table_machine : Machine
  table_machine e words vars =
      let vals = values_in words vars in
      joined (λ r. when (fires_in e vals r) (step_of r)) g.rules
