-- The flat table of a chart: its guards and rules. What can never fire or has no effect is not there. Three kinds of guards:
-- of a state that is active, of a transition that is taken, and of a state that history chooses to enter.
use Rattle.std.specs.Prelude.{ℕ, zero, suc, ◌+◌, Bool, true, false, not, ◌&&◌, ◌||◌, cond, List, [], ◌∷◌, ◌++◌, map, get_or, eqb}
use Rattle.words.specs.Loops.{tab, join_up, join_down, any, any_below, when, rank}
use Rattle.table.specs.Span.{Span}
use Rattle.chart.specs.View.{Chart, is_and}
use Rattle.chart.specs.Tree.{within}
use Rattle.chart.specs.declared.Literal.{Literal}
use Rattle.chart.specs.declared.Literal.TheVariants.{Active, NotActive, AtLeast, Less}
use Rattle.flat.specs.declared.FlatLiteral.{FlatLiteral}
use Rattle.flat.specs.declared.FlatLiteral.TheVariants.{Current, AtLeast as at_least, Less as less, Holds, Fails}
use Rattle.chart_meaning.specs.Active.{is_or, or_rank}
use Rattle.chart_meaning.specs.Scope.{beneath, scope, scoped, related}
use Rattle.chart_meaning.specs.Taken.{literals_of}
use Rattle.chart_meaning.specs.Entered.{enters_latest, aimed, leads, reached}
use Rattle.flatten_meaning.specs.Numbers.{and_rank}
use Rattle.flatten_meaning.specs.Tables.{FlatRule, Table}

abbrev pub some? : Span → Bool
some? s = not (eqb s.count 0)

abbrev pub nil? : {A : Type 0} → List A → Bool
nil? [] = true
nil? (x ∷ xs) = false

-- The sum of f 0, f 1, .. below n.
abbrev pub sum_below : (ℕ → ℕ) → ℕ → ℕ
sum_below f zero = 0
sum_below f (suc n) = sum_below f n + f n

module _ (c : Chart) where
  -- The and-state two levels up.
  abbrev pub grand : ℕ → ℕ
  grand j = c.parent (c.parent j)

  -- ---- what can be active together
  -- j can be active while a is: they are not below two children of one or-state.
  unfoldable pub meets_at : ℕ → ℕ → List Bool → Bool
  meets_at a j cells =
      eqb j 0
      || (get_or cells (c.parent j) false && (is_and c (c.parent j) || (not (beneath c (c.parent j) a) || within c j a)))

  unfoldable pub meets : ℕ → ℕ → Bool
  meets a j = get_or (tab (meets_at a) c.states) j false

  -- t can leave j, and j has exit items.
  unfoldable pub quits : ℕ → ℕ → Bool
  quits t j = is_and c j && ((scoped c t && beneath c (scope c t) j) && (meets (c.source t) j && some? (c.exits j)))

  -- ---- guards of active states: of those that are asked for, and of those above them
  abbrev pub mentions : ℕ → Literal → Bool
  mentions k (Active a) = eqb a k
  mentions k (NotActive a) = eqb a k
  mentions k (AtLeast a b) = false
  mentions k (Less a b) = false

  unfoldable pub wants : ℕ → ℕ → Bool
  wants t k = eqb (c.source t) k || (any (mentions k) (literals_of c t) || quits t k)

  unfoldable pub asked : ℕ → Bool
  asked j = is_and c j && any_below (λ k. within c j k && any_below (λ t. wants t k) c.transitions) c.states

  unfoldable pub active_guard : ℕ → ℕ
  active_guard j = rank asked j

  unfoldable pub active_guards : ℕ
  active_guards = active_guard c.states

  -- "Active" is: current, and the and-state two levels up active.
  unfoldable pub active_literals : ℕ → List FlatLiteral
  active_literals j = Current (and_rank c j) ∷ when (not (eqb (c.parent j) 0)) (Holds (active_guard (grand j)))

  unfoldable pub flat_literal : Literal → FlatLiteral
  flat_literal (Active a) = Holds (active_guard a)
  flat_literal (NotActive a) = Fails (active_guard a)
  flat_literal (AtLeast a b) = at_least a b
  flat_literal (Less a b) = less a b

  -- ---- guards of taken transitions
  -- An earlier transition with the same trigger and a related scope blocks, if both sources can be active.
  unfoldable pub blocks : ℕ → ℕ → Bool
  blocks s t = eqb (c.trigger s) (c.trigger t) && (related c s t && meets (c.source s) (c.source t))

  -- A transition that asks for its source only: the guard of its source is its own.
  unfoldable pub bare : ℕ → Bool
  bare t = nil? (literals_of c t) && not (any_below (λ s. blocks s t) t)

  unfoldable pub taken_guard : ℕ → ℕ
  taken_guard t = cond (bare t) (active_guard (c.source t)) (active_guards + rank (λ s. not (bare s)) t)

  unfoldable pub taken_guards : ℕ
  taken_guards = rank (λ s. not (bare s)) c.transitions

  unfoldable pub taken_literals : ℕ → List FlatLiteral
  taken_literals t =
      Holds (active_guard (c.source t))
      ∷ (map flat_literal (literals_of c t) ++ join_up (λ s. when (blocks s t) (Fails (taken_guard s))) t)

  -- ---- guards of entered states
  -- t can enter j, as far as the table says: the latest child may be any.
  unfoldable pub may_at : ℕ → ℕ → List Bool → Bool
  may_at t j cells =
      let o = c.parent j in
      is_and c j
      && (reached c (scope c t) j cells
      && cond (aimed c t o) (leads c t j) (cond (enters_latest c t o) true (eqb (c.initial o) j)))

  unfoldable pub may : ℕ → ℕ → Bool
  may t j = scoped c t && get_or (tab (may_at t) c.states) j false

  -- History decides whether t enters j, once it enters the and-state above: then j is current already.
  unfoldable pub decides : ℕ → ℕ → Bool
  decides t j = not (aimed c t (c.parent j)) && enters_latest c t (c.parent j)

  -- t can enter j with items or with a target.
  unfoldable pub comes : ℕ → ℕ → Bool
  comes t j = may t j && (not (decides t j) || some? (c.entries j))

  -- History decides on j, and a rule of t enters j or a state below it.
  unfoldable pub forks : ℕ → ℕ → Bool
  forks t j = may t j && (decides t j && any_below (λ k. within c j k && comes t k) c.states)

  unfoldable pub entered_guard : ℕ → ℕ → ℕ
  entered_guard t j =
      active_guards + (taken_guards + (sum_below (λ s. rank (forks s) c.states) t + rank (forks t) j))

  -- The guard that says whether t, if taken, enters the and-state above j; and the same of j: a new one, or the one above.
  unfoldable pub above_at : ℕ → ℕ → List ℕ → ℕ
  above_at t j cells = cond (eqb (c.parent j) (scope c t)) (taken_guard t) (get_or cells (grand j) 0)

  unfoldable pub refer_at : ℕ → ℕ → List ℕ → ℕ
  refer_at t j cells = cond (is_and c j) (cond (forks t j) (entered_guard t j) (above_at t j cells)) 0

  unfoldable pub refers : ℕ → ℕ → List ℕ
  refers t k = tab (refer_at t) k

  unfoldable pub above : ℕ → ℕ → ℕ
  above t j = above_at t j (refers t j)

  unfoldable pub refer : ℕ → ℕ → ℕ
  refer t j = get_or (refers t c.states) j 0

  unfoldable pub entered_literals : ℕ → ℕ → List FlatLiteral
  entered_literals t j = when (not (eqb (above t j) (taken_guard t))) (Holds (above t j)) ++ (Current (and_rank c j) ∷ [])

  unfoldable pub entered_guards_of : ℕ → List (List FlatLiteral)
  entered_guards_of t = join_up (λ j. when (forks t j) (entered_literals t j)) c.states

  unfoldable pub all_guards : List (List FlatLiteral)
  all_guards =
      join_up (λ j. when (asked j) (active_literals j)) c.states
      ++ (join_up (λ t. when (not (bare t)) (taken_literals t)) c.transitions ++ join_up entered_guards_of c.transitions)

  -- ---- rules, by transition: exits in falling number, own items, entries in rising number
  unfoldable pub exit_rule : ℕ → ℕ → FlatRule
  exit_rule t j = record {
    trigger = c.trigger t;
    first_guard = taken_guard t;
    second_guard = active_guard j;
    does = c.exits j;
    target = 65535;
  }

  unfoldable pub own_rule : ℕ → FlatRule
  own_rule t = record {
    trigger = c.trigger t;
    first_guard = taken_guard t;
    second_guard = taken_guard t;
    does = c.does t;
    target = 65535;
  }

  unfoldable pub entry_rule : ℕ → ℕ → FlatRule
  entry_rule t j = record {
    trigger = c.trigger t;
    first_guard = taken_guard t;
    second_guard = refer t j;
    does = c.entries j;
    target = cond (decides t j) 65535 (and_rank c j);
  }

  unfoldable pub rules_of : ℕ → List FlatRule
  rules_of t =
      join_down (λ j. when (quits t j) (exit_rule t j)) c.states
      ++ (when (some? (c.does t)) (own_rule t) ++ join_up (λ j. when (comes t j) (entry_rule t j)) c.states)

  unfoldable pub flattened : Table
  flattened = record {
    events = c.events;
    signals = c.signals;
    outputs = c.outputs;
    variables = c.variables;
    initials = join_up (λ o. when (is_or c o) (and_rank c (c.initial o))) c.states;
    owners = join_up (λ j. when (is_and c j) (or_rank c (c.parent j))) c.states;
    guards = all_guards;
    items = c.items;
    item = c.item;
    rules = join_up rules_of c.transitions;
  }
