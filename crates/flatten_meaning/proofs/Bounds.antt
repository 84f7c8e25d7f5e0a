-- The flat table of a chart is within 01's three bounds, and these are within 01's ranges for a chart that keeps the rules.
-- Assumes nothing.
use Prim.Native.Nat.{ℕ, ◌+◌, ◌*◌, ◌-◌, ◌/◌, ◌≤◌, ◌<◌, zero-le}
use mathlib.Core.Path.{◌≡◌, refl, sym, ap, ◌∙◌}
use mathlib.Core.Bool.{Bool, true, false, not, cond}
use mathlib.Core.List.{List, [], ◌∷◌, ◌++◌, map}
use native.Mathlib.Nat.{le_refl, le_trans, mul-le-mul}
use native.Mathlib.Omega.{arith}
use lib.ListN.{length, length-append, length-map}
use lib.Dec.{eqb}
use Rattle.words.specs.Loops.{join_up, join_down, joined, when, rank}
use Rattle.words.proofs.Tests.{and_l, and_r}
use Rattle.words.proofs.Loops.{tab_at, rank_most}
use Rattle.words.proofs.Many.{many_length}
use Rattle.words.proofs.Lists.{joined_append, joined_up, when_length, join_up_length}
use Rattle.words.proofs.Ranks.{rank_lt, rank_length}
use Rattle.chart.specs.View.{Chart, view, is_and}
use Rattle.chart.specs.Literals.{literal_in}
use Rattle.chart_rules.specs.Rules.{ChartRules}
use Rattle.flat.specs.View.{flat_view}
use Rattle.flat.specs.declared.FlatLiteral.{FlatLiteral}
use Rattle.flat.specs.declared.FlatLiteral.TheVariants.{Current, Holds, Fails}
use Rattle.flat_head.specs.Rules.{GoodFlatCounts}
use Rattle.chart_meaning.specs.Active.{is_or}
use Rattle.chart_meaning.specs.Scope.{scoped}
use Rattle.chart_meaning.specs.Taken.{literals_of}
use Rattle.chart_meaning.specs.State.{or_states}
use Rattle.chart_meaning.proofs.Tree.{Tree, tree}
use Rattle.chart_meaning.proofs.Half.{ors_half}
use Rattle.flatten_meaning.specs.Numbers.{and_rank, and_states}
use Rattle.flatten_meaning.specs.Flattened.{some?, sum_below, grand, quits, asked, active_guard, active_guards, active_literals, flat_literal, blocks, bare, taken_guard, taken_guards, taken_literals, may_at, may, comes, forks, above, entered_literals, entered_guards_of, all_guards, exit_rule, own_rule, entry_rule, rules_of, flattened}
use Rattle.flatten_meaning.specs.Room.{asked_literals, guards_bound, literals_bound, rules_bound, room_needed}
use Rattle.flatten_meaning.specs.Encoded.{all_literals, total, header, encode}
use Rattle.flatten_meaning.proofs.Sums.{sum_le, sum_same, sum_add, sum_numbers, join_up_sum, rank_mono, rank_down, sum_rank}
use Rattle.flatten_meaning.proofs.Encoded.{total_is}
use Rattle.flatten_meaning.proofs.Machines.{machines_are, states_are, all_states}
use Rattle.flatten_meaning.proofs.Asked.{asked_and}
use Rattle.flatten_meaning.proofs.Places.{guards_length}

module _ (c : Chart) where
  -- ---- only and-states have guards and rules
  may_and : (t j : ℕ) → j < c.states → may c t j ≡ true → is_and c j ≡ true
  unfolding may may_at
  may_and t j h e = and_l (is_and c j) _ (sym (tab_at (may_at c t) false c.states j h) ∙ and_r (scoped c t) _ e)

  pub forks_and : (t j : ℕ) → j < c.states → forks c t j ≡ true → is_and c j ≡ true
  unfolding forks
  forks_and t j h e = may_and t j h (and_l (may c t j) _ e)

  pub comes_and : (t j : ℕ) → j < c.states → comes c t j ≡ true → is_and c j ≡ true
  unfolding comes
  comes_and t j h e = may_and t j h (and_l (may c t j) _ e)

  quits_and : (t j : ℕ) → quits c t j ≡ true → is_and c j ≡ true
  unfolding quits
  quits_and t j e = and_l (is_and c j) _ e

  ands_most : (p : ℕ → Bool) → ((j : ℕ) → j < c.states → p j ≡ true → is_and c j ≡ true)
      → rank p c.states ≤ and_states c
  unfolding and_states
  ands_most p h = rank_mono p (is_and c) c.states h

  asked_few : rank (asked c) c.states ≤ and_states c
  asked_few = ands_most (asked c) (λ j h. asked_and c j)

  forks_few : (t : ℕ) → rank (forks c t) c.states ≤ and_states c
  forks_few t = ands_most (forks c t) (forks_and t)

  -- ---- guards
  pub guards_bound_lem : length (flattened c).guards ≤ guards_bound c
  unfolding flattened guards_bound active_guards active_guard taken_guards
  guards_bound_lem =
      omega (
        arith,
        guards_length c,
        asked_few,
        rank_most (λ t. not (bare c t)) c.transitions,
        sum_le (λ t. rank (forks c t) c.states) (λ t. and_states c) c.transitions (λ t h. forks_few t),
        sum_same (and_states c) c.transitions,
      )

  -- ---- rules
  rules_of_lem : (t : ℕ) → length (rules_of c t) ≤ 2 * and_states c + 1
  unfolding rules_of
  rules_of_lem t =
      let a = join_down (λ j. when (quits c t j) (exit_rule c t j)) c.states in
      let b = when (some? (c.does t)) (own_rule c t) in
      let d = join_up (λ j. when (comes c t j) (entry_rule c t j)) c.states in
      omega (
        arith,
        length-append a (b ++ d),
        length-append b d,
        rank_down (quits c t) (exit_rule c t) c.states,
        ands_most (quits c t) (λ j h. quits_and t j),
        when_length (some? (c.does t)) (own_rule c t),
        rank_length (comes c t) (entry_rule c t) c.states,
        ands_most (comes c t) (comes_and t),
      )

  pub rules_bound_lem : length (flattened c).rules ≤ rules_bound c
  unfolding flattened rules_bound
  rules_bound_lem = join_up_length (rules_of c) (2 * and_states c + 1) rules_of_lem c.transitions

  -- ---- literals
  abbrev flat : List (List FlatLiteral) → List FlatLiteral
  flat = joined (λ (l : List FlatLiteral). l)

  when_flat : (b : Bool) (l : List FlatLiteral) (m : ℕ) → length l ≤ m → length (flat (when b l)) ≤ cond b m 0
  when_flat true l m h = omega (arith, length-append l [])
  when_flat false l m h = zero-le

  cond_le : (b : Bool) (m : ℕ) → cond b m 0 ≤ m
  cond_le true m = le_refl m
  cond_le false m = zero-le

  -- the literals of the guards that pass, at most m in each
  when_literals : (p : ℕ → Bool) (f : ℕ → List FlatLiteral) (m n : ℕ) → ((k : ℕ) → length (f k) ≤ m)
      → length (flat (join_up (λ k. when (p k) (f k)) n)) ≤ rank p n * m
  when_literals p f m n h =
      omega (
        arith,
        ap length (joined_up (λ (l : List FlatLiteral). l) (λ k. when (p k) (f k)) n),
        join_up_sum (λ k. flat (when (p k) (f k))) (λ k. cond (p k) m 0) n (λ k l. when_flat (p k) (f k) m (h k)),
        sum_rank p m n,
      )

  active_two : (j : ℕ) → length (active_literals c j) ≤ 2
  unfolding active_literals
  active_two j = omega (arith, when_length (not (eqb (c.parent j) 0)) (Holds (active_guard c (grand c j))))

  entered_two : (t j : ℕ) → length (entered_literals c t j) ≤ 2
  unfolding entered_literals
  entered_two t j =
      let b = not (eqb (above c t j) (taken_guard c t)) in
      omega (
        arith,
        length-append (when b (Holds (above c t j))) (Current (and_rank c j) ∷ []),
        when_length b (Holds (above c t j)),
      )

  taken_many : (t : ℕ) → length (taken_literals c t) ≤ 1 + ((c.asks t).count + t)
  unfolding taken_literals literals_of
  taken_many t =
      let own = map (flat_literal c) (literals_of c t) in
      let others = join_up (λ s. when (blocks c s t) (Fails (taken_guard c s))) t in
      omega (
        arith,
        length-append own others,
        length-map (literals_of c t) (flat_literal c),
        many_length (λ i. literal_in (c.literal i)) (c.asks t).first (c.asks t).count,
        rank_length (λ s. blocks c s t) (λ s. Fails (taken_guard c s)) t,
        rank_most (λ s. blocks c s t) t,
      )

  entered_literals_lem : (t : ℕ) → length (flat (entered_guards_of c t)) ≤ and_states c * 2
  unfolding entered_guards_of
  entered_literals_lem t =
      le_trans (when_literals (forks c t) (entered_literals c t) 2 c.states (entered_two t))
      (mul-le-mul (forks_few t) (le_refl 2))

  taken_literals_lem : (n : ℕ) → length (flat (join_up (λ t. when (not (bare c t)) (taken_literals c t)) n))
      ≤ n + (sum_below (λ t. (c.asks t).count) n + n * (n - 1) / 2)
  taken_literals_lem n =
      let own : ℕ → ℕ = λ t. (c.asks t).count in
      omega (
        arith,
        ap length (joined_up (λ (l : List FlatLiteral). l) (λ t. when (not (bare c t)) (taken_literals c t)) n),
        join_up_sum (λ t. flat (when (not (bare c t)) (taken_literals c t))) (λ t. 1 + (own t + t)) n
            (λ t h. le_trans (when_flat (not (bare c t)) (taken_literals c t) _ (taken_many t)) (cond_le (not (bare c t)) _)),
        sum_add (λ t. 1) (λ t. own t + t) n,
        sum_same 1 n,
        sum_add own (λ t. t) n,
        sum_numbers n,
      )

  pub literals_bound_lem : length (all_literals (flattened c)) ≤ literals_bound c
  unfolding flattened all_literals all_guards literals_bound asked_literals
  literals_bound_lem =
      let a = join_up (λ j. when (asked c j) (active_literals c j)) c.states in
      let b = join_up (λ t. when (not (bare c t)) (taken_literals c t)) c.transitions in
      let d = join_up (entered_guards_of c) c.transitions in
      omega (
        arith,
        ap length (joined_append (λ (l : List FlatLiteral). l) a (b ++ d)),
        length-append (flat a) (flat (b ++ d)),
        ap length (joined_append (λ (l : List FlatLiteral). l) b d),
        length-append (flat b) (flat d),
        when_literals (asked c) (active_literals c) 2 c.states active_two,
        asked_few,
        taken_literals_lem c.transitions,
        ap length (joined_up (λ (l : List FlatLiteral). l) (entered_guards_of c) c.transitions),
        join_up_length (λ t. flat (entered_guards_of c t)) (and_states c * 2) entered_literals_lem c.transitions,
      )

  -- ---- the words fit into the room
  items_are : (flattened c).items ≡ c.items
  unfolding flattened
  items_are = refl

  pub total_in_room : total (flattened c) ≤ room_needed c
  unfolding room_needed
  total_in_room =
      omega (
        arith,
        total_is (flattened c),
        machines_are c,
        states_are c,
        all_states c,
        guards_bound_lem,
        literals_bound_lem,
        items_are,
        rules_bound_lem,
      )

-- ---- or-states and and-states of a tree
module _ {c : Chart} (w : Tree c) where
  pub or_at_most_and : or_states c ≤ and_states c
  or_at_most_and = omega (arith, ors_half w, all_states c)

  pub some_or : 1 ≤ or_states c
  unfolding or_states
  some_or = omega (arith, rank_lt (is_or c) c.states 0 w.some (ap not w.root_or))

  pub some_and : 1 ≤ and_states c
  some_and = le_trans some_or or_at_most_and

  pub or_few : or_states c ≤ 24
  or_few = omega (arith, or_at_most_and, all_states c, w.few)

  pub and_few : and_states c ≤ 47
  and_few = omega (arith, some_or, all_states c, w.few)

-- ---- the ranges
module _ {t : List ℕ} (r : ChartRules t) where
  abbrev chart : Chart
  chart = view t

  transitions_few : chart.transitions ≤ 48
  transitions_few = r.counts.transitions.1

  ands_few : and_states chart ≤ 47
  ands_few = and_few (tree r)

  products_few : chart.transitions * and_states chart ≤ 2256
  products_few = mul-le-mul transitions_few ands_few

  literals_few : asked_literals chart ≤ 384
  unfolding asked_literals
  literals_few =
      omega (
        arith,
        sum_le (λ k. (chart.asks k).count) (λ k. 8) chart.transitions (λ k h. (r.transition_spans k h).few_literals),
        sum_same 8 chart.transitions,
        transitions_few,
      )

  pairs_few : chart.transitions * (chart.transitions - 1) / 2 ≤ 1128
  pairs_few =
      let h = transitions_few in
      let d : chart.transitions - 1 ≤ 47 = omega arith in
      let l : chart.transitions * (chart.transitions - 1) ≤ 48 * 47 = mul-le-mul h d in
      omega (arith, l)

  pub guards_few : guards_bound chart ≤ 2351
  unfolding guards_bound
  guards_few = omega (arith, transitions_few, ands_few, products_few)

  pub literals_range : literals_bound chart ≤ 6166
  unfolding literals_bound
  literals_range = omega (arith, transitions_few, ands_few, products_few, literals_few, pairs_few)

  pub rules_few : rules_bound chart ≤ 4560
  unfolding rules_bound
  rules_few = omega (arith, transitions_few, products_few)

  pub room_few : room_needed chart ≤ 52162
  unfolding room_needed
  room_few = omega (arith, guards_few, literals_range, rules_few, r.counts.states.1, r.counts.items.1)

  -- 01, Flat words: "Ranges: machines 1..24, states 1..47, guards 0..2351, literals 0..6166, rules 0..4560, others as for
  -- charts."
  pub counts_good : GoodFlatCounts (flat_view (encode (flattened chart)))
  unfolding flattened encode header
  counts_good =
      let w = tree r in
      let n = r.counts in
      let machines = machines_are chart in
      let states = states_are chart in
      record {
        machines = (omega (arith, machines, some_or w), omega (arith, machines, or_few w));
        states = (omega (arith, states, some_and w), omega (arith, states, and_few w));
        events = n.events;
        signals = n.signals;
        outputs = n.outputs;
        variables = n.variables;
        guards = (zero-le, le_trans (guards_bound_lem chart) guards_few);
        literals = (zero-le, le_trans (literals_bound_lem chart) literals_range);
        items = n.items;
        rules = (zero-le, le_trans (rules_bound_lem chart) rules_few);
      }
