-- The room that a chart's flat table needs; its header, machines, states and items, as they are laid. Assumes nothing.
use Prim.Native.Nat.{ℕ, zero, suc, ◌+◌, ◌*◌, ◌-◌, ◌/◌, ◌≤◌, ◌<◌}
use mathlib.Core.Path.{◌≡◌, refl, sym, ap, ap₂, ◌∙◌}
use mathlib.Core.Bool.{Bool, true, false}
use mathlib.Core.List.{List, [], ◌∷◌, ◌++◌}
use native.Mathlib.Omega.{arith}
use lib.ListN.{length, get_or}
use Rattle.words.specs.Loops.{many, joined, join_up, when}
use Rattle.words.proofs.Tests.{by_bool, not_yes}
use Rattle.words.proofs.Many.{many_length}
use Rattle.words.proofs.Lists.{when_length, join_up_length}
use Rattle.table.specs.Triple.{triple_at}
use Rattle.chart.specs.View.{Chart, view, is_and}
use Rattle.chart_rules.specs.Rules.{ChartRules}
use Rattle.chart_meaning.specs.Active.{is_or, or_rank}
use Rattle.chart_meaning.proofs.Tree.{Tree, up_lt}
use Rattle.flatten_meaning.specs.Tables.{Table}
use Rattle.flatten_meaning.specs.Numbers.{and_rank, and_states}
use Rattle.flatten_meaning.specs.Flattened.{flattened}
use Rattle.flatten_meaning.specs.Room.{asked_literals, guards_bound, literals_bound, rules_bound, room_needed}
use Rattle.flatten_meaning.specs.Encoded.{triple_row, item_words, total, header}
use Rattle.flatten_meaning.proofs.Machines.{machines_are, all_states}
use Rattle.flatten_meaning.proofs.Bounds.{total_in_room, room_few}
use Rattle.chart_active.specs.Ranks.{Ranks}
use Rattle.flatten_numbers.specs.Numbered.{AndRanks}
use Rattle.flatten_laying.specs.Lay.{lay}
use Rattle.flatten_laying.proofs.Lay.{lay_append}
use Rattle.flatten_laying.specs.Laid.{Laid}
use Rattle.flatten_laying.proofs.Laid.{laid_as}
use Rattle.flatten_head.specs.declared.Sizes.{Sizes}
use Rattle.flatten_head.specs.declared.Places.{Places}
use Rattle.flatten_head.specs.Sizes.{SizesOf, PlacesOf}
use Rattle.flatten_head.specs.Named.{of?, named}

-- ---- the header's counts, of which five are read
pub same_counts : (room : List ℕ) (all machines states guards literals rules : ℕ) {a b d e f : ℕ} {a' b' d' e' f' : ℕ}
    → a ≡ a' → b ≡ b' → d ≡ d' → e ≡ e' → f ≡ f'
    → lay 0 (2 ∷ all ∷ machines ∷ states ∷ a ∷ b ∷ d ∷ e ∷ guards ∷ literals ∷ f ∷ rules ∷ []) room
    ≡ lay 0 (2 ∷ all ∷ machines ∷ states ∷ a' ∷ b' ∷ d' ∷ e' ∷ guards ∷ literals ∷ f' ∷ rules ∷ []) room
same_counts room all machines states guards literals rules p q r s t = rw (p, q, r, s, t) refl

-- ---- items
rows_words : (t : List ℕ) (base first count : ℕ)
    → joined triple_row (many (λ i. triple_at t (base + 3 * i)) first count)
    ≡ many (λ i. get_or t i 0) (base + 3 * first) (3 * count)
rows_words t base first zero = refl
rows_words t base first (suc count) =
    let at = base + 3 * first in
    let n : 3 * suc count ≡ suc (suc (suc (3 * count))) = omega arith in
    let a : base + 3 * suc first ≡ suc (suc (suc at)) = omega arith in
    let b : at + 1 ≡ suc at = omega arith in
    let d : at + 2 ≡ suc (suc at) = omega arith in
    ap (λ (l : List ℕ). get_or t at 0 ∷ get_or t (at + 1) 0 ∷ get_or t (at + 2) 0 ∷ l)
    (rows_words t base (suc first) count ∙ ap (λ (i : ℕ). many (λ i. get_or t i 0) i (3 * count)) a)
    ∙ ap (λ (i : ℕ). get_or t at 0 ∷ get_or t i 0 ∷ get_or t (at + 2) 0 ∷ many (λ i. get_or t i 0) (suc (suc (suc at))) (3 * count)) b
    ∙ ap (λ (i : ℕ). get_or t at 0 ∷ get_or t (suc at) 0 ∷ get_or t i 0 ∷ many (λ i. get_or t i 0) (suc (suc (suc at))) (3 * count)) d
    ∙ ap (many (λ i. get_or t i 0) at) (sym n)

-- the items' words stand in the chart as they are to stand in the flat table
items_words : (t : List ℕ)
    → item_words (flattened (view t)) ≡ many (λ i. get_or t i 0) (get_or t 15 0) (3 * get_or t 10 0)
unfolding item_words flattened
items_words t =
    let e : get_or t 15 0 + 3 * 0 ≡ get_or t 15 0 = omega arith in
    rows_words t (get_or t 15 0) 0 (get_or t 10 0) ∙ ap (λ (i : ℕ). many (λ i. get_or t i 0) i (3 * get_or t 10 0)) e

pub items_laid : (t : List ℕ) (at first count : ℕ) {room after : List ℕ} {next : ℕ} → first ≡ get_or t 15 0
    → count ≡ get_or t 10 0 → next ≡ at + 3 * count → after ≡ lay at (many (λ i. get_or t i 0) first (3 * count)) room
    → Laid at (item_words (flattened (view t))) room next after
items_laid t at first count {room} {after} {next} f n e l =
    let words : ℕ → ℕ → List ℕ = λ i n. many (λ i. get_or t i 0) i (3 * n) in
    let is : words first count ≡ item_words (flattened (view t)) =
    ap (λ (i : ℕ). words i count) f ∙ ap (words (get_or t 15 0)) n ∙ sym (items_words t) in
    let long = many_length (λ i. get_or t i 0) first (3 * count) in
    laid_as is (record { place = e ∙ ap (λ (n : ℕ). at + n) (sym long); laid = l })

-- ---- the room that is needed, by 01's counts
module _ (c : Chart) {n k a both asked pairs items : ℕ} where
  pub room_is : n ≡ c.states → k ≡ c.transitions → a ≡ and_states c → both ≡ k * a → asked ≡ asked_literals c
      → pairs ≡ k * (k - 1) / 2 → items ≡ c.items
      → 18 + n + 2 * (a + k + both) + 3 * (2 * a + k + asked + pairs + 2 * both) + 3 * items + 6 * (k + 2 * both)
      ≡ room_needed c
  unfolding room_needed guards_bound literals_bound rules_bound
  room_is states transitions ands product literals halves does =
      let all = product ∙ ap₂ ◌*◌ transitions ands in
      let some = halves ∙ ap (λ (n : ℕ). n * (n - 1) / 2) transitions in
      omega (arith, states, transitions, ands, all, literals, some, does)

-- ---- the header
pub items_count : (c : Chart) → (flattened c).items ≡ c.items
unfolding flattened
items_count c = refl

-- a chart's flat table has few enough words for 16 bits
pub total_small : {t : List ℕ} → ChartRules t → total (flattened (view t)) < 65536
total_small {t} r = omega (arith, total_in_room (view t), room_few r)

module _ (c : Chart) (s : Sizes) (p : Places) where
  -- its words as they are worked out: the first twelve, and the last six
  abbrev pub count_words : List ℕ
  count_words =
      2 ∷ p.total ∷ s.machines ∷ s.states ∷ c.events ∷ c.signals ∷ c.outputs ∷ c.variables ∷ s.guards ∷ s.literals
      ∷ c.items ∷ s.rules ∷ []

  abbrev pub place_words : List ℕ
  place_words = 18 ∷ p.states ∷ p.guards ∷ p.literals ∷ p.items ∷ p.rules ∷ []

  header_is : SizesOf (flattened c) s → PlacesOf (flattened c) p → header (flattened c) ≡ count_words ++ place_words
  unfolding header flattened
  header_is is at =
      rw (
        is.machines_are,
        is.states_are,
        is.guards_are,
        is.literals_are,
        is.rules_are,
        at.states_at,
        at.guards_at,
        at.literals_at,
        at.items_at,
        at.rules_at,
        at.ends_at,
      ) refl

  pub header_laid : (room : List ℕ) {mid after : List ℕ} → SizesOf (flattened c) s → PlacesOf (flattened c) p
      → mid ≡ lay 0 count_words room → after ≡ lay 12 place_words mid → after ≡ lay 0 (header (flattened c)) room
  header_laid room is at first last =
      last
      ∙ ap (lay 12 place_words) first
      ∙ sym (lay_append 0 count_words place_words room)
      ∙ ap (λ (l : List ℕ). lay 0 l room) (sym (header_is is at))

-- the machines' section begins behind its 18 words
pub header_end : (g : Table) (room : List ℕ) {after : List ℕ} → after ≡ lay 0 (header g) room → Laid 0 (header g) room 18 after
unfolding header
header_end g room e = record { place = refl; laid = e }

-- ---- machines and states
module _ (c : Chart) where
  abbrev pub initial_of : ℕ → List ℕ
  initial_of o = when (is_or c o) (and_rank c (c.initial o))

  abbrev pub owner_of : ℕ → List ℕ
  owner_of j = when (is_and c j) (or_rank c (c.parent j))

  pub initials_are : (flattened c).initials ≡ join_up initial_of c.states
  unfolding flattened
  initials_are = refl

  pub owners_are : (flattened c).owners ≡ join_up owner_of c.states
  unfolding flattened
  owners_are = refl

-- at most one word for each state
pub named_few : (t : List ℕ) (ands : Bool) (r : ℕ) (numbers : List ℕ) (k : ℕ) → length (join_up (named t ands r numbers) k) ≤ k
named_few t ands r numbers k =
    omega (arith, join_up_length (named t ands r numbers) 1 (λ j. when_length (of? ands (view t) j) _) k)

pub initials_few : (c : Chart) → length (flattened c).initials ≤ c.states
initials_few c = omega (arith, machines_are c, all_states c)

-- a word that is read for every state, and laid for some
module _ (t : List ℕ) (w : Tree (view t)) where
  abbrev c : Chart
  c = view t

  pub initial_word : (ands : List ℕ) → AndRanks c ands → (o : ℕ) → o < c.states → named t false 2 ands o ≡ initial_of c o
  unfolding of?
  initial_word ands ranks o h =
      by_bool (is_or c o) (λ e. rw e (ap (λ (x : ℕ). x ∷ []) (ranks (c.initial o) (w.initial_in o h (not_yes (is_and c o) e)))))
      (λ e. rw e refl)

  pub owner_word : (ors : List ℕ) → Ranks c ors → (j : ℕ) → j < c.states → named t true 1 ors j ≡ owner_of c j
  unfolding of?
  owner_word ors ranks j h =
      by_bool (is_and c j)
      (λ e. rw e (ap (λ (x : ℕ). x ∷ []) (ranks (c.parent j) (omega (arith, up_lt w j h e)))))
      (λ e. rw e refl)
