-- Rules 4 to 9 of specs/Rules.antt as tests, one for each rule and place.
use Rattle.std.specs.Prelude.{ℕ, ◌+◌, ◌-◌, Bool, not, ◌&&◌, cond, eqb, ltb, leb}
use Rattle.words.specs.Loops.{all_below}
use Rattle.table.specs.Rows.{good_item_in?}
use Rattle.table.specs.Span.{inside?}
use Rattle.chart.specs.View.{Chart, item_counts, is_and, and_state?, child_of?}
use Rattle.chart.specs.Tree.{apart}
use Rattle.chart_rules.specs.Rules.{aim}

-- rule 4
abbrev pub differ : Bool → Bool → Bool
differ a b = cond a (not b) b

abbrev pub root_place? : Chart → ℕ → Bool
root_place? c k = eqb (c.kind k) 0 && eqb (c.parent k) 65535

abbrev pub inner_place? : Chart → ℕ → Bool
inner_place? c k = leb (c.kind k) 2 && (ltb (c.parent k) k && differ (is_and c k) (is_and c (c.parent k)))

unfoldable pub good_place? : Chart → ℕ → Bool
good_place? c k = cond (eqb k 0) (root_place? c k) (inner_place? c k)

abbrev pub or_body? : Chart → ℕ → Bool
or_body? c k = child_of? c k (c.initial k) && (eqb (c.exits k).count 0 && eqb (c.entries k).count 0)

unfoldable pub good_body? : Chart → ℕ → Bool
good_body? c k = cond (is_and c k) (eqb (c.initial k) 65535) (or_body? c k)

abbrev pub good_state? : Chart → ℕ → Bool
good_state? c k = good_place? c k && good_body? c k

-- rule 5: the places are the states and then the transitions
unfoldable pub good_state_spans? : Chart → ℕ → Bool
good_state_spans? c k = inside? (c.exits k) c.items && inside? (c.entries k) c.items

unfoldable pub good_transition_spans? : Chart → ℕ → Bool
good_transition_spans? c k =
    (inside? (c.asks k) c.literals && leb (c.asks k).count 8)
    && (inside? (c.does k) c.items && inside? (c.aims k) c.targets)

unfoldable pub good_spans? : Chart → ℕ → Bool
good_spans? c p = cond (ltb p c.states) (good_state_spans? c p) (good_transition_spans? c (p - c.states))

-- rule 6
unfoldable pub good_literal? : Chart → ℕ → ℕ → ℕ → Bool
good_literal? c kind a b =
    cond (ltb kind 2) (and_state? c a && eqb b 0) (ltb kind 4 && ltb a c.variables)

-- rules 6 and 7 for literal i and for item i
abbrev pub literal_kept : Chart → ℕ → Bool
literal_kept c i = good_literal? c (c.literal i).kind (c.literal i).a (c.literal i).b

abbrev pub item_kept : Chart → ℕ → Bool
item_kept c i = good_item_in? (item_counts c) (c.item i)

-- rule 8
unfoldable pub good_source? : Chart → ℕ → Bool
good_source? c k = and_state? c (c.source k) && ltb (c.trigger k) (c.events + c.signals)

-- rule 9: target i of transition k, against those before it
unfoldable pub apart_from? : Chart → ℕ → ℕ → Bool
apart_from? c k i = all_below (λ j. apart c (aim c k j) (aim c k i)) i

unfoldable pub good_target? : Chart → ℕ → ℕ → Bool
good_target? c k i = and_state? c (aim c k i) && apart_from? c k i

unfoldable pub good_targets? : Chart → ℕ → Bool
good_targets? c k = all_below (good_target? c k) (c.aims k).count
