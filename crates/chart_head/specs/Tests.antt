-- Rules 1 to 3 of specs/Rules.antt as tests.
use Rattle.std.specs.Prelude.{ℕ, Bool, ◌&&◌, List, length, eqb, leb}
use Rattle.words.specs.Loops.{between?}
use Rattle.table.specs.Layout.{follows?, at}
use Rattle.chart.specs.View.{Chart}

-- rule 1
unfoldable pub good_form? : List ℕ → Bool
good_form? t = leb 16 (length t) && (eqb (at t 0) 1 && eqb (at t 1) (length t))

-- rule 2
abbrev pub tree_counts? : Chart → Bool
tree_counts? c = between? 2 48 c.states && (between? 0 48 c.transitions && between? 1 32 c.events)

abbrev pub name_counts? : Chart → Bool
name_counts? c = between? 0 32 c.signals && (between? 0 64 c.outputs && between? 0 16 c.variables)

abbrev pub list_counts? : Chart → Bool
list_counts? c = between? 0 192 c.targets && (between? 0 192 c.literals && between? 0 512 c.items)

unfoldable pub good_counts? : Chart → Bool
good_counts? c = tree_counts? c && (name_counts? c && list_counts? c)

-- rule 3
abbrev pub front_layout? : List ℕ → Bool
front_layout? t = eqb (at t 11) 16 && (follows? t 12 11 7 2 && follows? t 13 12 8 3)

abbrev pub back_layout? : List ℕ → Bool
back_layout? t = follows? t 14 13 1 8 && (follows? t 15 14 3 9 && follows? t 1 15 3 10)

unfoldable pub good_layout? : List ℕ → Bool
good_layout? t = front_layout? t && back_layout? t
