-- Rules 11 to 13 of specs/Rules.antt as tests.
use Rattle.std.specs.Prelude.{ℕ, Bool, ◌&&◌, List, length, eqb, leb}
use Rattle.words.specs.Loops.{between?}
use Rattle.table.specs.Layout.{follows?, at}
use Rattle.flat.specs.View.{Flat}

-- rule 11
unfoldable pub good_flat_form? : List ℕ → Bool
good_flat_form? t = leb 18 (length t) && (eqb (at t 0) 2 && eqb (at t 1) (length t))

-- rule 12
abbrev pub state_counts? : Flat → Bool
state_counts? f = between? 1 24 f.machines && (between? 1 47 f.states && between? 1 32 f.events)

abbrev pub name_flat_counts? : Flat → Bool
name_flat_counts? f = between? 0 32 f.signals && (between? 0 64 f.outputs && between? 0 16 f.variables)

abbrev pub list_flat_counts? : Flat → Bool
list_flat_counts? f =
    (between? 0 2351 f.guards && between? 0 6166 f.literals) && (between? 0 512 f.items && between? 0 4560 f.rules)

unfoldable pub good_flat_counts? : Flat → Bool
good_flat_counts? f = state_counts? f && (name_flat_counts? f && list_flat_counts? f)

-- rule 13
abbrev pub front_flat_layout? : List ℕ → Bool
front_flat_layout? t = eqb (at t 12) 18 && (follows? t 13 12 1 2 && follows? t 14 13 1 3)

abbrev pub back_flat_layout? : List ℕ → Bool
back_flat_layout? t =
    (follows? t 15 14 2 8 && follows? t 16 15 3 9) && (follows? t 17 16 3 10 && follows? t 1 17 6 11)

unfoldable pub good_flat_layout? : List ℕ → Bool
good_flat_layout? t = front_flat_layout? t && back_flat_layout? t
