-- Guards laid into one of the two sections: where the pen stands then, and what the room is.
use Rattle.std.specs.Prelude.{ℕ, ◌+◌, ◌*◌, ◌<◌, ◌≤◌, ◌≡◌, Bool, not, List}
use Rattle.std.specs.Borrow.{MutBor}
use Rattle.words.specs.Loops.{when}
use Rattle.flat.specs.declared.FlatLiteral.{FlatLiteral}
use Rattle.chart.specs.View.{Chart}
use Rattle.flatten_meaning.specs.Flattened.{asked, active_literals, bare, taken_literals, forks, entered_literals}
use Rattle.flatten_laying.specs.Lay.{lay}
use Rattle.flatten_literals.specs.Told.{Told}
use Rattle.flatten_guards.specs.declared.Pen.{Pen}
use Rattle.flatten_guards.specs.Parts.{part, moved}

pub record Penned (spans : Bool) (gs : List (List FlatLiteral)) (p : Pen) (before : List ℕ) (q : Pen)
    (after : List ℕ) : Type 0 where
  pub pen : q ≡ moved spans gs p
  pub laid : after ≡ lay p.at (part spans p.first gs) before

-- Each call that begins below word 400000 lays these literals, which are `most` at most. `call` says what a call may leave.
abbrev pub Puts : (MutBor (List ℕ) → ℕ → ℕ → MutBor (List ℕ) → Type 0) → List FlatLiteral → ℕ → Type 0
Puts call g most =
    (room after : MutBor (List ℕ)) (at end : ℕ) → at < 400000 → call room at end after
    → Told at g room.now end after.now × (end ≤ at + 3 * most)

-- The pen at word `at`, with `size` literals more behind it.
abbrev pub stepped : Pen → ℕ → ℕ → Pen
stepped p at size = record { at = at; first = p.first + size }

-- It has gone on by so many words and literals at most.
abbrev pub Within : ℕ → ℕ → Pen → Pen → Type 0
Within words literals p q = (q.at ≤ p.at + words) × (q.first ≤ p.first + literals)

-- The guard that a state or a transition has, or none: of its being active, taken, entered by transition k.
abbrev pub of_active : Chart → ℕ → List (List FlatLiteral)
of_active c j = when (asked c j) (active_literals c j)

abbrev pub of_taken : Chart → ℕ → List (List FlatLiteral)
of_taken c k = when (not (bare c k)) (taken_literals c k)

abbrev pub of_entered : Chart → ℕ → ℕ → List (List FlatLiteral)
of_entered c k j = when (forks c k j) (entered_literals c k j)
