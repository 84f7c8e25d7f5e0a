-- Two microsteps of a flat table, by an example with an overridden target. Machine 0 has the states 0, 1, 2 and machine 1 the
-- states 3, 4. On event 0 two rules of machine 0 fire: rule 0 to state 1, and rule 1 to state 2, which prevails. Rule 0 adds 1
-- to variable 0, and yet rule 1, which asks that it be less than 1 and that state 0 be current, fires, and rule 2, which asks
-- that it be at least 1, does not: guards are read at the microstep's start. Rule 0 raises signal 0; by it rule 3 fires in the
-- second microstep, where state 0 is no longer current, so that rule 4 does not.
use Rattle.std.specs.Prelude.{ℕ, ◌≡◌, refl, List, [], ◌∷◌}
use Rattle.flat_check.specs.Answer.{flat_answer}
use Rattle.flat_meaning.specs.Calls.{start_flat, run_flat}
use Rattle.flat_meaning.specs.Opened.{flat_opened}

-- The table, but for the guard that a literal of guard 3 names. The sections, in their order:
-- header: form, total, 2 machines, 5 states, 1 event, 1 signal, 2 outputs, 1 variable, 5 guards, 6 literals, 4 items, 5 rules,
-- and the offsets;
-- initial states of the machines; machines of the states;
-- guards: 0 without literals, 1 of literal 0, 2 of literals 1 and 2, 3 of literals 3 and 4, 4 of literal 5;
-- literals: state 0 is current; variable 0 < 1; guard 1 is true; the guard named is false; state 0 is not current; variable
-- 0 >= 1;
-- items: raise signal 0; add 1 to variable 0; emit output 0 with the value of variable 0; emit output 1;
-- rules: trigger, two guards, first and count of items, target.
abbrev pub naming : ℕ → List ℕ
naming guard =
    2 ∷ 95 ∷ 2 ∷ 5 ∷ 1 ∷ 1 ∷ 2 ∷ 1 ∷ 5 ∷ 6 ∷ 4 ∷ 5 ∷ 18 ∷ 20 ∷ 25 ∷ 35 ∷ 53 ∷ 65 ∷
    0 ∷ 3 ∷
    0 ∷ 0 ∷ 0 ∷ 1 ∷ 1 ∷
    0 ∷ 0 ∷
    0 ∷ 1 ∷
    1 ∷ 2 ∷
    3 ∷ 2 ∷
    5 ∷ 1 ∷
    0 ∷ 0 ∷ 0 ∷
    3 ∷ 0 ∷ 1 ∷
    4 ∷ 1 ∷ 0 ∷
    5 ∷ guard ∷ 0 ∷
    1 ∷ 0 ∷ 0 ∷
    2 ∷ 0 ∷ 1 ∷
    1 ∷ 0 ∷ 0 ∷
    2 ∷ 0 ∷ 1 ∷
    5 ∷ 0 ∷ 0 ∷
    0 ∷ 1 ∷ 0 ∷
    0 ∷ 1 ∷ 1 ∷ 0 ∷ 2 ∷ 1 ∷
    0 ∷ 2 ∷ 1 ∷ 2 ∷ 1 ∷ 2 ∷
    0 ∷ 0 ∷ 4 ∷ 3 ∷ 1 ∷ 4 ∷
    1 ∷ 3 ∷ 4 ∷ 3 ∷ 1 ∷ 4 ∷
    1 ∷ 1 ∷ 0 ∷ 0 ∷ 2 ∷ 0 ∷ []

abbrev pub overridden : List ℕ
overridden = naming 2

pub a_flat_table : flat_answer overridden ≡ (0, 0)
unfolding flat_opened
a_flat_table = refl

pub starts : start_flat overridden (9 ∷ 9 ∷ 9 ∷ []) ≡ record { answer = (0, 0); state = 0 ∷ 3 ∷ 0 ∷ [] }
unfolding flat_opened
starts = refl

-- output 0 with the value 1 by rule 1, then output 1 by rule 3; the word lent past them stays
pub runs : run_flat overridden (0 ∷ 3 ∷ 0 ∷ []) 0 (9 ∷ 9 ∷ 9 ∷ 9 ∷ 9 ∷ [])
    ≡ record {
      answer = (0, 0);
      microsteps = 2;
      fired = 3;
      given = 2;
      state = 2 ∷ 4 ∷ 1 ∷ [];
      outputs = 0 ∷ 1 ∷ 1 ∷ 0 ∷ 9 ∷ [];
    }
unfolding flat_opened
runs = refl

-- a literal of guard 3 that names guard 3
pub names_itself : flat_answer (naming 3) ≡ (16, 3)
unfolding flat_opened
names_itself = refl
