-- How a macrostep that the code has gone through stands to what is meant. `rest` says how its words are handed back.
use Rattle.std.specs.Prelude.{ℕ, ◌*◌, ◌≡◌, Bool, true, false, not, cond, ◌&&◌, List, ◌++◌, length, leb}
use Rattle.table.specs.declared.Refusal.{Refusal}
use Rattle.effects.specs.Run.{Result, ok, refuse, St, written}
use Rattle.effects.specs.Work.{fired_of, left_of, entered_of, micro_of, outs_of, stopped?, refusal_of}
use Rattle.effects.specs.declared.Progress.{Progress}

-- A macrostep that was lent k words for its outputs has ended well, and they hold all that it gave.
unfoldable pub told? : Progress → ℕ → Bool
told? n k = not (stopped? n) && leb (2 * outs_of n) k

-- The state that is handed back: where the macrostep has stopped, the one that was lent.
unfoldable pub handed : (List ℕ → List ℕ) → Progress → List ℕ → List ℕ → List ℕ → List ℕ
handed rest n words vars state = cond (stopped? n) state (rest words ++ vars)

-- The counts, the state handed back and the outputs are those of s; `lent` were the outputs' words before.
pub record Ended (rest : List ℕ → List ℕ) (lent : List ℕ) (s : St) (n : Progress) (state outs : List ℕ) : Type 0 where
  pub goes_on : stopped? n ≡ false
  pub micro : micro_of n ≡ s.micro
  pub left : left_of n ≡ s.left
  pub fired : fired_of n ≡ s.fired
  pub entered : entered_of n ≡ s.entered
  pub given : outs_of n ≡ length s.env.outs
  pub state_is : state ≡ rest s.words ++ s.env.vars
  pub outs_are : outs ≡ written 0 s.env.outs lent

-- It has stopped for this refusal, and neither the state nor an output's word has changed.
pub record Halted (before lent : List ℕ) (r : Refusal) (n : Progress) (state outs : List ℕ) : Type 0 where
  pub halts : stopped? n ≡ true
  pub why : refusal_of n ≡ r
  pub state_stays : state ≡ before
  pub outs_stay : outs ≡ lent

pub data Ends (rest : List ℕ → List ℕ) (before lent : List ℕ) (n : Progress) (state outs : List ℕ) : Result St → Type 0 where
  ended : {s : St} → Ended rest lent s n state outs → Ends rest before lent n state outs (ok s)
  halted : {r : Refusal} → Halted before lent r n state outs → Ends rest before lent n state outs (refuse r)
