-- What the loop of `flat_engine::good_words` keeps.
use mathlib.Core.Path.{◌≡◌}
use mathlib.Core.Bool.{true}
use Rattle.words.specs.Loops.{all_below}
use Rattle.flat.specs.Shown.{shown}
use Rattle.flat_meaning.specs.State.{good_flat_word?}
use Rattle.flat_engine.proofs.good_words.Given as goal

abbrev pub invariant-loop-m : goal.invariant-loop-m
invariant-loop-m l = all_below (good_flat_word? (shown l.t.table) l.current) l.m ≡ true
