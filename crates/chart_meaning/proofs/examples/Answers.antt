-- By computation. Assumes nothing.
use mathlib.Core.Path.{refl}
use Rattle.chart_meaning.specs.Opened.{opened}
use Rattle.chart_meaning.proofs.examples.Goals as goal

pub returns : goal.returns
unfolding opened
returns c = record {
  started = λ a b c d. refl;
  first = refl;
  second = refl;
  third = refl;
  fourth = refl;
  fifth = refl;
  sixth = refl;
  seventh = refl;
  adds = record { wraps_at_top = refl; clips_at_top = refl; wraps_at_bottom = refl; clips_at_bottom = refl };
}
