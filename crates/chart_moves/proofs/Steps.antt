-- The items that the code runs are those that a state or a transition has. Assumes nothing.
use Prim.Native.Nat.{ℕ}
use mathlib.Core.Path.{◌≡◌, ap}
use mathlib.Core.List.{List}
use Rattle.table.specs.Span.{Span, span_at}
use Rattle.effects.specs.Work.{span_items}
use Rattle.chart.specs.View.{view}
use Rattle.chart_meaning.specs.Steps.{items_of}

pub span_does : (t : List ℕ) (at : ℕ) (s : Span) → span_at t at ≡ s → span_items t 15 at ≡ items_of (view t) s
unfolding span_items items_of
span_does t at s e = ap (items_of (view t)) e
