-- What the tests of the walk say: behind the first three the table can be read, and where all hold it is accepted. Assumes nothing.
use Prim.Native.Nat.{ℕ, ◌<◌}
use mathlib.Core.Path.{◌≡◌}
use mathlib.Core.Bool.{true}
use mathlib.Core.List.{List}
use Rattle.words.specs.Loops.{all_below}
use Rattle.words.proofs.Tells.{◌and◌, every}
use Rattle.chart.specs.View.{view}
use Rattle.chart.specs.Readable.{Readable}
use Rattle.chart_head.specs.Rules.{GoodForm, GoodCounts, GoodLayout}
use Rattle.chart_head.proofs.Told.{form, counts, layout}
use Rattle.chart_head.proofs.Readable.{readable}
use Rattle.chart_rules.specs.Rules.{GoodPlace}
use Rattle.chart_rules.specs.Tests.{literal_kept, item_kept}
use Rattle.chart_rules.proofs.Told.{state, state_spans, transition_spans, literal, item, source, targets}
use Rattle.chart_check.specs.Answer.{chart_answer}
use Rattle.chart_check.specs.Records.{whole_kept, state_kept, transition_kept}
use Rattle.chart_check.proofs.Exact.{exact}

module _ (t : List ℕ) (laid : whole_kept t ≡ true) where
  laid_out : GoodForm t × (GoodCounts (view t) × GoodLayout t)
  laid_out = (form t and counts (view t) and layout t).told laid

  pub readable_by : Readable t
  readable_by = readable laid_out.0 laid_out.1.0 laid_out.1.1

  pub accepted_by :
      all_below (state_kept (view t)) (view t).states ≡ true →
      all_below (transition_kept (view t)) (view t).transitions ≡ true →
      all_below (literal_kept (view t)) (view t).literals ≡ true →
      all_below (item_kept (view t)) (view t).items ≡ true →
      chart_answer t ≡ (0, 0)
  accepted_by s r l i =
      let c = view t in
      let n = laid_out.1.0 in
      let of_state = (every c.states (λ k. state c k and state_spans c k)).told s in
      let places : (k : ℕ) → k < c.states → GoodPlace c k = λ k h. (of_state k h).0.0 in
      let of-transition =
      (every c.transitions (λ k. transition_spans c k and source c k and targets c n places k)).told r in
      (exact t).1 (record {
        form = laid_out.0;
        counts = n;
        layout = laid_out.1.1;
        places = places;
        bodies = λ k h. (of_state k h).0.1;
        state_spans = λ k h. (of_state k h).1;
        transition_spans = λ k h. (of-transition k h).0;
        literals = (every c.literals (literal c)).told l;
        items = (every c.items (item c)).told i;
        sources = λ k h. (of-transition k h).1.0;
        targets = λ k h. (of-transition k h).1.1;
      })
