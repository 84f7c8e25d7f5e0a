-- `chart_engine::start_accepted` meets its contract: initial children in front, and zeros behind them. Assumes nothing.
use Rattle.std.specs.Prelude.{Ok}
use Prim.Native.Nat.{ℕ, ◌+◌, ◌-◌}
use mathlib.Core.Path.{◌≡◌, refl, sym, ap, ap₂, ◌∙◌}
use mathlib.Core.Logic.{◌≢◌}
use mathlib.Core.List.{List, ◌++◌}
use native.Mathlib.Omega.{arith}
use lib.ListN.{length, take, drop, length-append, length-drop}
use lib.Seq.{take_at}
use Rattle.words.proofs.Tests.{eqb_yes, eqb_no}
use Rattle.words.proofs.Ranks.{rank_length}
use Rattle.chart.specs.View.{Chart, view}
use Rattle.chart_meaning.specs.Active.{is_or}
use Rattle.effects.specs.Lent.{zeros, start_told}
use Rattle.chart_meaning.specs.State.{or_states, state_length, start_words, start_state}
use Rattle.chart_meaning.specs.Calls.{started_on}
use Rattle.chart_engine.proofs.start_accepted.Goals as goal

-- what is laid and cleared is the start state
laid_start : (c : Chart) (state laid cleared : List ℕ) (ors : ℕ) → ors ≡ or_states c → length state ≡ ors + c.variables
    → laid ≡ start_words c ++ drop (or_states c) state → cleared ≡ take ors laid ++ zeros (length laid - ors)
    → cleared ≡ start_state c
unfolding start_state start_words or_states
laid_start c state laid cleared ors is long l z =
    let words = rank_length (is_or c) c.initial c.states in
    let old = drop (or_states c) state in
    let front : take ors laid ≡ start_words c = rw l (take_at (start_words c) old ors (words ∙ sym is)) in
    let both = simp (length-append, length-drop) at (ap length l) in
    let behind : length laid - ors ≡ c.variables = omega (arith, both, words) in
    z ∙ ap₂ (λ (x : List ℕ) (n : ℕ). x ++ zeros n) front behind

pub returns-then-state-words : goal.returns-then-state-words
unfolding started_on state_length
returns-then-state-words c =
    let s = c.args in
    let v = view s.t.table.words.now in
    let other : length s.state.now ≢ or_states v + v.variables =
    λ e. c.if-state-words.true (omega (arith, c.count-words.ensures.is, c.head.ensures.is)) in
    rw (eqb_no other) refl

pub returns : goal.returns
unfolding started_on state_length
returns c =
    let s = c.args in
    let v = view s.t.table.words.now in
    let is = c.count-words.ensures.is in
    let n = c.head.ensures.is in
    let long : length s.state.now ≡ or_states v + v.variables = omega (arith, is, n) in
    rw (eqb_yes long)
    (ap (start_told (Ok tt))
    (laid_start v s.state.now _ _ _ is (omega (arith, n)) c.lay_initials.ensures c.clear.ensures))
