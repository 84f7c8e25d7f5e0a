-- `flat_engine::start_accepted` meets its contract: initial states in front, and zeros behind them. Assumes nothing.
use Rattle.std.specs.Prelude.{Ok}
use Prim.Native.Nat.{ℕ, ◌+◌, ◌-◌}
use mathlib.Core.Path.{◌≡◌, refl, sym, ap, ap₂, ◌∙◌}
use mathlib.Core.Logic.{◌≢◌}
use mathlib.Core.List.{List, ◌++◌}
use native.Mathlib.Omega.{arith}
use lib.ListN.{length, take, drop, length-append, length-drop}
use lib.Seq.{take_at}
use Rattle.words.proofs.Tests.{eqb_yes, eqb_no}
use Rattle.effects.specs.Lent.{zeros, start_told}
use Rattle.flat.specs.Shown.{shown}
use Rattle.flat.specs.View.{Flat}
use Rattle.flat_meaning.specs.State.{flat_length, flat_start_words, flat_start_state}
use Rattle.flat_meaning.specs.Calls.{flat_started_on}
use Rattle.flat_meaning.proofs.State.{start_owned}
use Rattle.flat_engine.proofs.start_accepted.Goals as goal

-- what is laid and cleared is the start state
laid_start : (f : Flat) (state laid cleared : List ℕ) (n : ℕ) → length (flat_start_words f) ≡ f.machines → n ≡ f.machines
    → length state ≡ n + f.variables → laid ≡ flat_start_words f ++ drop f.machines state
    → cleared ≡ take n laid ++ zeros (length laid - n) → cleared ≡ flat_start_state f
unfolding flat_start_state
laid_start f state laid cleared n words is long l z =
    let old = drop f.machines state in
    let front : take n laid ≡ flat_start_words f = rw l (take_at (flat_start_words f) old n (words ∙ sym is)) in
    let both = simp (length-append, length-drop) at (ap length l) in
    let behind : length laid - n ≡ f.variables = omega (arith, both, words) in
    z ∙ ap₂ (λ (x : List ℕ) (k : ℕ). x ++ zeros k) front behind

pub returns-then-state-machines : goal.returns-then-state-machines
unfolding flat_started_on flat_length
returns-then-state-machines c =
    let s = c.args in
    let f = shown s.t.table in
    let other : length s.state.now ≢ f.machines + f.variables =
    λ e. c.if-state-machines.true (e ∙ sym (ap₂ ◌+◌ c.head-machines.ensures.is c.head.ensures.is)) in
    rw (eqb_no other) refl

pub returns : goal.returns
unfolding flat_started_on flat_length
returns c =
    let s = c.args in
    let f = shown s.t.table in
    let m = c.head-machines.ensures.is in
    let v = c.head.ensures.is in
    let long = c.if-state-machines.false ∙ ap₂ ◌+◌ m v in
    rw (eqb_yes long)
    (ap (start_told (Ok tt))
    (laid_start f s.state.now _ _ _ (start_owned f s.t.rules.machines).long m
    (c.if-state-machines.false ∙ ap (λ (k : ℕ). c.head-machines.result + k) v)
    c.lay_initials.ensures c.clear.ensures))
