-- `flat_macrostep::attempt` meets its contract: the macrostep begins with the state's words and variables. Assumes nothing.
use Prim.Native.Nat.{ℕ}
use mathlib.Core.Path.{◌≡◌, refl, ap, ◌∙◌}
use mathlib.Core.List.{List}
use lib.ListN.{length, take, drop}
use Rattle.effects.specs.declared.Progress.{Progress}
use Rattle.effects.specs.Run.{Machine}
use Rattle.effects.specs.Work.{Going, going, turns, fresh}
use Rattle.flat.specs.Shown.{shown}
use Rattle.flat_meaning.specs.Steps.{flat_machine}
use Rattle.macrostep.proofs.Turns.{filled_behind}
use Rattle.flat_macrostep.proofs.attempt.Goals as goal

-- what begins with the words and variables of a state
begun : (events pairs : ℕ) (m : Machine) (e : ℕ) (g : Going) (n : Progress) (state next vars outs queue : List ℕ) (k : ℕ)
    → g ≡ turns 64 events pairs m e (going n next vars outs queue) → n ≡ fresh → next ≡ take k state → vars ≡ drop k state
    → g ≡ turns 64 events pairs m e (going fresh (take k state) (drop k state) outs queue)
begun events pairs m e g n state next vars outs queue k p a b d = p ∙ rw (a, b, d) refl

pub returns : goal.returns
returns c =
    let s = c.args in
    let f = shown s.t.table in
    let state = s.state.now in
    let k = length s.next.now in
    let long = length s.vars.now in
    let behind = c.load-2.ensures ∙ ap (λ (i : ℕ). take long (drop i state)) c.next-1.given in
    begun f.events s.pairs (flat_machine f) s.event.0 _ _ state _ _ s.outs.now s.queue.now k
    c.go.ensures c.new.ensures c.load.ensures (filled_behind _ state k long c.requires.state_long behind)
