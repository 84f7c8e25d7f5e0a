-- `flat_macrostep::pass` meets its contract: before each time the outputs are as they were, and it is the first time, or what is
-- meant ends well and all words are lent. Assumes nothing.
use Prim.Native.Nat.{ℕ}
use mathlib.Core.Path.{◌≡◌, refl, sym, ◌∙◌}
use mathlib.Core.Bool.{true}
use mathlib.Core.List.{List, ◌++◌}
use lib.ListN.{length}
use Rattle.words.proofs.Tests.{by_bool, clash}
use Rattle.effects.specs.declared.Progress.{Progress}
use Rattle.effects.specs.Run.{Result, St}
use Rattle.effects.specs.Work.{stopped?}
use Rattle.flat.specs.Shown.{shown}
use Rattle.flat_meaning.specs.Steps.{flat_machine}
use Rattle.flat_meaning.proofs.Small.{flat_machine_small, flat_machine_tame}
use Rattle.macrostep.specs.Ends.{told?, handed, Ends}
use Rattle.macrostep.proofs.Passes.{tried}
use Rattle.macrostep.proofs.Passed.{told_pass, stop_pass, again_pass}
use Rattle.flat_macrostep.proofs.Lengths.{all_lent}
use Rattle.flat_macrostep.proofs.pass.Goals as goal

module _ (state o : List ℕ) (n : Progress) (words vars outs : List ℕ) (meant : Result St) where
  -- what is told hands back its words and variables
  told_hands : (k : ℕ) → told? n k ≡ true → Ends (λ w. w) state o n (words ++ vars) outs meant
      → Ends (λ w. w) state o n (handed (λ w. w) n words vars state) outs meant
  unfolding told? handed
  told_hands k h ends = by_bool (stopped? n) (λ e. clash (told? n k) h (rw e refl)) (λ e. rw e ends)

  -- what has stopped hands back the state that was lent
  stop_hands : stopped? n ≡ true → Ends (λ w. w) state o n state outs meant
      → Ends (λ w. w) state o n (handed (λ w. w) n words vars state) outs meant
  unfolding handed
  stop_hands h ends = rw h ends

pub returns-then-is_told : goal.returns-then-is_told
returns-then-is_told c =
    let s = c.args in
    let pre = c.requires in
    let l = c.loop-event in
    let ran = c.attempt-n in
    let pairs = c.pairs_of-pairs in
    let f = shown s.t.table in
    let told = sym c.is_told.ensures ∙ c.if-is_told.true in
    told_hands s.state.now s.outputs.now ran.result _ _ _ _ l.lent told
    (told_pass f.events (flat_machine f) (λ w. w) s.state.now s.outputs.now s.event.0 (length s.next.now)
    (length s.kept.now) (flat_machine_small s.t.rules) (flat_machine_tame s.t.rules) pre.1 pairs.result (length l.next) l.lent
    l.outputs _ l.queue pairs.ensures.is l.invariant.1 l.invariant.4 refl (l.invariant.3 ∙ pre.0.queue_long) l.invariant.5
    ran.result _ _ _ _ ran.ensures told)

pub returns-then-is_stopped : goal.returns-then-is_stopped
returns-then-is_stopped c =
    let s = c.args in
    let pre = c.requires in
    let l = c.loop-event in
    let ran = c.attempt-n in
    let pairs = c.pairs_of-pairs in
    let f = shown s.t.table in
    let stops = sym c.is_stopped.ensures ∙ c.if-is_stopped.true in
    stop_hands s.state.now s.outputs.now ran.result _ _ _ _ stops
    (stop_pass f.events (flat_machine f) (λ w. w) s.state.now s.outputs.now s.event.0 (length s.next.now)
    (length s.kept.now) (flat_machine_small s.t.rules) (flat_machine_tame s.t.rules) pre.1 pairs.result (length l.next) l.lent
    l.outputs _ l.queue pairs.ensures.is l.invariant.1 l.invariant.4 refl (l.invariant.3 ∙ pre.0.queue_long) l.invariant.5
    ran.result _ _ _ _ ran.ensures _ _ c.outputs-1.given.0 c.load.ensures c.load-in-loop-event.ensures stops)

pub loop-event-smaller : goal.loop-event-smaller
loop-event-smaller c =
    let s = c.args in
    let pre = c.requires in
    let l = c.loop-event in
    let ran = c.attempt-n in
    let pairs = c.pairs_of-pairs in
    let f = shown s.t.table in
    let again =
    again_pass f.events (flat_machine f) (λ w. w) s.state.now s.outputs.now s.event.0 (length s.next.now)
    (length s.kept.now) (flat_machine_small s.t.rules) (flat_machine_tame s.t.rules) pre.1 pairs.result (length l.next) l.lent
    l.outputs _ l.queue pairs.ensures.is l.invariant.1 l.invariant.4 refl (l.invariant.3 ∙ pre.0.queue_long) l.invariant.5
    ran.result _ _ _ _ ran.ensures _ _ c.outputs-1.given.0 c.load.ensures c.load-in-loop-event.ensures
    (sym c.is_stopped.ensures ∙ c.if-is_stopped.false) (sym c.is_told.ensures ∙ c.if-is_told.false) in
    all_lent _ _ again.2

pub loop-event-preserved : goal.loop-event-preserved
loop-event-preserved c =
    let s = c.args in
    let pre = c.requires in
    let l = c.loop-event in
    let ran = c.attempt-n in
    let pairs = c.pairs_of-pairs in
    let f = shown s.t.table in
    let again =
    again_pass f.events (flat_machine f) (λ w. w) s.state.now s.outputs.now s.event.0 (length s.next.now)
    (length s.kept.now) (flat_machine_small s.t.rules) (flat_machine_tame s.t.rules) pre.1 pairs.result (length l.next) l.lent
    l.outputs _ l.queue pairs.ensures.is l.invariant.1 l.invariant.4 refl (l.invariant.3 ∙ pre.0.queue_long) l.invariant.5
    ran.result _ _ _ _ ran.ensures _ _ c.outputs-1.given.0 c.load.ensures c.load-in-loop-event.ensures
    (sym c.is_stopped.ensures ∙ c.if-is_stopped.false) (sym c.is_told.ensures ∙ c.if-is_told.false) in (
      c.marks-1.given ∙ l.invariant.0,
      c.next-1.given ∙ l.invariant.1,
      c.vars-1.given ∙ l.invariant.2,
      c.queue-1.given ∙ l.invariant.3,
      again.1,
      tried refl again.0,
    )
