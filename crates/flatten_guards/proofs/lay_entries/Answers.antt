-- `flatten_guards::lay_entries` meets its contract: the guards for the transitions passed are laid, and their numbers run
-- on. Assumes nothing.
use borrow.Author.Rules.{rules}
use Prim.Native.Nat.{ℕ}
use mathlib.Core.Path.{refl, ap, ◌∙◌, sym}
use native.Mathlib.Numerals.{add-one}
use native.Mathlib.Omega.{arith}
use Rattle.chart.specs.View.{view}
use Rattle.flatten_meaning.specs.Flattened.{entered_guard, entered_guards_of}
use Rattle.flatten_guards.proofs.Penned.{penned_none, penned_next}
use Rattle.flatten_guards.proofs.lay_entries.Goals as goal

pub loop-k-init : goal.loop-k-init
loop-k-init c = (
  c.requires.2,
  (omega arith, omega arith),
  refl,
  penned_none,
)

pub loop-k-preserved : goal.loop-k-preserved
loop-k-preserved c =
    let s = c.args in
    let v = view s.t.table.words.now in
    let l = c.loop-k in
    let e = c.entries_of-e.ensures in
    let one = c.lay_forks-next.ensures in
    let next = e.is.next_is ∙ ap (λ (k : ℕ). entered_guard v k 0) (sym (add-one l.k)) in (
      next,
      (omega (arith, l.invariant.1.0, one.few.0), omega (arith, l.invariant.1.1, one.few.1)),
      search rules,
      penned_next (entered_guards_of v) l.k l.invariant.3 one.guards,
    )
