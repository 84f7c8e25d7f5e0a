-- `flatten_rules::lay_rules` meets its contract: the rules of the transitions passed are laid, and the guards' numbers run
-- on. Assumes nothing.
use borrow.Author.Rules.{rules}
use Prim.Native.Nat.{ℕ}
use mathlib.Core.Path.{◌≡◌, refl, sym, ap, ◌∙◌}
use native.Mathlib.Numerals.{add-one}
use native.Mathlib.Omega.{arith}
use Rattle.chart.specs.View.{view}
use Rattle.flatten_meaning.specs.Flattened.{entered_guard, rules_of, flattened}
use Rattle.flatten_meaning.specs.Encoded.{rule_row, rule_words}
use Rattle.flatten_laying.proofs.Laid.{laid_none, rows_next}
use Rattle.flatten_rules.proofs.lay_rules.Goals as goal

pub loop-k-init : goal.loop-k-init
loop-k-init c = (c.requires.3, omega arith, refl, laid_none)

pub loop-k-preserved : goal.loop-k-preserved
loop-k-preserved c =
    let s = c.args in
    let v = view s.t.table.words.now in
    let l = c.loop-k in
    let e = c.entries_of-e.ensures in
    let one = c.lay_rules_of-next.ensures in
    let next = e.is.next_is ∙ ap (λ (k : ℕ). entered_guard v k 0) (sym (add-one l.k)) in (
      next,
      omega (arith, l.invariant.1, one.few),
      search rules,
      rows_next rule_row (rules_of v) l.k l.invariant.3 one.rules,
    )

pub returns : goal.returns
unfolding rule_words flattened
returns c =
    let v = view c.args.t.table.words.now in
    let l = c.loop-k in
    let all : l.k ≡ v.transitions = omega arith in
    let laid = rw all at l.invariant.3 in
    record { next = laid.place; room = laid.laid }
