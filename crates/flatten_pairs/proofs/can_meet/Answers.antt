-- `flatten_pairs::can_meet` meets its contract: states can be active together just where one is at or above the other, or they are
-- apart. Assumes nothing.
use mathlib.Core.Path.{sym, ◌∙◌}
use Rattle.chart_meaning.proofs.Tree.{tree}
use Rattle.flatten_pairs.proofs.Meets.{meets_near}
use Rattle.flatten_pairs.proofs.can_meet.Goals as goal

pub returns-then-is_within : goal.returns-then-is_within
returns-then-is_within c =
    let s = c.args in
    let pre = c.requires in
    rw (meets_near (tree c.args.t.rules) s.a pre.0 s.j pre.1, sym c.is_within.ensures ∙ c.if-is_within.true)

pub returns-then-is_within-2 : goal.returns-then-is_within-2
returns-then-is_within-2 c =
    let s = c.args in
    let pre = c.requires in
    let not-over = sym c.is_within.ensures ∙ c.if-is_within.false in
    let under = sym c.is_within-2.ensures ∙ c.if-is_within-2.true in
    rw (meets_near (tree c.args.t.rules) s.a pre.0 s.j pre.1, not-over, under)

pub returns : goal.returns
returns c =
    let s = c.args in
    let pre = c.requires in
    let not-over = sym c.is_within.ensures ∙ c.if-is_within.false in
    let not-under = sym c.is_within-2.ensures ∙ c.if-is_within-2.false in
    rw (meets_near (tree c.args.t.rules) s.a pre.0 s.j pre.1, not-over, not-under) c.are_apart.ensures
