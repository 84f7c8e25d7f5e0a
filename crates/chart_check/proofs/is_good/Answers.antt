-- `chart_check::is_good` meets its contract: it says yes where all tests hold, and then the table is accepted. Assumes nothing.
use mathlib.Core.Path.{refl, sym, ◌∙◌}
use mathlib.Core.Bool.{false}
use Rattle.words.proofs.Tests.{clash}
use Rattle.chart_check.proofs.Walk.{holds}
use Rattle.chart_check.proofs.Good.{readable_by, accepted_by}
use Rattle.chart_check.proofs.is_good.Goals as goal

pub invariant_of-are_states_good : goal.invariant_of-are_states_good
invariant_of-are_states_good c = record { readable = readable_by c.args.t.now (holds c.is_laid_out.ensures c.if-not-is_laid_out.false) }

pub invariant_of-are_transitions_good : goal.invariant_of-are_transitions_good
invariant_of-are_transitions_good c = record { readable = readable_by c.args.t.now (holds c.is_laid_out.ensures c.if-not-is_laid_out.false) }

pub invariant_of-are_literals_good : goal.invariant_of-are_literals_good
invariant_of-are_literals_good c = record { readable = readable_by c.args.t.now (holds c.is_laid_out.ensures c.if-not-is_laid_out.false) }

pub invariant_of-are_items_good : goal.invariant_of-are_items_good
invariant_of-are_items_good c = record { readable = readable_by c.args.t.now (holds c.is_laid_out.ensures c.if-not-is_laid_out.false) }

pub returns : goal.returns
returns c = λ e.
    accepted_by c.args.t.now
    (holds c.is_laid_out.ensures c.if-not-is_laid_out.false)
    (holds c.are_states_good.ensures c.if-not-are_states_good.false)
    (holds c.are_transitions_good.ensures c.if-not-are_transitions_good.false)
    (holds c.are_literals_good.ensures c.if-not-are_literals_good.false)
    (sym c.are_items_good.ensures ∙ e)

pub returns-then-not-is_laid_out : goal.returns-then-not-is_laid_out
returns-then-not-is_laid_out c = λ e. clash false e refl

pub returns-then-not-are_states_good : goal.returns-then-not-are_states_good
returns-then-not-are_states_good c = λ e. clash false e refl

pub returns-then-not-are_transitions_good : goal.returns-then-not-are_transitions_good
returns-then-not-are_transitions_good c = λ e. clash false e refl

pub returns-then-not-are_literals_good : goal.returns-then-not-are_literals_good
returns-then-not-are_literals_good c = λ e. clash false e refl
