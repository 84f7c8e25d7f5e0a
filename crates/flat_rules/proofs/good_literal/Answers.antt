-- `flat_rules::good_literal` meets its contract: what it returns is what its callees say. Assumes nothing.
use mathlib.Core.Path.{refl}
use Rattle.flat_rules.proofs.Read.{state_literal_read, variable_literal_read, guard_literal_read}
use Rattle.flat_rules.proofs.good_literal.Goals as goal

pub returns-then-kind-lt2 : goal.returns-then-kind-lt2
returns-then-kind-lt2 c =
    let s = c.args in
    state_literal_read s.t.words.now s.k s.i _ _ _ _ c.literal_begin-at.ensures.is
    c.number_in-kind.ensures.is
    c.number_in-a.ensures.is c.number_in-b.ensures.is _ _ c.if-kind-lt2.true
    c.head.ensures.is c.both.ensures

pub returns-then-kind-lt4 : goal.returns-then-kind-lt4
returns-then-kind-lt4 c =
    let s = c.args in
    variable_literal_read s.t.words.now s.k s.i _ _ _ _ c.literal_begin-at.ensures.is
    c.number_in-kind.ensures.is
    c.number_in-a.ensures.is c.number_in-b.ensures.is _ _ c.if-kind-lt2.false
    c.if-kind-lt4.true c.head-then-kind-lt4.ensures.is refl

pub returns : goal.returns
returns c =
    let s = c.args in
    guard_literal_read s.t.words.now s.k s.i _ _ _ _ c.literal_begin-at.ensures.is
    c.number_in-kind.ensures.is
    c.number_in-a.ensures.is c.number_in-b.ensures.is _ c.if-kind-lt2.false c.if-kind-lt4.false
    c.names_guard.ensures
