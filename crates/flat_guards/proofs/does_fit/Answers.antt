-- `flat_guards::does_fit` meets its contract: in each arm what is returned is what its callees say. Assumes nothing.
use mathlib.Core.Path.{sym, ap}
use Rattle.flat.specs.Shown.{shown}
use Rattle.flat_guards.specs.Parts.{fits}
use Rattle.flat_guards.proofs.Arms.{current_fits, not_current_fits, at_least_fits, less_fits}
use Rattle.flat_guards.proofs.does_fit.Goals as goal

pub returns-in-Current : goal.returns-in-Current
returns-in-Current c =
    let s = c.args in
    current_fits _ _ _ c.wide.ensures.is (shown s.t.table) s.current.now s.vars.now _
    c.in-Current.is c.is_current.ensures

pub returns-in-NotCurrent : goal.returns-in-NotCurrent
returns-in-NotCurrent c =
    let s = c.args in
    not_current_fits _ _ _ c.wide-in-NotCurrent.ensures.is (shown s.t.table) s.current.now s.vars.now _
    c.in-NotCurrent.is c.is_current-in-NotCurrent.ensures

pub returns-in-AtLeast : goal.returns-in-AtLeast
returns-in-AtLeast c =
    let s = c.args in
    at_least_fits _ _ _ c.wide-in-AtLeast.ensures.is (shown s.t.table) s.current.now s.vars.now _
    _ _ c.word.ensures c.in-AtLeast.is c.is_below.ensures

pub returns-in-Less : goal.returns-in-Less
returns-in-Less c =
    let s = c.args in
    less_fits _ _ _ c.wide-in-Less.ensures.is (shown s.t.table) s.current.now s.vars.now _
    _ _ c.word-in-Less.ensures c.in-Less.is c.is_below-in-Less.ensures

pub returns-in-Holds : goal.returns-in-Holds
unfolding fits
returns-in-Holds c =
    let s = c.args in
    sym (ap (fits (shown s.t.table) s.current.now s.vars.now) c.in-Holds.is)

pub returns-in-Fails : goal.returns-in-Fails
unfolding fits
returns-in-Fails c =
    let s = c.args in
    sym (ap (fits (shown s.t.table) s.current.now s.vars.now) c.in-Fails.is)
