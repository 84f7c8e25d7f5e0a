-- `chart_macrostep::attempt_on` meets its contract: the macrostep begins with the state's words and variables, and the state is
-- handed back where it is told. Assumes nothing.
use mathlib.Core.Path.{sym, ap, ◌∙◌}
use lib.Seq.{length-take-le}
use Rattle.chart.specs.View.{view}
use Rattle.macrostep.specs.Ends.{told?}
use Rattle.chart_macrostep.proofs.Tries.{words_wide, vars_wide, front_fits, front_inside, behind_inside, behind_fits, words_behind, or_states_fit, untold_tried, told_tried}
use Rattle.chart_macrostep.proofs.attempt_on.Goals as goal

-- ---- the words and the variables are loaded
pub slice_bounds-load-end : goal.slice_bounds-load-end
slice_bounds-load-end c = let pre = c.requires in words_wide pre.0 pre.1

pub slice_bounds-load-end-2 : goal.slice_bounds-load-end-2
slice_bounds-load-end-2 c = sym (length-take-le c.args.words c.args.next.now (words_wide c.requires.0 c.requires.1))

pub load-requires : goal.load-requires
load-requires c =
    let wide = words_wide c.requires.0 c.requires.1 in
    front_inside c.requires.0 (length-take-le c.args.words c.args.next.now wide)

pub slice_bounds-load-end-3 : goal.slice_bounds-load-end-3
slice_bounds-load-end-3 c =
    let pre = c.requires in
    vars_wide c.args.t.rules pre.2 c.head-v.ensures.is

pub slice_bounds-load-end-4 : goal.slice_bounds-load-end-4
slice_bounds-load-end-4 c =
    let wide = vars_wide c.args.t.rules c.requires.2 c.head-v.ensures.is in
    sym (length-take-le c.head-v.result c.args.vars.now wide)

pub load-requires-2 : goal.load-requires-2
load-requires-2 c =
    let wide = vars_wide c.args.t.rules c.requires.2 c.head-v.ensures.is in
    behind_inside c.requires.0 c.head-v.ensures.is (length-take-le c.head-v.result c.args.vars.now wide)

-- ---- the macrostep
pub slice_bounds-go-end : goal.slice_bounds-go-end
slice_bounds-go-end c =
    let pre = c.requires in
    words_wide pre.0 (c.next-1.given.1 ∙ pre.1)

pub slice_bounds-go-end-2 : goal.slice_bounds-go-end-2
slice_bounds-go-end-2 c = sym (length-take-le c.args.words _ (words_wide c.requires.0 (c.next-1.given.1 ∙ c.requires.1)))

pub slice_bounds-go-end-3 : goal.slice_bounds-go-end-3
slice_bounds-go-end-3 c =
    let pre = c.requires in
    vars_wide c.args.t.rules (c.vars-1.given.1 ∙ pre.2) c.head-v.ensures.is

pub slice_bounds-go-end-4 : goal.slice_bounds-go-end-4
slice_bounds-go-end-4 c =
    let pre = c.requires in
    let wide = vars_wide c.args.t.rules (c.vars-1.given.1 ∙ pre.2) c.head-v.ensures.is in
    sym (length-take-le c.head-v.result _ wide)

pub go-n-requires : goal.go-n-requires
go-n-requires c =
    c.requires.0.ors_are

-- ---- the state is handed back
pub slice_bounds-lay_rest-end : goal.slice_bounds-lay_rest-end
slice_bounds-lay_rest-end c =
    let pre = c.requires in
    words_wide pre.0 (c.next-2-1.given.1 ∙ c.next-1.given.1 ∙ pre.1)

pub slice_bounds-lay_rest-end-then-is_told : goal.slice_bounds-lay_rest-end-then-is_told
slice_bounds-lay_rest-end-then-is_told c =
    let wide = words_wide c.requires.0 (c.next-2-1.given.1 ∙ c.next-1.given.1 ∙ c.requires.1) in
    sym (length-take-le c.args.words _ wide)

pub slice_bounds-lay_rest-end-then-is_told-2 : goal.slice_bounds-lay_rest-end-then-is_told-2
slice_bounds-lay_rest-end-then-is_told-2 c = front_fits c.requires.0

pub slice_bounds-lay_rest-end-then-is_told-3 : goal.slice_bounds-lay_rest-end-then-is_told-3
slice_bounds-lay_rest-end-then-is_told-3 c = sym (length-take-le c.args.words c.args.state.now (front_fits c.requires.0))

pub lay_rest-requires : goal.lay_rest-requires
lay_rest-requires c =
    let lent = c.requires.0 in
    (lent.ors_are, or_states_fit lent (length-take-le c.args.words c.args.state.now (front_fits lent)))

pub slice_bounds-store-end : goal.slice_bounds-store-end
slice_bounds-store-end c =
    let pre = c.requires in
    vars_wide c.args.t.rules (c.vars-2-1.given.1 ∙ c.vars-1.given.1 ∙ pre.2) c.head-v.ensures.is

pub slice_bounds-store-end-then-is_told : goal.slice_bounds-store-end-then-is_told
slice_bounds-store-end-then-is_told c =
    let pre = c.requires in
    let wide = vars_wide c.args.t.rules (c.vars-2-1.given.1 ∙ c.vars-1.given.1 ∙ pre.2) c.head-v.ensures.is in
    sym (length-take-le c.head-v.result _ wide)

pub store-requires : goal.store-requires
store-requires c =
    let pre = c.requires in
    let is = c.head-v.ensures.is in
    let wide = vars_wide c.args.t.rules (c.vars-2-1.given.1 ∙ c.vars-1.given.1 ∙ pre.2) is in
    behind_fits pre.0 is (length-take-le c.head-v.result _ wide) c.state-1.given.1

pub shape_of-state-then-is_told : goal.shape_of-state-then-is_told
shape_of-state-then-is_told c = c.state-then-is_told-1.given ∙ c.state-1.given.1

pub shape_of-next-then-is_told : goal.shape_of-next-then-is_told
shape_of-next-then-is_told c = c.next-2-1.given.1 ∙ c.next-1.given.1

pub shape_of-vars-then-is_told : goal.shape_of-vars-then-is_told
shape_of-vars-then-is_told c = c.vars-2-1.given.1 ∙ c.vars-1.given.1

pub shape_of-outs-then-is_told : goal.shape_of-outs-then-is_told
shape_of-outs-then-is_told c = c.outs-1.given

pub shape_of-queue-then-is_told : goal.shape_of-queue-then-is_told
shape_of-queue-then-is_told c = c.queue-1.given

pub returns-then-is_told : goal.returns-then-is_told
returns-then-is_told c =
    let pre = c.requires in
    let s = c.args in
    let v = c.head-v in
    let n = c.go-n in
    let wide = words_wide pre.0 pre.1 in
    let wide-vars = vars_wide c.args.t.rules pre.2 v.ensures.is in
    told_tried (view s.t.table.words.now) s.pairs s.event.0 s.words v.result s.state.now s.outs.now s.queue.now
    pre.0.number (words_behind pre.0 v.ensures.is) s.next.now s.vars.now _ _ wide wide-vars
    c.load.ensures c.load-2.ensures _ n.result _ _ _ _ c.new.ensures n.ensures
    (ap (told? n.result) (sym c.outs-1.given) ∙ sym c.is_told.ensures ∙ c.if-is_told.true)
    (c.next-2-1.given.0
    ∙ length-take-le s.words _ (words_wide pre.0 (c.next-1.given.1 ∙ pre.1)))
    (c.vars-2-1.given.0
    ∙ length-take-le v.result _ (vars_wide c.args.t.rules (c.vars-1.given.1 ∙ pre.2) v.ensures.is))
    _ _ _ _ c.lay_rest.ensures
    (c.state-1.given.0 ∙ length-take-le s.words s.state.now (front_fits pre.0))
    c.store.ensures

-- ---- it is not told
pub shape_of-next-else-is_told : goal.shape_of-next-else-is_told
shape_of-next-else-is_told c = c.next-2-1.given.1 ∙ c.next-1.given.1

pub shape_of-vars-else-is_told : goal.shape_of-vars-else-is_told
shape_of-vars-else-is_told c = c.vars-2-1.given.1 ∙ c.vars-1.given.1

pub returns-else-is_told : goal.returns-else-is_told
returns-else-is_told c =
    let pre = c.requires in
    let s = c.args in
    let v = c.head-v in
    let n = c.go-n in
    let wide = words_wide pre.0 pre.1 in
    let wide-vars = vars_wide c.args.t.rules pre.2 v.ensures.is in
    untold_tried (view s.t.table.words.now) s.pairs s.event.0 s.words v.result s.state.now s.outs.now s.queue.now
    pre.0.number (words_behind pre.0 v.ensures.is) s.next.now s.vars.now _ _ wide wide-vars
    c.load.ensures c.load-2.ensures _ n.result _ _ _ _ c.new.ensures n.ensures
    (ap (told? n.result) (sym c.outs-1.given) ∙ sym c.is_told.ensures ∙ c.if-is_told.false)
