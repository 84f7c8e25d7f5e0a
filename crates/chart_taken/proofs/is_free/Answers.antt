-- `chart_taken::is_free` meets its contract: each transition passed is not taken, or not related. Assumes nothing.
use Prim.Native.Nat.{ℕ}
use mathlib.Core.Path.{◌≡◌, refl, sym, ap, ◌∙◌}
use mathlib.Core.Bool.{Bool, true, false}
use mathlib.Core.List.{List}
use lib.ListN.{get_or}
use Rattle.words.specs.Loops.{all_below}
use Rattle.words.specs.Next.{Next}
use Rattle.words.proofs.Loops.{all_below_all, all_below_next, all_below_no}
use Rattle.words.proofs.Skip.{all_skip}
use Rattle.chart.specs.View.{Chart, view}
use Rattle.states.specs.Cells.{cells}
use Rattle.chart_taken.proofs.Scope.{unscoped, near}
use Rattle.chart_taken.proofs.is_free.Invariants.{Passed, lets?, lets}
use Rattle.chart_taken.proofs.is_free.Goals as goal

-- what is not taken lets k be taken
pass : (c : Chart) (taken : List Bool) (k j s : ℕ) → all_below (lets? c taken k) j ≡ true → Next (λ i. get_or taken i false) j k s
    → Passed c taken k s
pass c taken k j s e next = record {
  up_to = next.up_to;
  let_be = all_skip (lets? c taken k) j s next.from (λ i l h. rw (next.skipped i l h) refl) ∙ e;
  member = next.member;
}

-- all of them
all_passed : (c : Chart) (taken : List Bool) (k s : ℕ) → s ≡ k → Passed c taken k s → true ≡ all_below (lets? c taken k) k
all_passed c taken k s e p = sym (ap (all_below (lets? c taken k)) (sym e) ∙ p.let_be)

pub returns-then-s-k : goal.returns-then-s-k
returns-then-s-k c =
    let a = c.args in
    let v = view a.t.table.words.now in
    let next = c.next-s in
    all_passed v (cells a.taken) a.k next.result c.if-s-k.true (pass v (cells a.taken) a.k 0 next.result refl next.ensures)

pub returns-then-not-is_scoped_at : goal.returns-then-not-is_scoped_at
returns-then-not-is_scoped_at c =
    let a = c.args in
    let none = sym c.is_scoped_at.ensures ∙ c.if-not-is_scoped_at.true in
    let each : (s : ℕ) → lets? (view a.t.table.words.now) (cells a.taken) a.k s ≡ true = λ s.
    rw (unscoped (view a.t.table.words.now) s a.k none) (lets (get_or (cells a.taken) s false)) in
    sym (all_below_all a.k (λ s h. each s))

pub loop-s-init : goal.loop-s-init
loop-s-init c =
    let a = c.args in
    pass (view a.t.table.words.now) (cells a.taken) a.k 0 _ refl c.next-s.ensures

pub returns-then-is_related : goal.returns-then-is_related
returns-then-is_related c =
    let a = c.args in
    let v = view a.t.table.words.now in
    let l = c.loop-s in
    let below = c.loop-s-test.true in
    let has = c.is_scoped_at in
    let scoped = sym has.ensures ∙ c.if-not-is_scoped_at.false in
    let top = c.scope_at-top in
    let told = near v l.s a.k top.result _ scoped top.ensures.is c.is_related.ensures in
    let p = lets? v (cells a.taken) a.k in
    sym (all_below_no p a.k l.s below (rw (l.invariant.member below, sym told ∙ c.if-is_related.true)))

pub loop-s-preserved : goal.loop-s-preserved
loop-s-preserved c =
    let a = c.args in
    let v = view a.t.table.words.now in
    let l = c.loop-s in
    let p = lets? v (cells a.taken) a.k in
    let has = c.is_scoped_at in
    let scoped = sym has.ensures ∙ c.if-not-is_scoped_at.false in
    let top = c.scope_at-top in
    let told = near v l.s a.k top.result _ scoped top.ensures.is c.is_related.ensures in
    let this : p l.s ≡ true = rw (sym told ∙ c.if-is_related.false) (lets (get_or (cells a.taken) l.s false)) in
    pass v (cells a.taken) a.k _ _ (all_below_next p l.s l.invariant.let_be this) c.next-s-in-loop-s.ensures
