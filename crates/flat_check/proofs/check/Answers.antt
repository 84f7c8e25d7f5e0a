-- `flat_check::check` meets its contract: the rules passed are kept, so the answer is that of those left. Assumes nothing.
use Prim.Native.Nat.{ℕ, zero, suc, ◌+◌, ◌<◌, ◌≤◌}
use mathlib.Core.Path.{◌≡◌, refl, sym, ap, ap₂, ◌∙◌}
use mathlib.Core.List.{List}
use native.Mathlib.Nat.{not-suc-le-zero}
use native.Mathlib.Omega.{arith}
use lib.ListN.{drop}
use Rattle.table.specs.Check.{rule_numbered, lowest_bad, answer}
use Rattle.table.proofs.Check.{broken_here, kept_here, kept_next}
use Rattle.flat_check.specs.Answer.{flat_rules, flat_answer}
use Rattle.flat_check.proofs.check.Goals as goal

-- the first three rules are of the table as a whole
one_place : (t : List ℕ) (k : ℕ) → k < 3 → (rule_numbered (flat_rules t) k).places ≡ 1
one_place t zero h = refl
one_place t (suc zero) h = refl
one_place t (suc (suc zero)) h = refl
one_place t (suc (suc (suc k))) h = absurd (omega arith)

pub loop-k-init : goal.loop-k-init
unfolding flat_answer
loop-k-init c = (refl, λ j h. absurd (not-suc-le-zero h))

pub flat_refusal-requires : goal.flat_refusal-requires
flat_refusal-requires c =
    let k = c.loop-k.k in
    let bad = rw c.in-Some.is at c.lowest_bad.ensures.is in
    let small = rw c.in-Some.is at c.lowest_bad.ensures.small in
    (omega arith, omega (arith, c.loop-k-test.true), omega (arith, small), λ h. omega (arith, bad.1, one_place c.args.t.now k (omega arith)))

pub returns-in-Some : goal.returns-in-Some
returns-in-Some c =
    let t = c.args.t.now in
    let l = c.loop-k in
    let bad = rw c.in-Some.is at c.lowest_bad.ensures.is in
    let order : l.k + 11 ≡ 11 + l.k = omega arith in
    c.flat_refusal.ensures ∙ ap₂ (λ (x y : ℕ). (x, y)) order bad.0
    ∙ sym (l.invariant.0 ∙ broken_here 11 (flat_rules t) l.k c.loop-k-test.true (omega (arith, bad.0, bad.1)))

pub loop-k-preserved : goal.loop-k-preserved
loop-k-preserved c =
    let t = c.args.t.now in
    let l = c.loop-k in
    let none : (rule_numbered (flat_rules t) l.k).places ≤ lowest_bad (rule_numbered (flat_rules t) l.k) = rw c.in_default.is at c.lowest_bad.ensures.is in
    (l.invariant.0 ∙ kept_here 11 (flat_rules t) l.k c.loop-k-test.true none, kept_next (flat_rules t) l.k l.invariant.1 none)

pub returns : goal.returns
unfolding answer
returns c =
    let l = c.loop-k in
    let t = c.args.t.now in
    let e : l.k ≡ 8 = omega arith in
    sym (l.invariant.0 ∙ ap (λ (k : ℕ). answer (11 + k) (drop k (flat_rules t))) e)
