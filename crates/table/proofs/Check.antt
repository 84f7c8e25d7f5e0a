-- The answer to a list of rules is the lowest one that is broken, at its lowest place. Assumes nothing.
use Prim.Native.Nat.{ℕ, zero, suc, ◌+◌, ◌<◌, ◌≤◌}
use mathlib.Core.Path.{◌≡◌, refl, ap, ◌∙◌, subst}
use mathlib.Core.Bool.{Bool, true, false, cond}
use mathlib.Core.List.{List, [], ◌∷◌}
use native.Mathlib.Nat.{not-suc-le-zero}
use native.Mathlib.Omega.{arith}
use native.Mathlib.Numerals.{add-one}
use lib.Dec.{ltb}
use lib.ListN.{length, drop}
use lib.Seq.{drop-cons}
use Rattle.std.specs.Prelude.{Option, None, Some, MatchOption, IfSome}
use Rattle.words.proofs.Tests.{by_bool, ltb_lt, ltb_yes, ltb_ge, ltb_no, clash, last_or}
use Rattle.words.proofs.Loops.{Lowest, lowest}
use Rattle.table.specs.Check.{Rule, no_rule, rule_numbered, lowest_bad, IsLowestBad, answer, Kept, KeptBefore, Judged, all_kept, lowest_broken}

-- ---- for the search of a rule's places
found : (r : Rule) (i : ℕ) → i < r.places → r.keeps i ≡ false → ((k : ℕ) → k < i → r.keeps k ≡ true) → i ≡ lowest_bad r
found r i h bad before =
    let low = lowest r.keeps r.places 0 in
    by_bool (ltb (lowest_bad r) i)
    (λ e.
    let l = ltb_lt (lowest_bad r) i e in
    clash (r.keeps (lowest_bad r)) (before (lowest_bad r) l) (low.fails (omega (arith, l))))
    (λ e.
    let l = ltb_ge (lowest_bad r) i e in
    by_bool (ltb i (lowest_bad r))
    (λ d. clash (r.keeps i) (low.before i (omega arith) (ltb_lt i (lowest_bad r) d)) bad)
    (λ d. let g = ltb_ge i (lowest_bad r) d in omega (arith, l, g)))

none_found : (r : Rule) → ((k : ℕ) → k < r.places → r.keeps k ≡ true) → r.places ≤ lowest_bad r
none_found r kept =
    by_bool (ltb (lowest_bad r) r.places)
    (λ e.
    let l = ltb_lt (lowest_bad r) r.places e in
    clash (r.keeps (lowest_bad r)) (kept (lowest_bad r) l) ((lowest r.keeps r.places 0).fails (omega (arith, l))))
    (λ e. ltb_ge (lowest_bad r) r.places e)

-- what `find` over the places says
pub lowest_found : (r : Rule) (n : ℕ) → n ≡ r.places → (p : Option ℕ)
    → MatchOption p ((k : ℕ) → 0 ≤ k → k < n → r.keeps k ≡ true)
    (λ i. (0 ≤ i) × (i < n) × (r.keeps i ≡ false) × ((k : ℕ) → 0 ≤ k → k < i → r.keeps k ≡ true))
    → IsLowestBad r p
lowest_found r n e None h = none_found r (λ k l. h k (omega arith) (omega (arith, e, l)))
lowest_found r n e (Some i) h =
    let l : i < r.places = omega (arith, e, h.1) in
    (found r i l h.2 (λ k g. h.3 k (omega arith) g), l)

-- a place that is found is one of the rule's places
pub found_few : (r : Rule) (p : Option ℕ) → IsLowestBad r p → (n : ℕ) → r.places < n → IfSome p (λ i. i < n)
found_few r None h n l = tt
found_few r (Some i) h n l = omega (arith, h.1, l)

-- ---- for the loop that goes through the rules
module _ (first : ℕ) (rs : List Rule) (k : ℕ) where
  here : k < length rs → drop k rs ≡ rule_numbered rs k ∷ drop (k + 1) rs
  here h = rw (add-one, drop-cons rs k no_rule)

  pub broken_here : k < length rs → lowest_bad (rule_numbered rs k) < (rule_numbered rs k).places → answer (first + k) (drop k rs) ≡ (first + k, lowest_bad (rule_numbered rs k))
  unfolding answer
  broken_here h l = rw (here h, answer, ltb_yes (lowest_bad (rule_numbered rs k)) (rule_numbered rs k).places l)

  pub kept_here : k < length rs → (rule_numbered rs k).places ≤ lowest_bad (rule_numbered rs k) → answer (first + k) (drop k rs) ≡ answer (first + (k + 1)) (drop (k + 1) rs)
  unfolding answer
  kept_here h l =
      let e : first + k + 1 ≡ first + (k + 1) = omega arith in
      ap (answer (first + k)) (here h)
      ∙ rw (ltb_no (lowest_bad (rule_numbered rs k)) (rule_numbered rs k).places l) (ap (λ (n : ℕ). answer n (drop (k + 1) rs)) e)

-- ---- what the answer says
kept : (r : Rule) → r.places ≤ lowest_bad r → Kept r
kept r h i l = (lowest r.keeps r.places 0).before i (omega arith) (omega arith)

-- the rules before the next one, once rule k has no bad place
pub kept_next : (rs : List Rule) (k : ℕ) → KeptBefore rs k → (rule_numbered rs k).places ≤ lowest_bad (rule_numbered rs k) → KeptBefore rs (k + 1)
kept_next rs k h l j g = last_or j k (omega arith) (h j) (λ e. rw e (kept (rule_numbered rs k) l))

more : (r : Rule) (rs : List Rule) (first : ℕ) (a : ℕ × ℕ) → Kept r → Judged (first + 1) rs a → Judged first (r ∷ rs) a
more r rs first _ h (all_kept g) = all_kept λ k l. go k l
  where
    go : (k : ℕ) → k < length (r ∷ rs) → Kept (rule_numbered (r ∷ rs) k)
    go zero l = h
    go (suc k) l = g k (omega arith)
more r rs first _ h (lowest_broken {k} {p} b) =
    subst (λ (n : ℕ). Judged first (r ∷ rs) (n, p)) (let e : first + suc k ≡ first + 1 + k = omega arith in e)
    (lowest_broken (record {
      a_rule = omega (arith, b.a_rule);
      a_place = b.a_place;
      broken = b.broken;
      places_before = b.places_before;
      rules_before = before;
    }))
  where
    before : (j : ℕ) → j < suc k → Kept (rule_numbered (r ∷ rs) j)
    before zero l = h
    before (suc j) l = b.rules_before j (omega arith)

pub judged : (rs : List Rule) (first : ℕ) → Judged first rs (answer first rs)
unfolding answer
judged [] first = all_kept (λ k h. absurd (not-suc-le-zero h))
judged (r ∷ rs) first = go (ltb (lowest_bad r) r.places) refl (judged rs (first + 1))
  where
    low : Lowest r.keeps 0 r.places (lowest_bad r)
    low = lowest r.keeps r.places 0

    go : (b : Bool) → ltb (lowest_bad r) r.places ≡ b → Judged (first + 1) rs (answer (first + 1) rs) → Judged first (r ∷ rs) (cond b (first, lowest_bad r) (answer (first + 1) rs))
    go true e ih =
        let l = ltb_lt (lowest_bad r) r.places e in
        subst (λ (n : ℕ). Judged first (r ∷ rs) (n, lowest_bad r)) (let z : first + 0 ≡ first = omega arith in z)
        (lowest_broken (record {
          a_rule = omega arith;
          a_place = l;
          broken = low.fails (omega arith);
          places_before = λ i h. low.before i (omega arith) h;
          rules_before = λ j h. absurd (not-suc-le-zero h);
        }))
    go false e ih = more r rs first _ (kept r (ltb_ge (lowest_bad r) r.places e)) ih

-- it is 0 just where every rule is kept
module _ (first : ℕ) (rs : List Rule) (some : 0 < first) where
  accepts : (a : ℕ × ℕ) → Judged first rs a → a ≡ (0, 0) → (k : ℕ) → k < length rs → Kept (rule_numbered rs k)
  accepts _ (all_kept h) e = h
  accepts _ (lowest_broken {k} {p} b) e = absurd (omega (arith, ap (λ (x : ℕ × ℕ). x.0) e))

  pub accepted : answer first rs ≡ (0, 0) → (k : ℕ) → k < length rs → Kept (rule_numbered rs k)
  accepted = accepts (answer first rs) (judged rs first)

  refuses : (a : ℕ × ℕ) → Judged first rs a → ((k : ℕ) → k < length rs → Kept (rule_numbered rs k)) → a ≡ (0, 0)
  refuses _ (all_kept h) g = refl
  refuses _ (lowest_broken {k} {p} b) g = clash ((rule_numbered rs k).keeps p) (g k b.a_rule p b.a_place) b.broken

  pub accepting : ((k : ℕ) → k < length rs → Kept (rule_numbered rs k)) → answer first rs ≡ (0, 0)
  accepting = refuses (answer first rs) (judged rs first)

-- ---- every rule of a list is kept
pub data AllKept : List Rule → Type 0 where
  none : AllKept []
  also : {r : Rule} {rs : List Rule} → Kept r → AllKept rs → AllKept (r ∷ rs)

pub each : {rs : List Rule} → AllKept rs → (k : ℕ) → k < length rs → Kept (rule_numbered rs k)
each none k l = absurd (not-suc-le-zero l)
each (also h hs) zero l = h
each (also h hs) (suc k) l = each hs k (omega arith)
