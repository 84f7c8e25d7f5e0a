-- A table keeps the rules in one way at most, so a value may carry that it does. Assumes nothing.
use Rattle.std.specs.Prelude.{ℕ, ◌+◌, ◌<◌, ◌≤◌, ◌≡◌, ◌≢◌, ◌⊎◌, List}
use mathlib.Core.Path.{refl, sym, ap, ap₂, path_j}
use mathlib.Core.Logic.{inl, inr}
use native.Mathlib.Nat.{ℕ_set}
use native.Mathlib.Bridge.{le_prop}
use native.Mathlib.Omega.{arith}
use denote.Struct.Props.{props}
use Rattle.table.specs.Alike.{item-prop}
use Rattle.chart.specs.View.{Chart, view, IsAnd, IsOr}
use Rattle.chart.specs.Tree.{Above, parent_of, above_parent, Nearest, Apart}
use Rattle.chart.proofs.Tree.{above_lt}
use Rattle.chart_head.specs.Rules.{GoodCounts}
use Rattle.chart_rules.specs.Rules.{GoodPlace, root, GoodLiteral, active, not_active, at_least, less}
use Rattle.chart_rules.specs.Rules.{GoodBody, GoodTargets, aim, ChartRules}

differ-prop : (x y : ℕ) → IsProp (x ≢ y)
differ-prop x y = hlevel props

none-prop : (A : Type 0) → IsProp (A → ⊥)
none-prop A = hlevel props

body-prop : (c : Chart) (k : ℕ) → IsProp (GoodBody c k)
body-prop c k (GoodBody.or_state a x y z u) (GoodBody.or_state b x' y' z' u') =
    rw (differ-prop _ _ a b, le_prop x x', ℕ_set _ _ y y', ℕ_set _ _ z z', ℕ_set _ _ u u')
body-prop c k (GoodBody.or_state a x y z u) (GoodBody.and_state b v) = absurd (a b)
body-prop c k (GoodBody.and_state b v) (GoodBody.or_state a x y z u) = absurd (a b)
body-prop c k (GoodBody.and_state a x) (GoodBody.and_state b y) = ap₂ GoodBody.and_state (ℕ_set _ _ a b) (ℕ_set _ _ x y)

place-prop : (c : Chart) (k : ℕ) → IsProp (GoodPlace c k)
place-prop c _ (root a x) (root b y) = ap₂ root (ℕ_set _ _ a b) (ℕ_set _ _ x y)
place-prop c _ (root a x) (GoodPlace.or_state n l p q) = absurd (n refl)
place-prop c _ (root a x) (GoodPlace.and_state n l p q) = absurd (n refl)
place-prop c _ (GoodPlace.or_state n l p q) (root a x) = absurd (n refl)
place-prop c _ (GoodPlace.and_state n l p q) (root a x) = absurd (n refl)
place-prop c _ (GoodPlace.or_state n l p q) (GoodPlace.or_state n' l' p' q') =
    rw (differ-prop _ _ n n', le_prop l l', le_prop p p', ℕ_set _ _ q q')
place-prop c _ (GoodPlace.or_state n l p q) (GoodPlace.and_state n' l' p' q') = absurd (omega (arith, l, l'))
place-prop c _ (GoodPlace.and_state n l p q) (GoodPlace.or_state n' l' p' q') = absurd (omega (arith, l, l'))
place-prop c _ (GoodPlace.and_state n l p q) (GoodPlace.and_state n' l' p' q') =
    rw (differ-prop _ _ n n', ℕ_set _ _ l l', le_prop p p', differ-prop _ _ q q')

literal-prop : (c : Chart) (kind a b : ℕ) → IsProp (GoodLiteral c kind a b)
literal-prop c _ _ _ (active x u) (active y v) = ap₂ active (le_prop x y) (ℕ_set _ _ u v)
literal-prop c _ _ _ (not_active x u) (not_active y v) = ap₂ not_active (le_prop x y) (ℕ_set _ _ u v)
literal-prop c _ _ _ (at_least x) (at_least y) = ap at_least (le_prop x y)
literal-prop c _ _ _ (less x) (less y) = ap less (le_prop x y)

module _ (c : Chart) (some : 0 < c.states) (grows : (j : ℕ) → j < c.states → j ≢ 0 → c.parent j < j) where
  lower : (a j : ℕ) → j < c.states → Above c a j → a < j
  lower = above_lt c some grows

  above-prop : (a j : ℕ) → j < c.states → IsProp (Above c a j)
  above-prop a j h (parent_of z e) (parent_of w f) = ap₂ parent_of (differ-prop _ _ z w) (ℕ_set _ _ e f)
  above-prop a j h (parent_of z e) (above_parent w p) =
      let l = grows j h z in absurd (omega (arith, e, lower a (c.parent j) (omega arith) p))
  above-prop a j h (above_parent w p) (parent_of z e) =
      let l = grows j h z in absurd (omega (arith, e, lower a (c.parent j) (omega arith) p))
  above-prop a j h (above_parent z p) (above_parent w q) =
      let l = grows j h z in ap₂ above_parent (differ-prop _ _ z w) (above-prop a (c.parent j) (omega arith) p q)

  module _ (a b : ℕ) (a_in : a < c.states) (b_in : b < c.states) where
    or-prop : (k m : ℕ) → m < c.states → IsProp ((k ≡ m) ⊎ Above c k m)
    or-prop k m h (inl x) (inl y) = ap inl (ℕ_set _ _ x y)
    or-prop k m h (inl x) (inr y) = absurd (omega (arith, lower k m h y))
    or-prop k m h (inr x) (inl y) = absurd (omega (arith, lower k m h x))
    or-prop k m h (inr x) (inr y) = ap inr (above-prop k m h x y)

    -- what is asked of the state where two targets meet
    abbrev Rest : ℕ → Type 0
    Rest m = Nearest c m a b × IsAnd c m

    meeting_in : (m : ℕ) → Nearest c m a b → m < c.states
    meeting_in m p = omega (arith, lower m a a_in p.above_first)

    nearest-prop : (m : ℕ) → m < c.states → IsProp (Nearest c m a b)
    nearest-prop m h =
        let first = above-prop m a a_in in
        let second = above-prop m b b_in in
        let all = λ (k : ℕ). or-prop k m h in
        hlevel (first, second, all, props)

    rest-prop : (m : ℕ) → IsProp (Rest m)
    rest-prop m p q = ap₂ (λ (x : Nearest c m a b) (y : IsAnd c m). (x, y)) (nearest-prop m (meeting_in m p.0) p.0 q.0) (ℕ_set _ _ p.1 q.1)

    same_meeting : (m n : ℕ) → Nearest c m a b → Nearest c n a b → m ≡ n
    same_meeting m n p q = either (p.nearest n q.above_first q.above_second) (q.nearest m p.above_first p.above_second)
      where
        either : ((n ≡ m) ⊎ Above c n m) → ((m ≡ n) ⊎ Above c m n) → m ≡ n
        either (inl e) _ = sym e
        either (inr x) (inl e) = e
        either (inr x) (inr y) = absurd (omega (arith, lower n m (meeting_in m p) x, lower m n (meeting_in n q) y))

    abbrev made : a ≢ b → (Above c a b → ⊥) → (Above c b a → ⊥) → (m : ℕ) → Rest m → Apart c a b
    made d f s m r = record { distinct = d; first_not_above = f; second_not_above = s; meeting = m; meets = r.0; in_an_and_state = r.1 }

    made_alike : (d d' : a ≢ b) (f f' : Above c a b → ⊥) (s s' : Above c b a → ⊥) (m n : ℕ) (e : m ≡ n) (p : Rest m) (q : Rest n)
        → made d f s m p ≡ made d' f' s' n q
    made_alike d d' f f' s s' m n e p =
        path_j (λ (n : ℕ) _. (q : Rest n) → made d f s m p ≡ made d' f' s' n q)
        (λ q. rw (differ-prop a b d d', none-prop (Above c a b) f f', none-prop (Above c b a) s s', rest-prop m p q)) e

    apart-prop : IsProp (Apart c a b)
    apart-prop x y =
        made_alike x.distinct y.distinct x.first_not_above y.first_not_above x.second_not_above y.second_not_above x.meeting y.meeting
        (same_meeting x.meeting y.meeting x.meets y.meets) (x.meets, x.in_an_and_state) (y.meets, y.in_an_and_state)

targets-prop : (c : Chart) (some : 0 < c.states) (grows : (j : ℕ) → j < c.states → j ≢ 0 → c.parent j < j) (k : ℕ) → IsProp (GoodTargets c k)
targets-prop c some grows k x y =
    let two = λ (i j : ℕ) (l : j < i) (h : i < (c.aims k).count).
    apart-prop c some grows (aim c k j) (aim c k i) (x.target_in j (omega arith)) (x.target_in i h) in
    let all : IsProp (GoodTargets c k) = hlevel (two, props) in all x y

-- a parent that keeps rule 4 has a smaller number
parent-lower : (c : Chart) (j : ℕ) → GoodPlace c j → j ≢ 0 → c.parent j < j
parent-lower c _ (root a x) z = absurd (z refl)
parent-lower c _ (GoodPlace.or_state n l p q) z = p
parent-lower c _ (GoodPlace.and_state n l p q) z = p

pub chart_rules-prop : (t : List ℕ) → IsProp (ChartRules t)
chart_rules-prop t x y =
    let c = view t in
    let some : 0 < c.states = omega (arith, x.counts.states.0) in
    let targets = targets-prop c some (λ j h z. parent-lower c j (x.places j h) z) in
    let all : IsProp (ChartRules t) = hlevel (item-prop, body-prop, place-prop, literal-prop, targets, props) in all x y
