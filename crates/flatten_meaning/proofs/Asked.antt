-- Which and-states have a guard of their own: those that a transition asks for or leaves, and all above them. Assumes
-- nothing.
use Prim.Native.Nat.{ℕ, ◌+◌, ◌<◌}
use mathlib.Core.Path.{◌≡◌, sym, subst}
use mathlib.Core.Logic.{◌≢◌}
use mathlib.Core.Bool.{Bool, true, ◌&&◌}
use mathlib.Core.List.{List, Memᴰ}
use native.Mathlib.Omega.{arith}
use lib.Dec.{eqb}
use Rattle.words.specs.Loops.{any, any_below}
use Rattle.words.proofs.Tests.{eqb_self, and_l, and_r, and_i, or_l, or_r}
use Rattle.words.proofs.Lists.{mem_many, some_any}
use Rattle.chart.specs.View.{Chart, view, is_and}
use Rattle.chart.specs.Tree.{within}
use Rattle.chart.specs.Literals.{literal_of, literal_in}
use Rattle.chart.specs.declared.Literal.{Literal}
use Rattle.chart.proofs.Within.{within_self}
use Rattle.chart_rules.specs.Rules.{GoodLiteral, LiteralKept, ChartRules}
use Rattle.chart_meaning.specs.Taken.{literals_of}
use Rattle.chart_meaning.proofs.Tree.{Tree, not_root, grand_and}
use Rattle.flatten_meaning.specs.Flattened.{grand, quits, mentions, wants, asked}
use Rattle.flatten_meaning.proofs.Laws.{any_below_in, any_below_some}
use Rattle.flatten_meaning.proofs.Together.{within_grand}

module _ (c : Chart) where
  -- some transition wants state k
  abbrev wanted : ℕ → Bool
  wanted k = any_below (λ t. wants c t k) c.transitions

  pub asked_and : (j : ℕ) → asked c j ≡ true → is_and c j ≡ true
  unfolding asked
  asked_and j q = and_l (is_and c j) _ q

  asked_by : (t k : ℕ) → t < c.transitions → k < c.states → is_and c k ≡ true → wants c t k ≡ true → asked c k ≡ true
  unfolding asked
  asked_by t k l h a q =
      let here = and_i (within_self c k h) (any_below_in (λ t. wants c t k) c.transitions t l q) in
      and_i a (any_below_in (λ i. within c k i && wanted i) c.states k h here)

  pub asked_quit : (t j : ℕ) → t < c.transitions → j < c.states → quits c t j ≡ true → asked c j ≡ true
  unfolding wants quits
  asked_quit t j h l q =
      asked_by t j h l (and_l (is_and c j) _ q)
      (or_r (eqb (c.source t) j) _ (or_r (any (mentions c j) (literals_of c t)) _ q))

  pub asked_named : (t a : ℕ) (l : Literal) → t < c.transitions → Memᴰ l (literals_of c t) → mentions c a l ≡ true
      → a < c.states → is_and c a ≡ true → asked c a ≡ true
  unfolding wants
  asked_named t a l h m q k b =
      asked_by t a h k b
      (or_r (eqb (c.source t) a) _ (or_l (any (mentions c a) (literals_of c t)) _ (some_any (mentions c a) m q)))

module _ {c : Chart} (w : Tree c) where
  pub asked_grand : (j : ℕ) → j < c.states → asked c j ≡ true → c.parent j ≢ 0 → asked c (grand c j) ≡ true
  unfolding asked
  asked_grand j h q z =
      let a = and_l (is_and c j) _ q in
      let i = any_below_some (λ k. within c j k && wanted c k) c.states (and_r (is_and c j) _ q) in
      let k = i.0 in
      let up = within_grand w j k h (not_root w j a) z i.1 (and_l (within c j k) (wanted c k) i.2) in
      and_i (grand_and w j h a z)
      (any_below_in (λ k. within c (grand c j) k && wanted c k) c.states k i.1
      (and_i up (and_r (within c j k) (wanted c k) i.2)))

  pub asked_source : (t : ℕ) → t < c.transitions → asked c (c.source t) ≡ true
  unfolding wants
  asked_source t h =
      asked_by c t (c.source t) h (w.source_in t h) (w.source_and t h)
      (or_l (eqb (c.source t) (c.source t)) _ (eqb_self (c.source t)))

-- ---- the literals that transitions ask keep rule 6
abbrev pub LiteralsKept : Chart → Type 0
LiteralsKept c = (t : ℕ) → t < c.transitions → (i : ℕ) → i < (c.asks t).count → LiteralKept c ((c.asks t).first + i)

pub literals_kept : {t : List ℕ} → ChartRules t → LiteralsKept (view t)
literals_kept r k h i l = r.literals _ (omega (arith, l, (r.transition_spans k h).literals))

-- what holds of every literal that keeps rule 6 holds of those that t asks
pub by_literal : {c : Chart} → LiteralsKept c → (P : Literal → Type 0)
    → ((kind a b : ℕ) → GoodLiteral c kind a b → P (literal_of kind a b))
    → (t : ℕ) → t < c.transitions → (l : Literal) → Memᴰ l (literals_of c t) → P l
unfolding literals_of
by_literal {c} fit P each t h l m =
    let i = mem_many (λ i. literal_in (c.literal i)) (c.asks t).first (c.asks t).count m in
    subst P (sym i.2) (each _ _ _ (fit t h i.0 i.1))
