-- Guards laid into a section, one behind the other. Assumes nothing.
use Prim.Native.Nat.{ℕ, ◌+◌, ◌*◌, ◌-◌, ◌/◌}
use mathlib.Core.Path.{◌≡◌, refl, sym, ap, ap₂, ◌∙◌}
use mathlib.Core.Bool.{Bool, true, false}
use mathlib.Core.List.{List, [], ◌∷◌, ◌++◌, append-nil}
use native.Mathlib.Nat.{add-zero}
use native.Mathlib.Numerals.{add-one}
use native.Mathlib.Omega.{arith}
use lib.ListN.{length, length-append}
use Rattle.words.specs.Loops.{joined, join_up}
use Rattle.words.proofs.Lists.{joined_append}
use Rattle.table.specs.Span.{Span}
use Rattle.flat.specs.declared.FlatLiteral.{FlatLiteral}
use Rattle.flatten_meaning.specs.Encoded.{literal_row, span_row, spans_from}
use Rattle.flatten_meaning.proofs.Rows.{rows_length}
use Rattle.flatten_laying.specs.Lay.{lay}
use Rattle.flatten_laying.proofs.Lay.{lay_append}
use Rattle.flatten_literals.specs.Told.{Told}
use Rattle.flatten_guards.specs.declared.Pen.{Pen}
use Rattle.flatten_guards.specs.Parts.{literals_in, part, moved}
use Rattle.flatten_guards.specs.Penned.{Penned, stepped}

-- ---- the words of guards, and of others behind them
literals_append : (gs hs : List (List FlatLiteral)) → literals_in (gs ++ hs) ≡ literals_in gs ++ literals_in hs
literals_append gs hs = joined_append (λ (l : List FlatLiteral). l) gs hs

spans_append : (i : ℕ) (gs hs : List (List FlatLiteral))
    → spans_from i (gs ++ hs) ≡ spans_from i gs ++ spans_from (i + length (literals_in gs)) hs
unfolding spans_from
spans_append i [] hs = ap (λ (n : ℕ). spans_from n hs) (sym (add-zero i))
spans_append i (g ∷ gs) hs =
    let rest = literals_in gs in
    let e : i + length g + length rest ≡ i + length (g ++ rest) = omega (arith, length-append g rest) in
    let here : Span = record { first = i; count = length g } in
    ap (λ (l : List Span). here ∷ l)
    (spans_append (i + length g) gs hs ∙ ap (λ (n : ℕ). spans_from (i + length g) gs ++ spans_from n hs) e)

part_append : (spans : Bool) (first : ℕ) (gs hs : List (List FlatLiteral))
    → part spans first (gs ++ hs) ≡ part spans first gs ++ part spans (first + length (literals_in gs)) hs
unfolding part
part_append true first gs hs =
    ap (joined span_row) (spans_append first gs hs)
    ∙ joined_append span_row (spans_from first gs) (spans_from (first + length (literals_in gs)) hs)
part_append false first gs hs =
    ap (joined literal_row) (literals_append gs hs) ∙ joined_append literal_row (literals_in gs) (literals_in hs)

moved_append : (spans : Bool) (gs hs : List (List FlatLiteral)) (p : Pen)
    → moved spans hs (moved spans gs p) ≡ moved spans (gs ++ hs) p
moved_append spans gs hs p =
    let a = part spans p.first gs in
    let next = p.first + length (literals_in gs) in
    let b = part spans next hs in
    let at : p.at + length a + length b ≡ p.at + length (part spans p.first (gs ++ hs)) =
    omega (arith, ap length (part_append spans p.first gs hs), length-append a b) in
    let first : next + length (literals_in hs) ≡ p.first + length (literals_in (gs ++ hs)) =
    omega (arith, ap length (literals_append gs hs), length-append (literals_in gs) (literals_in hs)) in
    ap₂ (λ (x y : ℕ). record { at = x; first = y }) at first

part_none : (spans : Bool) (first : ℕ) → part spans first [] ≡ []
unfolding part spans_from
part_none true first = refl
part_none false first = refl

-- ---- guards laid behind others
module _ {spans : Bool} {p : Pen} {old : List ℕ} where
  module _ {q r : Pen} {mid new : List ℕ} (gs hs : List (List FlatLiteral)) where
    pub penned_both : Penned spans gs p old q mid → Penned spans hs q mid r new → Penned spans (gs ++ hs) p old r new
    penned_both x y =
        let next = moved spans gs p in
        record {
          pen = y.pen ∙ ap (moved spans hs) x.pen ∙ moved_append spans gs hs p;
          laid =
              y.laid ∙ ap₂ (λ (n : Pen) (l : List ℕ). lay n.at (part spans n.first hs) l) x.pen x.laid
              ∙ sym (lay_append p.at (part spans p.first gs) (part spans next.first hs) old)
              ∙ ap (λ (ws : List ℕ). lay p.at ws old) (sym (part_append spans p.first gs hs));
        }

  pub penned_none : Penned spans [] p old p old
  unfolding lay
  penned_none =
      let none = part_none spans p.first in
      let at : p.at ≡ p.at + length (part spans p.first []) = omega (arith, ap length none) in
      record {
        pen = ap₂ (λ (x y : ℕ). record { at = x; first = y }) at (sym (add-zero p.first));
        laid = ap (λ (ws : List ℕ). lay p.at ws old) (sym none);
      }

  pub penned_next : {q r : Pen} {mid new : List ℕ} (f : ℕ → List (List FlatLiteral)) (k : ℕ)
      → Penned spans (join_up f k) p old q mid → Penned spans (f k) q mid r new
      → Penned spans (join_up f (k + 1)) p old r new
  penned_next f k x y = rw (add-one k) (penned_both (join_up f k) (f k) x y)

-- ---- one guard
size_of : (g : List FlatLiteral) → length (joined literal_row g) ≡ 3 * length g
size_of g = rows_length literal_row 3 (λ l. refl) g

module _ {p q : Pen} {old new : List ℕ} (g : List FlatLiteral) where
  pub penned_literals : {end : ℕ} → Told p.at g old end new → q ≡ stepped p end ((end - p.at) / 3)
      → Penned false (g ∷ []) p old q new
  unfolding part
  penned_literals {end} x e =
      let size = size_of g in
      let all : literals_in (g ∷ []) ≡ g = append-nil g in
      let at : end ≡ p.at + length (part false p.first (g ∷ [])) =
      x.place ∙ ap (λ (l : List FlatLiteral). p.at + length (joined literal_row l)) (sym all) in
      let first : p.first + (end - p.at) / 3 ≡ p.first + length (literals_in (g ∷ [])) =
      omega (arith, x.place, size, ap length all) in
      record {
        pen = e ∙ ap₂ (λ (x y : ℕ). record { at = x; first = y }) at first;
        laid = x.laid ∙ ap (λ (l : List FlatLiteral). lay p.at (joined literal_row l) old) (sym all);
      }

  pub penned_span : {end : ℕ} {none some : List ℕ} → Told 0 g none end some → q ≡ stepped p (p.at + 2) (end / 3)
      → new ≡ lay p.at (p.first ∷ end / 3 ∷ []) old → Penned true (g ∷ []) p old q new
  unfolding part spans_from
  penned_span {end} x e l =
      let all : literals_in (g ∷ []) ≡ g = append-nil g in
      let size : end / 3 ≡ length g = omega (arith, x.place, size_of g) in
      let first : p.first + end / 3 ≡ p.first + length (literals_in (g ∷ [])) = omega (arith, size, ap length all) in
      record {
        pen = e ∙ ap (λ (y : ℕ). record { at = p.at + 2; first = y }) first;
        laid = l ∙ ap (λ (n : ℕ). lay p.at (p.first ∷ n ∷ []) old) size;
      }
