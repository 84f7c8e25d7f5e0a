-- Laws of words laid into others: one run behind another, one word behind a run, what is changed and what is not, and one turn of a loop that lays
-- words. Assumes nothing.
use Prim.Native.Nat.{ℕ, suc, ◌+◌, ◌-◌, ◌≤◌, ◌<◌}
use mathlib.Core.Path.{◌≡◌, refl, sym, ap, ◌∙◌}
use mathlib.Core.List.{List, [], ◌∷◌, ◌++◌, append_assoc}
use native.Mathlib.Nat.{add-zero, le_refl}
use native.Mathlib.Numerals.{add-one}
use native.Mathlib.Omega.{arith}
use lib.ListN.{length, get_or, set, take, drop, length-set}
use lib.Seq.{sets, sets-eq, take-set-le, drop-set-lt, length-take-le, take-append_seam, drop_at, get_or-take, get_or-drop}
use Rattle.words.specs.Loops.{many}
use Rattle.flatten_laying.specs.Lay.{lay}

-- ---- one behind the other
pub lay_append : (at : ℕ) (ws vs room : List ℕ) → lay at (ws ++ vs) room ≡ lay (at + length ws) vs (lay at ws room)
unfolding lay
lay_append at [] vs room = ap (λ (i : ℕ). lay i vs room) (sym (add-zero at))
lay_append at (w ∷ ws) vs room =
    let e : at + 1 + length ws ≡ at + suc (length ws) = omega arith in
    lay_append (at + 1) ws vs (set room at w) ∙ ap (λ (i : ℕ). lay i vs (lay (at + 1) ws (set room at w))) e

-- words laid behind others are laid with them; and one word more
pub lay_both : (at : ℕ) (room ws vs : List ℕ) {mid new : List ℕ} → mid ≡ lay at ws room
    → new ≡ lay (at + length ws) vs mid → new ≡ lay at (ws ++ vs) room
lay_both at room ws vs p q = q ∙ ap (lay (at + length ws) vs) p ∙ sym (lay_append at ws vs room)

pub lay_more : (at : ℕ) (room ws : List ℕ) (w : ℕ) {mid new : List ℕ} → mid ≡ lay at ws room
    → new ≡ set mid (at + length ws) w → new ≡ lay at (ws ++ (w ∷ [])) room
unfolding lay
lay_more at room ws w p q = lay_both at room ws (w ∷ []) p q

-- ---- what is changed, and what is not
pub lay_length : (at : ℕ) (ws room : List ℕ) → length (lay at ws room) ≡ length room
unfolding lay
lay_length at [] room = refl
lay_length at (w ∷ ws) room = lay_length (at + 1) ws (set room at w) ∙ length-set room at w

pub lay_empty : (at : ℕ) (ws : List ℕ) → lay at ws [] ≡ []
unfolding lay
lay_empty at [] = refl
lay_empty at (w ∷ ws) = lay_empty (at + 1) ws

pub lay_before : (n at : ℕ) (ws room : List ℕ) → n ≤ at → take n (lay at ws room) ≡ take n room
unfolding lay
lay_before n at [] room h = refl
lay_before n at (w ∷ ws) room h =
    lay_before n (at + 1) ws (set room at w) (omega arith) ∙ take-set-le n room at w h

pub lay_behind : (n at : ℕ) (ws room : List ℕ) → at + length ws ≤ n → drop n (lay at ws room) ≡ drop n room
unfolding lay
lay_behind n at [] room h = refl
lay_behind n at (w ∷ ws) room h =
    lay_behind n (at + 1) ws (set room at w) (omega arith) ∙ drop-set-lt n room at w (omega arith)

lay_sets : (at : ℕ) (ws room : List ℕ) → lay at ws room ≡ sets room at ws
unfolding lay
lay_sets at [] room = refl
lay_sets at (w ∷ ws) room = lay_sets (at + 1) ws (set room at w) ∙ ap (λ (i : ℕ). sets (set room at w) i ws) (add-one at)

-- where there is room for all of them
module _ (at : ℕ) (ws room : List ℕ) (fits : at + length ws ≤ length room) where
  pub lay_whole : lay at ws room ≡ take at room ++ (ws ++ drop (at + length ws) room)
  lay_whole =
      lay_sets at ws room ∙ sets-eq ws room at fits ∙ append_assoc (take at room) ws (drop (at + length ws) room)

  pub lay_words : take (length ws) (drop at (lay at ws room)) ≡ ws
  lay_words =
      let rest = drop (at + length ws) room in
      ap (λ (l : List ℕ). take (length ws) (drop at l)) lay_whole
      ∙ ap (take (length ws)) (drop_at (take at room) (ws ++ rest) at (length-take-le at room (omega arith)))
      ∙ take-append_seam ws rest

  pub lay_at : (i : ℕ) → i < length ws → get_or (lay at ws room) (at + i) 0 ≡ get_or ws i 0
  lay_at i h =
      sym (get_or-drop at (lay at ws room) i 0)
      ∙ sym (get_or-take (length ws) (drop at (lay at ws room)) i 0 h)
      ∙ ap (λ (l : List ℕ). get_or l i 0) lay_words

-- a word before or behind them
pub lay_at_before : (at i : ℕ) (ws room : List ℕ) → i < at → get_or (lay at ws room) i 0 ≡ get_or room i 0
lay_at_before at i ws room h =
    sym (get_or-take at (lay at ws room) i 0 h)
    ∙ ap (λ (l : List ℕ). get_or l i 0) (lay_before at at ws room (le_refl at))
    ∙ get_or-take at room i 0 h

-- from the first word on
pub lay_front : (ws room : List ℕ) → length ws ≤ length room → lay 0 ws room ≡ ws ++ drop (length ws) room
lay_front ws room h =
    let e : 0 + length ws ≡ length ws = omega arith in
    lay_whole 0 ws room (omega arith) ∙ ap (λ (n : ℕ). ws ++ drop n room) e

-- ---- a loop that lays `count` words, of which i are laid
module _ (f : ℕ → ℕ) (at from i count : ℕ) (room : List ℕ) where
  pub lay_next : {next : List ℕ} → i < count → next ≡ set room (at + i) (f (from + i))
      → lay (at + i) (many f (from + i) (count - i)) room
      ≡ lay (at + (i + 1)) (many f (from + (i + 1)) (count - (i + 1))) next
  unfolding lay
  lay_next {next} h e =
      let rest = count - (i + 1) in
      let a : count - i ≡ suc rest = omega arith in
      let b : suc (from + i) ≡ from + (i + 1) = omega arith in
      let d : at + i + 1 ≡ at + (i + 1) = omega arith in
      ap (λ (n : ℕ). lay (at + i) (many f (from + i) n) room) a
      ∙ ap (λ (n : ℕ). lay (at + i + 1) (many f n rest) (set room (at + i) (f (from + i)))) b
      ∙ ap (λ (n : ℕ). lay n (many f (from + (i + 1)) rest) (set room (at + i) (f (from + i)))) d
      ∙ ap (lay (at + (i + 1)) (many f (from + (i + 1)) rest)) (sym e)

  pub lay_last : count ≤ i → lay (at + i) (many f (from + i) (count - i)) room ≡ room
  unfolding lay
  lay_last h = let e : count - i ≡ 0 = omega arith in ap (λ (n : ℕ). lay (at + i) (many f (from + i) n) room) e
