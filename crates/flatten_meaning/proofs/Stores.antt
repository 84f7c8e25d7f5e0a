-- Stores to a list of words: the last one to a cell prevails whatever was there, and one that stores what is there may go.
-- Assumes nothing.
use Prim.Native.Nat.{ℕ, ◌<◌}
use mathlib.Core.Path.{◌≡◌, refl, sym, ap, ◌∙◌}
use mathlib.Core.Logic.{◌⊎◌, inl, inr, ⊎_elim}
use mathlib.Core.Bool.{Bool, true, not}
use mathlib.Core.List.Memᴰ
use mathlib.Core.List.{List, [], ◌∷◌, Memᴰ}
use native.Mathlib.Decide.{ℕ_discrete}
use native.Mathlib.Omega.{arith}
use lib.ListN.{length, get_or, set, length-set}
use lib.Seq.{get_or-set_same, set-get_or}
use Rattle.words.specs.Loops.{joined, when}
use Rattle.words.proofs.Tests.{by_bool}
use Rattle.words.proofs.Lists.{set_either}
use Rattle.effects.specs.Run.{set_all}
use Rattle.chart_meaning.proofs.Stores.{set_all_cell}

-- ---- the last store to cell k
pub record Last (ps : List (ℕ × ℕ)) (k : ℕ) : Type 0 where
  pub word : ℕ
  pub stored : Memᴰ (k, word) ps
  pub prevails : (l : List ℕ) → k < length l → get_or (set_all ps l) k 0 ≡ word

-- no store to cell k
abbrev pub Untouched : List (ℕ × ℕ) → ℕ → Type 0
Untouched ps k = (v : ℕ) → Memᴰ (k, v) ps → ⊥

pub untouched : (ps : List (ℕ × ℕ)) (k : ℕ) → Untouched ps k → (l : List ℕ) → get_or (set_all ps l) k 0 ≡ get_or l k 0
untouched ps k free l = ⊎_elim (λ e. e) (λ m. absurd (free (get_or (set_all ps l) k 0) m)) (set_all_cell ps l k)

last_here : (p : ℕ × ℕ) (ps : List (ℕ × ℕ)) (k : ℕ) → k ≡ p.0 → Untouched ps k → Last (p ∷ ps) k
last_here p ps k e free = record {
  word = p.1;
  stored = Memᴰ.head (ap (λ (i : ℕ). (i, p.1)) e);
  prevails = λ l h. untouched ps k free (set l p.0 p.1) ∙ rw (← e) (get_or-set_same l k p.1 0 h);
}

last_later : (p : ℕ × ℕ) (ps : List (ℕ × ℕ)) (k : ℕ) → Last ps k → Last (p ∷ ps) k
last_later p ps k r = record {
  word = r.word;
  stored = Memᴰ.tail r.stored;
  prevails = λ l h. r.prevails (set l p.0 p.1) (omega (arith, length-set l p.0 p.1));
}

pub touched_or : (ps : List (ℕ × ℕ)) (k : ℕ) → Last ps k ⊎ Untouched ps k
touched_or [] k = inr (λ v m. Memᴰ.not-nil m)
touched_or (p ∷ ps) k =
    ⊎_elim (λ r. inl (last_later p ps k r))
    (λ free. elim (ℕ_discrete k p.0) [
      | yes e ↦ inl (last_here p ps k e free)
      | no n ↦ inr (λ v m. ⊎_elim (λ e. n (ap (λ (q : ℕ × ℕ). q.0) e)) (free v) (Memᴰ.cases_cons m))
    ])
    (touched_or ps k)

pub last_of : {ps : List (ℕ × ℕ)} {k v : ℕ} → Memᴰ (k, v) ps → Last ps k
last_of {ps} {k} {v} m = ⊎_elim (λ r. r) (λ free. absurd (free v m)) (touched_or ps k)

-- ---- stores of what is there
set_same : (l : List ℕ) (i v : ℕ) → get_or l i 0 ≡ v → set l i v ≡ l
set_same l i v e = ap (set l i) (sym e) ∙ set-get_or l i 0

-- `idle` stores find their value there, and no other store to their cell has another value
module _ {A : Type 0} (idle : A → Bool) (place word : A → ℕ) where
  abbrev store : A → List (ℕ × ℕ)
  store p = (place p, word p) ∷ []

  pub idle_stores : (ps : List A) (l : List ℕ)
      → ((p : A) → Memᴰ p ps → idle p ≡ true → get_or l (place p) 0 ≡ word p)
      → ((p q : A) → Memᴰ p ps → Memᴰ q ps → idle p ≡ true → place p ≡ place q → word q ≡ word p)
      → set_all (joined (λ (p : A). when (not (idle p)) (place p, word p)) ps) l
      ≡ set_all (joined (λ (p : A). (place p, word p) ∷ []) ps) l
  idle_stores [] l there alone = refl
  idle_stores (p ∷ ps) l there alone =
      by_bool (idle p)
      (λ e. rw e (idle_stores ps l (λ q m. there q (Memᴰ.tail m))
      (λ q r m k. alone q r (Memᴰ.tail m) (Memᴰ.tail k))
      ∙ ap (set_all (joined store ps)) (sym (set_same l (place p) (word p) (there p (Memᴰ.head refl) e)))))
      (λ e. rw e (idle_stores ps (set l (place p) (word p))
      (λ q m i. set_either (λ (v : ℕ). v ≡ word q) l (place p) (place q) (word p) 0
      (alone q p (Memᴰ.tail m) (Memᴰ.head refl) i) (there q (Memᴰ.tail m) i))
      (λ q r m k. alone q r (Memᴰ.tail m) (Memᴰ.tail k))))
