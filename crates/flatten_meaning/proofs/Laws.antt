-- Laws of tests, loops and lists that the proofs of the flat table need. Assumes nothing.
use Prim.Native.Nat.{ℕ, zero, suc, ◌+◌, ◌<◌}
use mathlib.Core.Path.{◌≡◌, refl, sym, ap, ap₂, ◌∙◌}
use mathlib.Core.Logic.{inl, inr}
use mathlib.Core.Bool.{Bool, true, false, ◌&&◌, ◌||◌, cond, and-true, and_assoc}
use mathlib.Core.List.Memᴰ
use mathlib.Core.List.{List, [], ◌∷◌, ◌++◌, map, append-nil, map-append, Memᴰ}
use native.Mathlib.Nat.{not-suc-le-zero, le_refl}
use native.Mathlib.Omega.{arith}
use lib.ListN.{length, get_or, set}
use lib.Seq.{get_or-append-add}
use lib.Dec.{eqb}
use Rattle.words.specs.Loops.{tab, join_up, join_down, many, all, joined, all_below, any_below, when}
use Rattle.words.proofs.Tests.{by_bool, last_or, eqb_no, or_l, or_r, or_second, clash}
use Rattle.flatten_meaning.specs.Flattened.{nil?}

-- ---- or, and
pub or_no_l : (a b : Bool) → (a || b) ≡ false → a ≡ false
or_no_l true b e = e
or_no_l false b e = refl

pub or_no_r : (a b : Bool) → (a || b) ≡ false → b ≡ false
or_no_r true b e = clash true refl e
or_no_r false b e = e

-- what is equal where a test passes
pub and_under : (a x y : Bool) → (a ≡ true → x ≡ y) → (a && x) ≡ (a && y)
and_under true x y h = h refl
and_under false x y h = refl

-- ---- tests of all members
module _ {A : Type 0} (p : A → Bool) where
  pub all_append : (xs ys : List A) → all p (xs ++ ys) ≡ (all p xs && all p ys)
  all_append [] ys = refl
  all_append (x ∷ xs) ys = rw (all_append xs ys) (sym (and_assoc (p x) (all p xs) (all p ys)))

  pub all_up : (f : ℕ → List A) (n : ℕ) → all p (join_up f n) ≡ all_below (λ k. all p (f k)) n
  all_up f zero = refl
  all_up f (suc n) = all_append (join_up f n) (f n) ∙ ap (λ (b : Bool). b && all p (f n)) (all_up f n)

  pub all_when : (b : Bool) (x : A) → all p (when b x) ≡ cond b (p x) true
  all_when true x = and-true (p x)
  all_when false x = refl

  -- tests that agree on the members
  pub all_cong : (q : A → Bool) (xs : List A) → ((x : A) → Memᴰ x xs → p x ≡ q x) → all p xs ≡ all q xs
  all_cong q [] h = refl
  all_cong q (x ∷ xs) h = ap₂ ◌&&◌ (h x (Memᴰ.head refl)) (all_cong q xs (λ y m. h y (Memᴰ.tail m)))

module _ {A B : Type 0} (p : B → Bool) (f : A → B) where
  pub all_map : (xs : List A) → all p (map f xs) ≡ all (λ x. p (f x)) xs
  all_map [] = refl
  all_map (x ∷ xs) = ap (λ (b : Bool). p (f x) && b) (all_map xs)

  pub all_nil : (xs : List A) → nil? xs ≡ true → all p (map f xs) ≡ true
  all_nil [] e = refl
  all_nil (x ∷ xs) e = clash false e refl

-- ---- tests of all numbers, and of some, below a bound
pub all_below_cong : {p q : ℕ → Bool} (n : ℕ) → ((k : ℕ) → k < n → p k ≡ q k) → all_below p n ≡ all_below q n
all_below_cong zero h = refl
all_below_cong (suc n) h = ap₂ ◌&&◌ (all_below_cong n (λ k l. h k (omega arith))) (h n (le_refl (suc n)))

module _ (p : ℕ → Bool) where
  pub any_below_in : (n k : ℕ) → k < n → p k ≡ true → any_below p n ≡ true
  any_below_in zero k h e = absurd (not-suc-le-zero h)
  any_below_in (suc n) k h e =
      last_or k n h (λ l. or_l (any_below p n) (p n) (any_below_in n k l e))
      (λ q. or_r (any_below p n) (p n) (ap p (sym q) ∙ e))

  pub any_below_no : (n k : ℕ) → any_below p n ≡ false → k < n → p k ≡ false
  any_below_no n k e h = by_bool (p k) (λ q. clash (any_below p n) (any_below_in n k h q) e) (λ q. q)

  pub any_below_some : (n : ℕ) → any_below p n ≡ true → (k : ℕ) × (k < n) × (p k ≡ true)
  any_below_some zero e = clash false e refl
  any_below_some (suc n) e =
      by_bool (any_below p n) (λ q. let r = any_below_some n q in (r.0, omega (arith, r.1), r.2))
      (λ q. (n, le_refl (suc n), or_second (any_below p n) (p n) e q))

-- ---- cells
module _ {A : Type 0} where
  pub tab_cong : (g h : ℕ → List A → A) (n : ℕ) → ((k : ℕ) → k < n → (cells : List A) → g k cells ≡ h k cells)
      → tab g n ≡ tab h n
  tab_cong g h zero e = refl
  tab_cong g h (suc n) e =
      ap (λ (t : List A). t ++ (g n t ∷ [])) (tab_cong g h n (λ k l. e k (omega arith)))
      ∙ ap (λ (x : A). tab h n ++ (x ∷ [])) (e n (le_refl (suc n)) (tab h n))

  module _ (P : A → Type 0) where
    one_more : (xs : List A) (x d : A) (i : ℕ) → P x → P d → P (get_or xs i d) → P (get_or (xs ++ (x ∷ [])) i d)
    one_more [] x d zero p q r = p
    one_more [] x d (suc i) p q r = q
    one_more (y ∷ ys) x d zero p q r = r
    one_more (y ∷ ys) x d (suc i) p q r = one_more ys x d i p q r

    -- what the default has and each cell has if the cells before it do, every cell has
    pub tab_all : (g : ℕ → List A → A) (d : A) (n : ℕ) → P d
        → ((k : ℕ) → k < n → (cells : List A) → ((i : ℕ) → P (get_or cells i d)) → P (g k cells))
        → (i : ℕ) → P (get_or (tab g n) i d)
    tab_all g d zero q h i = q
    tab_all g d (suc n) q h i =
        let before = tab_all g d n q (λ k l. h k (omega arith)) in
        one_more (tab g n) (g n (tab g n)) d i (h n (le_refl (suc n)) (tab g n) before) q (before i)

  -- a cell behind the first n
  pub part_at : (p q : List A) (n i : ℕ) (d : A) → length p ≡ n → get_or (p ++ q) (n + i) d ≡ get_or q i d
  part_at p q n i d e = rw (← e) (get_or-append-add p q i d)

-- ---- lists that loops gather
module _ {A : Type 0} where
  pub join_up_none : {f : ℕ → List A} (n : ℕ) → ((k : ℕ) → k < n → f k ≡ []) → join_up f n ≡ []
  join_up_none zero h = refl
  join_up_none (suc n) h = rw (join_up_none n (λ k l. h k (omega arith)), h n (le_refl (suc n))) refl

  pub join_down_none : {f : ℕ → List A} (n : ℕ) → ((k : ℕ) → k < n → f k ≡ []) → join_down f n ≡ []
  join_down_none zero h = refl
  join_down_none (suc n) h = rw (join_down_none n (λ k l. h k (omega arith)), h n (le_refl (suc n))) refl

  pub cond_when : (b a : Bool) (x : A) → cond b (when a x) [] ≡ when (b && a) x
  cond_when true a x = refl
  cond_when false a x = refl

  pub cond_one : (b : Bool) (x : A) → cond b (x ∷ []) [] ≡ when b x
  cond_one true x = refl
  cond_one false x = refl

  pub cond_none : (b : Bool) → ◌≡◌ {A = List A} (cond b [] []) []
  cond_none true = refl
  cond_none false = refl

  pub many_none : (f : ℕ → A) (i k : ℕ) → nil? (many f i k) ≡ eqb k 0
  many_none f i zero = refl
  many_none f i (suc k) = sym (eqb_no {m = suc k} {n = 0} (λ (e : suc k ≡ 0). omega arith))

module _ {A B : Type 0} where
  pub joined_when : (f : A → List B) (b : Bool) (x : A) → joined f (when b x) ≡ cond b (f x) []
  joined_when f true x = append-nil (f x)
  joined_when f false x = refl

  pub map_when : (f : A → B) (b : Bool) (x : A) → map f (when b x) ≡ when b (f x)
  map_when f true x = refl
  map_when f false x = refl

  pub map_up : (f : A → B) (g : ℕ → List A) (n : ℕ) → map f (join_up g n) ≡ join_up (λ k. map f (g k)) n
  map_up f g zero = refl
  map_up f g (suc n) = map-append f (join_up g n) (g n) ∙ ap (λ (l : List B). l ++ map f (g n)) (map_up f g n)

  pub map_set : (f : A → B) (l : List A) (i : ℕ) (v : A) → map f (set l i v) ≡ set (map f l) i (f v)
  map_set f [] i v = refl
  map_set f (x ∷ xs) zero v = refl
  map_set f (x ∷ xs) (suc i) v = ap (λ (l : List B). f x ∷ l) (map_set f xs i v)

  pub map_at : (f : A → B) (l : List A) (i : ℕ) (a : A) (b : B) → i < length l → get_or (map f l) i b ≡ f (get_or l i a)
  map_at f [] i a b h = absurd (not-suc-le-zero h)
  map_at f (x ∷ xs) zero a b h = refl
  map_at f (x ∷ xs) (suc i) a b h = map_at f xs i a b (omega arith)

pub joined_map : {A B C : Type 0} (f : B → List C) (g : A → B) (xs : List A)
    → joined f (map g xs) ≡ joined (λ x. f (g x)) xs
joined_map f g [] = refl
joined_map {C = C} f g (x ∷ xs) = ap (λ (l : List C). f (g x) ++ l) (joined_map f g xs)

-- ---- cells and members
module _ {A : Type 0} where
  pub get_d-mem : (xs : List A) (d : A) (k : ℕ) → k < length xs → Memᴰ (get_or xs k d) xs
  get_d-mem [] d k h = absurd (not-suc-le-zero h)
  get_d-mem (x ∷ xs) d zero h = Memᴰ.head refl
  get_d-mem (x ∷ xs) d (suc k) h = Memᴰ.tail (get_d-mem xs d k (omega arith))

  -- a member's place
  pub mem_at : {x : A} (xs : List A) (d : A) → Memᴰ x xs → (k : ℕ) × (k < length xs) × (get_or xs k d ≡ x)
  mem_at [] d m = absurd (Memᴰ.not-nil m)
  mem_at (y ∷ ys) d m =
      elim (Memᴰ.cases_cons m) [
        | inl e ↦ (0, omega arith, sym e)
        | inr p ↦ let r = mem_at ys d p in (suc r.0, omega (arith, r.1), r.2)
      ]

-- a member of a mapped list
pub mem_map : {A B : Type 0} {b : B} (f : A → B) (xs : List A) → Memᴰ b (map f xs)
    → (x : A) × Memᴰ x xs × (b ≡ f x)
mem_map f [] m = absurd (Memᴰ.not-nil m)
mem_map f (x ∷ xs) m =
    elim (Memᴰ.cases_cons m) [
      | inl e ↦ (x, Memᴰ.head refl, e)
      | inr p ↦ let r = mem_map f xs p in (r.0, Memᴰ.tail r.1, r.2)
    ]
