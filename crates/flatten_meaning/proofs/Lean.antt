-- Steps without effect may go: items, words set and order stay. So a machine agrees with another whose steps with an effect
-- it takes. Assumes nothing.
use Prim.Native.Nat.{ℕ, ◌+◌, ◌≤◌}
use mathlib.Core.Path.{◌≡◌, refl, sym, ap, ap₂, ◌∙◌}
use mathlib.Core.Bool.{Bool, true, false, not, ◌||◌}
use mathlib.Core.List.{List, [], ◌∷◌, ◌++◌, map, append-nil}
use native.Mathlib.Nat.{le_refl}
use native.Mathlib.Omega.{arith}
use lib.ListN.{length}
use Rattle.words.specs.Loops.{joined, when}
use Rattle.words.proofs.Tests.{clash}
use Rattle.words.proofs.Lists.{joined_append}
use Rattle.table.specs.declared.Item.{Item}
use Rattle.effects.specs.Run.{Tag, leave, fire, enter, Step, Machine, does_of, sets_of, set_all, is_leave, is_fire, is_enter}
use Rattle.flatten_meaning.specs.Flattened.{nil?}
use Rattle.flatten_meaning.specs.Simulation.{counts, Agree, busy, lean}

-- ---- counts are one for each step
one_tag : (t : Tag) → is_leave t + (is_fire t + is_enter t) ≡ 1
one_tag leave = refl
one_tag fire = refl
one_tag enter = refl

abbrev pub tags_of : List Step → List Tag
tags_of xs = joined (λ (x : Step). x.tag ∷ []) xs

counts_are : (xs : List Step) → counts xs ≡ length (tags_of xs)
counts_are [] = refl
counts_are (x ∷ xs) = omega (arith, one_tag x.tag, counts_are xs)

-- ---- without the steps that have no effect
idle : (sets : List (ℕ × ℕ)) (does : List Item) → (not (nil? sets) || not (nil? does)) ≡ false → (sets ≡ []) × (does ≡ [])
idle [] [] e = (refl, refl)
idle [] (x ∷ does) e = clash true refl e
idle (p ∷ sets) does e = clash true refl e

-- what is gathered of the steps, and is nothing of a step without effect
module _ {B : Type 0} (f : Step → List B) (none : (x : Step) → busy x ≡ false → f x ≡ []) where
  lean_one : (b : Bool) (x : Step) → busy x ≡ b → joined f (when b x) ≡ f x
  lean_one true x e = append-nil (f x)
  lean_one false x e = sym (none x e)

  lean_joined : (xs : List Step) → joined f (lean xs) ≡ joined f xs
  unfolding lean
  lean_joined [] = refl
  lean_joined (x ∷ xs) =
      joined_append f (when (busy x) x) (lean xs) ∙ ap₂ ◌++◌ (lean_one (busy x) x refl) (lean_joined xs)

lean_does : (xs : List Step) → does_of (lean xs) ≡ does_of xs
lean_does = lean_joined (λ x. x.does) (λ x e. (idle x.sets x.does e).1)

lean_sets : (xs : List Step) → sets_of (lean xs) ≡ sets_of xs
lean_sets = lean_joined (λ x. x.sets) (λ x e. (idle x.sets x.does e).0)

lean_counts : (xs : List Step) → counts (lean xs) ≤ counts xs
unfolding lean
lean_counts [] = le_refl 0
lean_counts (x ∷ xs) = go (busy x) (lean_counts xs)
  where
    go : (b : Bool) → counts (lean xs) ≤ counts xs → counts (when b x ++ lean xs) ≤ counts (x ∷ xs)
    go true l = omega arith
    go false l = omega arith

-- ---- each step turned into another with the same items
module _ (turn : Step → Step) (keeps : (x : Step) → (turn x).does ≡ x.does) where
  turned_does : (xs : List Step) → does_of (map turn xs) ≡ does_of xs
  turned_does [] = refl
  turned_does (x ∷ xs) = ap₂ ◌++◌ (keeps x) (turned_does xs)

  turned_counts : (xs : List Step) → counts (map turn xs) ≡ counts xs
  turned_counts [] = refl
  turned_counts (x ∷ xs) = omega (arith, one_tag x.tag, one_tag (turn x).tag, turned_counts xs)

  -- `mid` has the items and tags of m's steps; m' takes those of mid that have an effect
  pub record Through (R : List ℕ → List ℕ → Type 0) (m m' : Machine) (e : ℕ) (x y vars : List ℕ) : Type 0 where
    pub mid : List Step
    pub takes : m' e y vars ≡ lean (map turn mid)
    pub does : does_of mid ≡ does_of (m e x vars)
    pub tags : tags_of mid ≡ tags_of (m e x vars)
    pub words : R (set_all (sets_of (m e x vars)) x) (set_all (sets_of (map turn mid)) y)

  pub agree_through : (R : List ℕ → List ℕ → Type 0) (m m' : Machine)
      → ((e : ℕ) (x y vars : List ℕ) → R x y → Through R m m' e x y vars) → Agree R m m'
  agree_through R m m' h = record {
    does = λ e x y vars r.
        let k = h e x y vars r in
        ap does_of k.takes ∙ lean_does (map turn k.mid) ∙ turned_does k.mid ∙ k.does;
    words = λ e x y vars r.
        let k = h e x y vars r in
        rw (k.takes, lean_sets (map turn k.mid)) k.words;
    fewer = λ e x y vars r.
        let k = h e x y vars r in
        omega (
          arith,
          ap counts k.takes,
          lean_counts (map turn k.mid),
          turned_counts k.mid,
          counts_are k.mid,
          counts_are (m e x vars),
          ap length k.tags,
        );
  }
