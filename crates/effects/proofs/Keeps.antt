-- What every microstep of a machine keeps of the words, a macrostep keeps; the variables stay as many. Assumes nothing.
use Rattle.std.proofs.Common.{◌≡◌, ℕ, zero, suc, ◌+◌, Bool, true, false, cond, ltb, List, [], ◌∷◌, length, ◌∙◌, length-set}
use Rattle.table.specs.declared.Item.{Item}
use Rattle.table.specs.declared.Item.TheVariants.{Emit, Raise, WrapAdd, SatAdd, Set, Log}
use Rattle.table.specs.declared.Refusal.{Refusal}
use Rattle.effects.specs.Run.{Result, ok, refuse, ◌>>=◌, Env, emit_to, raise_to, set_var, item, items}
use Rattle.effects.specs.Run.{Machine, does_of, sets_of, set_all, St, after, steps, with_queue, next, loop, start, macrostep}

-- it holds of what is done, if it is done
pub data Holds {A : Type 0} (P : A → Type 0) : Result A → Type 0 where
  done : {a : A} → P a → Holds P (ok a)
  refused : {r : Refusal} → Holds P (refuse r)

holds_bind : {A B : Type 0} {P : A → Type 0} {Q : B → Type 0} {x : Result A} (f : A → Result B)
    → Holds P x → ((a : A) → P a → Holds Q (f a)) → Holds Q (x >>= f)
holds_bind f (done {a = a} p) h = h a p
holds_bind f refused h = refused

holds_if : {A : Type 0} {P : A → Type 0} (b : Bool) (a : A) (r : Refusal) → P a → Holds P (cond b (ok a) (refuse r))
holds_if true a r p = done p
holds_if false a r p = refused

-- ---- items
abbrev Long : ℕ → Env → Type 0
Long n s = length s.vars ≡ n

module _ (pairs n : ℕ) where
  item_long : (x : Item) (s : Env) → Long n s → Holds (Long n) (item pairs x s)
  unfolding item emit_to raise_to set_var
  item_long (Emit a) s l = holds_if (ltb (length s.outs) pairs) _ _ l
  item_long (Raise k) s l = holds_if (ltb (length s.queue) 32) _ _ l
  item_long (WrapAdd a b) s l = done (length-set s.vars a _ ∙ l)
  item_long (SatAdd a b) s l = done (length-set s.vars a _ ∙ l)
  item_long (Set a b) s l = done (length-set s.vars a b ∙ l)
  item_long (Log a b) s l = holds_if (ltb (length s.outs) pairs) _ _ l

  items_long : (xs : List Item) (s : Env) → Long n s → Holds (Long n) (items pairs xs s)
  unfolding items
  items_long [] s l = done l
  items_long (x ∷ xs) s l = holds_bind (items pairs xs) (item_long x s l) (items_long xs)

-- ---- microsteps
-- words of which P holds, and n variables
pub record Kept (P : List ℕ → Type 0) (n : ℕ) (s : St) : Type 0 where
  pub words : P s.words
  pub vars : length s.env.vars ≡ n

module _ (P : List ℕ → Type 0) (n events pairs : ℕ) (m : Machine)
    (keeps : (e : ℕ) (words vars : List ℕ) → P words → P (set_all (sets_of (m e words vars)) words)) where
  steps_keep : (e : ℕ) (s : St) → Kept P n s → Holds (Kept P n) (steps pairs (m e s.words s.env.vars) s)
  unfolding steps after
  steps_keep e s k =
      holds_bind _ (items_long pairs n (does_of (m e s.words s.env.vars)) s.env k.vars)
      (λ v l. done (record { words = keeps e s.words s.env.vars k.words; vars = l }))

  next_keeps : (go : ℕ → St → Result St) → ((e : ℕ) (s : St) → Kept P n s → Holds (Kept P n) (go e s))
      → (q : List ℕ) (s : St) → Kept P n s → Holds (Kept P n) (next events go q s)
  unfolding next with_queue
  next_keeps go h [] s k = done k
  next_keeps go h (e ∷ q) s k = h (events + e) (with_queue q s) (record { words = k.words; vars = k.vars })

  loop_keeps : (more e : ℕ) (s : St) → Kept P n s → Holds (Kept P n) (loop more events pairs m e s)
  unfolding loop
  loop_keeps zero e s k = refused
  loop_keeps (suc more) e s k =
      holds_bind _ (steps_keep e s k) (λ v. next_keeps (loop more events pairs m) (loop_keeps more) v.env.queue v)

  pub macrostep_keeps : (e : ℕ) (words vars : List ℕ) → P words → length vars ≡ n
      → Holds (Kept P n) (macrostep events pairs m e words vars)
  unfolding macrostep start
  macrostep_keeps e words vars p l = loop_keeps 64 e (start words vars) (record { words = p; vars = l })
