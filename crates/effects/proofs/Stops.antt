-- A stopped work stays as it is, and steps one after the other are those steps joined. Assumes nothing.
use Rattle.std.proofs.Common.{◌≡◌, ℕ, true, leb, List, [], ◌∷◌, ◌++◌, set, sym, refl, ap, ◌∙◌}
use Rattle.table.specs.declared.Item.{Item}
use Rattle.effects.specs.declared.Progress.{Progress}
use Rattle.effects.specs.Run.{Env, Result, ok, refuse, ◌>>=◌, item, items, Step, set_all, sets_of}
use Rattle.effects.specs.Work.{Work, Going, stopped?, tagged, do_items, do_step, do_steps}

-- whether it has stopped is seen from `rest` alone
stays : (m n : Progress) → m.rest ≡ n.rest → stopped? n ≡ true → stopped? m ≡ true
unfolding stopped?
stays m n e h = ap (leb 4611686018427387904) e ∙ h

pub set_all_append : (ps qs : List (ℕ × ℕ)) (l : List ℕ) → set_all (ps ++ qs) l ≡ set_all qs (set_all ps l)
set_all_append [] qs l = refl
set_all_append (p ∷ ps) qs l = set_all_append ps qs (set l p.0 p.1)

module _ (pairs : ℕ) where
  -- ---- a stop
  pub do_items_stopped : (xs : List Item) (w : Work) → stopped? w.n ≡ true → do_items pairs xs w ≡ w
  unfolding do_items
  do_items_stopped [] w e = refl
  do_items_stopped (x ∷ xs) w e = rw e refl

  do_step_stop : (x : Step) (g : Going) → stopped? g.does.n ≡ true → (do_step pairs x g).does.n.rest ≡ g.does.n.rest
  unfolding do_step
  do_step_stop x g e =
      let w = tagged x.tag g.does in
      ap (λ (u : Work). u.n.rest) (do_items_stopped x.does w (stays w.n g.does.n refl e))

  -- steps after a stop only count and set words
  pub do_steps_stop : (xs : List Step) (g : Going)
      → stopped? g.does.n ≡ true → (do_steps pairs xs g).does.n.rest ≡ g.does.n.rest
  unfolding do_steps
  do_steps_stop [] g e = refl
  do_steps_stop (x ∷ xs) g e =
      let k = do_step_stop x g e in
      do_steps_stop xs (do_step pairs x g) (stays (do_step pairs x g).does.n g.does.n k e) ∙ k

  -- ---- joined
  pub do_steps_append : (xs ys : List Step) (g : Going) → do_steps pairs (xs ++ ys) g ≡ do_steps pairs ys (do_steps pairs xs g)
  unfolding do_steps
  do_steps_append [] ys g = refl
  do_steps_append (x ∷ xs) ys g = do_steps_append xs ys (do_step pairs x g)

  bind_append : (xs ys : List Item) → ((v : Env) → items pairs (xs ++ ys) v ≡ (items pairs xs v >>= items pairs ys))
      → (r : Result Env) → (r >>= items pairs (xs ++ ys)) ≡ ((r >>= items pairs xs) >>= items pairs ys)
  bind_append xs ys h (ok v) = h v
  bind_append xs ys h (refuse r) = refl

  pub items_append : (xs ys : List Item) (v : Env) → items pairs (xs ++ ys) v ≡ (items pairs xs v >>= items pairs ys)
  unfolding items
  items_append [] ys v = refl
  items_append (x ∷ xs) ys v = bind_append xs ys (λ u. items_append xs ys u) (item pairs x v)

  -- ---- words
  pub do_steps_words : (xs : List Step) (g : Going) → (do_steps pairs xs g).words ≡ set_all (sets_of xs) g.words
  unfolding do_steps do_step
  do_steps_words [] g = refl
  do_steps_words (x ∷ xs) g = do_steps_words xs (do_step pairs x g) ∙ sym (set_all_append x.sets (sets_of xs) g.words)
