-- The steps of a microstep, done one after the other, show what the microstep means, and are counted by their tags, as long as
-- no count reaches the next. Assumes nothing.
use Rattle.std.proofs.Common.{◌≡◌, ℕ, ◌+◌, ◌<◌, ◌≤◌, List, [], ◌∷◌, ◌++◌, length, refl, ap, ◌∙◌, add-zero, arith}
use Rattle.table.specs.declared.Item.{Item}
use Rattle.effects.specs.Run.{Env, items, Tag, leave, fire, enter, Step, does_of, set_all, is_leave, is_fire, is_enter, count}
use Rattle.effects.specs.Work.{Work, plus, one, do_step, do_steps}
use Rattle.effects.proofs.Stops.{do_steps_stop, items_append}
use Rattle.effects.proofs.Raised.{AllSmall}
use Rattle.effects.proofs.Packed.{pack_counts, one_more}
use Rattle.effects.proofs.Shows.{shown, Fits, Shows, fine, follow, items_shows}

-- as the code counts
abbrev pub tallies : List Step → ℕ → ℕ
tallies [] c = c
tallies (x ∷ xs) c = tallies xs (plus c (one x.tag))

one_of : (g : Tag) → is_leave g + is_fire g + is_enter g ≡ 1
one_of leave = refl
one_of fire = refl
one_of enter = refl

-- every step is counted once
pub count_all : (xs : List Step) → count is_leave xs + count is_fire xs + count is_enter xs ≡ length xs
count_all [] = refl
count_all (x ∷ xs) = omega (arith, one_of x.tag, count_all xs)

-- as is meant
pub tallies_are : (xs : List Step) (fired left entered : ℕ)
    → fired + length xs < 1048576 → left + length xs < 1048576 → entered + length xs < 1048576
    → tallies xs (pack_counts fired left entered)
    ≡ pack_counts (fired + count is_fire xs) (left + count is_leave xs) (entered + count is_enter xs)
tallies_are [] fired left entered t l e = simp add-zero
tallies_are (x ∷ xs) fired left entered t l e =
    let g = x.tag in
    let o = one_of g in
    let a : fired + is_fire g + count is_fire xs ≡ fired + (is_fire g + count is_fire xs) = omega arith in
    let b : left + is_leave g + count is_leave xs ≡ left + (is_leave g + count is_leave xs) = omega arith in
    let c : entered + is_enter g + count is_enter xs ≡ entered + (is_enter g + count is_enter xs) = omega arith in
    ap (tallies xs) (one_more fired left entered g (omega arith) (omega arith) (omega arith))
    ∙ tallies_are xs (fired + is_fire g) (left + is_leave g) (entered + is_enter g) (omega arith) (omega arith) (omega arith)
    ∙ rw (a, b, c) refl

small_parts : (xs ys : List Item) → AllSmall (xs ++ ys) → AllSmall xs × AllSmall ys
small_parts [] ys h = (tt, h)
small_parts (x ∷ xs) ys h = let r = small_parts xs ys h.1 in ((h.0, r.0), r.1)

module _ (pairs : ℕ) (small : pairs ≤ 256) (o : List ℕ) (head micro : ℕ) (soon : micro ≤ 64) where
  abbrev work_after : List Step → List ℕ → Work → Work
  work_after xs words w = (do_steps pairs xs (record { does = w; words = words })).does

  -- the steps show what their items mean, from wherever the code is
  abbrev AllShow : List Step → ℕ → List ℕ → Type 0
  AllShow xs c words = (v : Env) (q : List ℕ) → Fits pairs head v q
      → Shows pairs o head micro (tallies xs c) (items pairs (does_of xs) v) (work_after xs words (shown o head micro c v q))

  step_shows : (x : Step) (xs : List Step) (c : ℕ) (words : List ℕ) → AllSmall x.does
      → AllShow xs (plus c (one x.tag)) (set_all x.sets words) → AllShow (x ∷ xs) c words
  unfolding do_steps do_step
  step_shows x xs c words h rest v q f =
      rw (items_append pairs x.does (does_of xs) v)
      (follow pairs small o head micro soon (items pairs (does_of xs)) (work_after xs (set_all x.sets words)) rest
      (λ u e. do_steps_stop pairs xs (record { does = u; words = set_all x.sets words }) e)
      (items_shows pairs small o head micro soon (plus c (one x.tag)) x.does h v q f))

  pub steps_shows : (xs : List Step) (c : ℕ) (words : List ℕ) → AllSmall (does_of xs) → AllShow xs c words
  unfolding do_steps items
  steps_shows [] c words h v q f = fine f
  steps_shows (x ∷ xs) c words h v q f =
      let s = small_parts x.does (does_of xs) h in
      step_shows x xs c words s.0
      (λ u p g. steps_shows xs (plus c (one x.tag)) (set_all x.sets words) s.1 u p g) v q f
