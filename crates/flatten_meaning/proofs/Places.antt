-- Where each guard of a flat table stands: those of active states, then of taken transitions, then of entered states.
-- Assumes nothing.
use Prim.Native.Nat.{ℕ, ◌+◌, ◌≤◌, ◌<◌}
use mathlib.Core.Path.{◌≡◌, refl, sym, ap, ap₂, ◌∙◌}
use mathlib.Core.Bool.{Bool, true, false, not}
use mathlib.Core.List.{List, [], ◌++◌}
use native.Mathlib.Omega.{arith}
use lib.ListN.{length, get_or, length-append, get_or-append}
use Rattle.words.specs.Loops.{join_up, when, rank}
use Rattle.words.proofs.Tests.{by_bool}
use Rattle.words.proofs.Lists.{join_up_before, join_up_in}
use Rattle.words.proofs.Ranks.{rank_lt, rank_length, rank_at}
use Rattle.chart.specs.View.{Chart}
use Rattle.flat.specs.declared.FlatLiteral.{FlatLiteral}
use Rattle.chart_meaning.proofs.Tree.{Tree}
use Rattle.flatten_meaning.specs.Flattened.{sum_below, asked, active_guard, active_guards, active_literals, bare, taken_guard, taken_guards, taken_literals, forks, entered_guard, entered_literals, entered_guards_of, all_guards}
use Rattle.flatten_meaning.proofs.Laws.{part_at}
use Rattle.flatten_meaning.proofs.Sums.{join_up_sizes}
use Rattle.flatten_meaning.proofs.Asked.{asked_source}

module _ (c : Chart) where
  -- the three parts, and how long they are
  abbrev new : ℕ → Bool
  new t = not (bare c t)

  of_active : List (List FlatLiteral)
  of_active = join_up (λ j. when (asked c j) (active_literals c j)) c.states

  of_taken : List (List FlatLiteral)
  of_taken = join_up (λ t. when (new t) (taken_literals c t)) c.transitions

  active_length : length of_active ≡ active_guards c
  unfolding of_active active_guards active_guard
  active_length = rank_length (asked c) (active_literals c) c.states

  taken_length : length of_taken ≡ taken_guards c
  unfolding of_taken taken_guards
  taken_length = rank_length new (taken_literals c) c.transitions

  pub entry_length : (t : ℕ) → length (entered_guards_of c t) ≡ rank (forks c t) c.states
  unfolding entered_guards_of
  entry_length t = rank_length (forks c t) (entered_literals c t) c.states

  pub entries_length : (t : ℕ) → length (join_up (entered_guards_of c) t) ≡ sum_below (λ s. rank (forks c s) c.states) t
  entries_length = join_up_sizes (entered_guards_of c) (λ s. rank (forks c s) c.states) entry_length

  parts : all_guards c ≡ of_active ++ (of_taken ++ join_up (entered_guards_of c) c.transitions)
  unfolding all_guards of_active of_taken
  parts = refl

  pub guards_length : length (all_guards c)
      ≡ active_guards c + (taken_guards c + sum_below (λ s. rank (forks c s) c.states) c.transitions)
  guards_length =
      ap length parts ∙ length-append of_active _
      ∙ ap₂ ◌+◌ active_length (length-append of_taken _ ∙ ap₂ ◌+◌ taken_length (entries_length c.transitions))

  -- ---- of an active state
  module _ (j : ℕ) (h : j < c.states) (a : asked c j ≡ true) where
    pub active_lt : active_guard c j < active_guards c
    unfolding active_guards active_guard
    active_lt = rank_lt (asked c) c.states j h a

    pub active_in : active_guard c j < length (all_guards c)
    active_in = omega (arith, guards_length, active_lt)

    pub active_at_lem : get_or (all_guards c) (active_guard c j) [] ≡ active_literals c j
    unfolding of_active active_guard
    active_at_lem =
        rw parts
        (get_or-append of_active _ [] (active_guard c j) (omega (arith, active_length, active_lt))
        ∙ rank_at (asked c) (active_literals c) [] c.states j h a)

  -- ---- of an entered state
  module _ (t j : ℕ) (l : t < c.transitions) (h : j < c.states) (a : forks c t j ≡ true) where
    pub entered_in : entered_guard c t j < length (all_guards c)
    unfolding entered_guard
    entered_in =
        omega (
          arith,
          guards_length,
          entries_length t,
          entry_length t,
          entries_length c.transitions,
          join_up_before (entered_guards_of c) c.transitions t l,
          rank_lt (forks c t) c.states j h a,
        )

    pub entered_at : get_or (all_guards c) (entered_guard c t j) [] ≡ entered_literals c t j
    unfolding entered_guard entered_guards_of
    entered_at =
        let r = rank (forks c t) j in
        ap (λ (g : List (List FlatLiteral)). get_or g (entered_guard c t j) []) parts
        ∙ part_at of_active _ (active_guards c) _ [] active_length
        ∙ part_at of_taken _ (taken_guards c) _ [] taken_length
        ∙ ap (λ (k : ℕ). get_or (join_up (entered_guards_of c) c.transitions) (k + r) []) (sym (entries_length t))
        ∙ join_up_in (entered_guards_of c) [] c.transitions t r l
        (omega (arith, entry_length t, rank_lt (forks c t) c.states j h a))
        ∙ rank_at (forks c t) (entered_literals c t) [] c.states j h a

  -- ---- of a taken transition: a guard of its own, unless it is bare
  pub own_guard : (t : ℕ) → bare c t ≡ false → taken_guard c t ≡ active_guards c + rank (λ s. not (bare c s)) t
  unfolding taken_guard
  own_guard t b = rw b refl

  pub taken_from : (t : ℕ) → bare c t ≡ false → active_guards c ≤ taken_guard c t
  taken_from t b = omega (arith, own_guard t b)

  pub taken_at_lem : (t : ℕ) → t < c.transitions → bare c t ≡ false
      → get_or (all_guards c) (taken_guard c t) [] ≡ taken_literals c t
  unfolding of_taken taken_guards
  taken_at_lem t h b =
      let y : new t ≡ true = rw b refl in
      ap₂ (λ (g : List (List FlatLiteral)) (k : ℕ). get_or g k []) parts (own_guard t b)
      ∙ part_at of_active _ (active_guards c) (rank new t) [] active_length
      ∙ get_or-append of_taken _ [] (rank new t) (omega (arith, taken_length, rank_lt new c.transitions t h y))
      ∙ rank_at new (taken_literals c) [] c.transitions t h y

module _ {c : Chart} (w : Tree c) (t : ℕ) (h : t < c.transitions) where
  pub source_lt : active_guard c (c.source t) < active_guards c
  source_lt = active_lt c (c.source t) (w.source_in t h) (asked_source w t h)

  pub taken_lt : taken_guard c t < active_guards c + taken_guards c
  unfolding taken_guard taken_guards
  taken_lt =
      by_bool (bare c t) (λ b. rw b (omega (arith, source_lt)))
      (λ b. rw b (omega (arith, rank_lt (new c) c.transitions t h (ap not b))))

  pub taken_in : taken_guard c t < length (all_guards c)
  taken_in = omega (arith, guards_length c, taken_lt)

  -- an earlier transition's guard stands before one of its own
  pub taken_before : (s : ℕ) → s < t → bare c t ≡ false → active_guard c (c.source s) < active_guards c
      → taken_guard c s < taken_guard c t
  unfolding taken_guard
  taken_before s l b q =
      rw b (by_bool (bare c s) (λ d. rw d (omega arith)) (λ d. rw d (omega (arith, rank_lt (new c) t s l (ap not d)))))
