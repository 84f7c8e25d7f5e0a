-- A macrostep of a chart that is tried: what the scratch slices are filled with, and what is handed back. Assumes nothing.
use Prim.Native.Nat.{ℕ, ◌+◌, ◌≤◌}
use mathlib.Core.Path.{◌≡◌, refl, sym, ap, ap₂, ◌∙◌}
use mathlib.Core.Bool.{Bool, true, false}
use mathlib.Core.List.{List, ◌++◌}
use native.Mathlib.Omega.{arith}
use lib.ListN.{length, take, drop, length-drop}
use lib.Seq.{length-take-le, take_all, take_at, take-append-le}
use Rattle.effects.specs.Work.{Going, going, fresh, turns}
use Rattle.effects.specs.declared.Progress.{Progress}
use Rattle.chart.specs.View.{Chart, view}
use Rattle.chart_rules.specs.Rules.{ChartRules}
use Rattle.chart_meaning.specs.State.{or_states, state_length}
use Rattle.chart_meaning.specs.Steps.{chart_machine, rest}
use Rattle.chart_meaning.proofs.Rest.{rest_length}
use Rattle.macrostep.specs.Ends.{told?}
use Rattle.chart_macrostep.specs.Tried.{Lent, after_turns, Tried}

-- a lent state has its words, and then the variables
pub lent_long : {c : Chart} {ors : List Bool} {words : ℕ} {state : List ℕ} → Lent c ors words state
    → length state ≡ words + c.variables
unfolding state_length
lent_long {c} h = h.long ∙ ap (λ (i : ℕ). i + c.variables) (sym h.number)

-- 16 words hold the variables
pub vars_wide : {t : List ℕ} {v k : ℕ} → ChartRules t → k ≡ 16 → v ≡ (view t).variables → v ≤ k
vars_wide rules long is = omega (arith, rules.counts.variables.1)

module _ {c : Chart} {ors : List Bool} {words : ℕ} {state : List ℕ} (h : Lent c ors words state) where
  -- 24 words hold the state's words
  pub words_wide : {k : ℕ} → k ≡ 24 → words ≤ k
  words_wide long = omega (arith, h.few)

  -- the state's words are its front
  pub front_fits : words ≤ length state
  front_fits = omega (arith, lent_long h)

  pub front_inside : {k : ℕ} → k ≡ words → (0 ≤ 48) × (0 + k ≤ length state)
  front_inside is = (omega arith, omega (arith, lent_long h))

  pub or_states_fit : {k : ℕ} → k ≡ words → or_states c ≤ k
  or_states_fit is = omega (arith, h.number)

  module _ {v : ℕ} (variables : v ≡ c.variables) where
    -- the variables are behind them
    pub words_behind : length state ≡ words + v
    words_behind = lent_long h ∙ ap (λ (i : ℕ). words + i) (sym variables)

    pub behind_inside : {k : ℕ} → k ≡ v → (words ≤ 48) × (words + k ≤ length state)
    behind_inside is = (omega (arith, h.few), omega (arith, words_behind))

    pub behind_fits : {k n : ℕ} → k ≡ v → n ≡ length state → (words ≤ 48) × (words + k ≡ n)
    behind_fits is same = (omega (arith, h.few), omega (arith, words_behind))

-- the first n words of a slice, which are filled from another
filled_front : (n : ℕ) (to from part : List ℕ) → n ≤ length to → n ≤ length from → part ≡ take (length (take n to)) from
    → take n (part ++ drop n to) ≡ take n from
filled_front n to from part a b e =
    let is : part ≡ take n from = e ∙ ap (λ (i : ℕ). take i from) (length-take-le n to a) in
    take_at part (drop n to) n (ap length is ∙ length-take-le n from b) ∙ is

-- The scratch slices are filled from the state, and the macrostep came to n, with these words, variables, outputs and queue.
module _ (c : Chart) (pairs e words v : ℕ) (state outs queue : List ℕ) (number : words ≡ or_states c) (long : length state ≡ words + v)
    (next vars part behind : List ℕ) (wide : words ≤ length next) (wide-vars : v ≤ length vars)
    (loads : part ≡ take (length (take words next)) state) (loads-behind : behind ≡ take (length (take v vars)) (drop words state))
    (m n : Progress) (next' vars' outs' queue' : List ℕ) (begins : m ≡ fresh)
    (ran : going n next' vars' outs' queue' ≡ turns 64 c.events pairs (chart_machine c) e
    (going m (take words (part ++ drop words next)) (take v (behind ++ drop v vars)) outs queue)) where
  came : going n next' vars' outs' queue' ≡ after_turns c pairs e state outs queue
  came =
      let few : length (drop words state) ≡ v = omega (arith, length-drop words state) in
      let front : take words (part ++ drop words next) ≡ take (or_states c) state =
      filled_front words next state part wide (omega arith) loads ∙ ap (λ (i : ℕ). take i state) number in
      let back : take v (behind ++ drop v vars) ≡ drop (or_states c) state =
      filled_front v vars (drop words state) behind wide-vars (omega (arith, few)) loads-behind
      ∙ take_all v (drop words state) (omega (arith, few)) ∙ ap (λ (i : ℕ). drop i state) number in
      ran ∙ rw (begins, front, back) refl

  -- it is not told: the state is as it was
  pub untold_tried : told? n (length outs) ≡ false → Tried c pairs e state outs queue n state outs'
  untold_tried h = record {
    progress = ap (λ (g : Going). g.does.n) came;
    outs_are = ap (λ (g : Going). g.does.outs) came;
    state_is = rw h refl;
  }

  -- it is told: its words at rest are laid into the front of the state, and its variables stored behind
  pub told_tried : told? n (length outs) ≡ true → length next' ≡ words → length vars' ≡ v → (x y laid stored : List ℕ)
      → laid ≡ rest c (take words (next' ++ x)) ++ drop (or_states c) (take words state) → length laid ≡ words
      → stored ≡ take words (laid ++ drop words state) ++ take v (vars' ++ y) → Tried c pairs e state outs queue n stored outs'
  told_tried h many many-vars x y laid stored lays laid-long stores =
      let rests : take words laid ≡ rest c next' =
      ap (take words) lays ∙ take_at (rest c (take words (next' ++ x))) _ words (rest_length c _ ∙ sym number)
      ∙ ap (rest c) (take_at next' x words many) in
      let is : stored ≡ rest c next' ++ vars' =
      stores ∙ ap₂ (λ (a b : List ℕ). a ++ b) (take-append-le words laid (drop words state) (omega arith) ∙ rests)
      (take_at vars' y v many-vars) in
      record {
        progress = ap (λ (g : Going). g.does.n) came;
        outs_are = ap (λ (g : Going). g.does.outs) came;
        state_is = rw h (is ∙ ap (λ (g : Going). rest c g.words ++ g.does.vars) came);
      }
