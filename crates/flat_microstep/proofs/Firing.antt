-- The rules that fire are those of the trigger whose guards are true. Assumes nothing.
use Prim.Native.Nat.{ℕ, ◌<◌, ◌≤◌}
use mathlib.Core.Path.{◌≡◌, refl, sym, ap, ap₂, ◌∙◌}
use mathlib.Core.Bool.{Bool, true, false, ◌&&◌}
use mathlib.Core.List.{List, []}
use native.Mathlib.Omega.{arith}
use lib.Dec.{eqb}
use lib.ListN.{set}
use Rattle.std.specs.Prelude.{Option, None, Some}
use Rattle.words.specs.Loops.{join_up, when}
use Rattle.words.proofs.Tests.{by_bool, eqb_no}
use Rattle.words.proofs.Lists.{join_up_cong}
use Rattle.words.proofs.Skip.{join_skip}
use Rattle.table.specs.Span.{span_at}
use Rattle.effects.specs.Run.{Step, set_all}
use Rattle.effects.specs.Work.{span_items}
use Rattle.flat.specs.View.{Flat, flat_view}
use Rattle.flat.specs.Targets.{flat_target_of}
use Rattle.flat_rules.specs.Rules.{FlatRules}
use Rattle.flat_meaning.specs.Guards.{in_cells, values}
use Rattle.flat_meaning.specs.Steps.{flat_items_of, target_set, rule_step, fires?, firing, flat_machine}
use Rattle.marks.specs.Bits.{marked}
use Rattle.flat_microstep.specs.Stretch.{has?, Asked}

-- the items that the code runs are those that a rule does
pub span_does : (t : List ℕ) (at : ℕ) → span_items t 16 at ≡ flat_items_of (flat_view t) (span_at t at)
unfolding span_items flat_items_of
span_does t at = refl

module _ (f : Flat) (k : ℕ) where
  -- guard a, the first of rule k, is asked, and then b, its second
  module _ (known : ℕ → Bool) (a : ℕ) (first : a ≡ f.first_guard k) where
    pub not_first : (r : Bool) → r ≡ known a → r ≡ false → false ≡ (known (f.first_guard k) && known (f.second_guard k))
    not_first r told fails = rw (← first, ← told, fails) refl

    pub then_second : (b : ℕ) → b ≡ f.second_guard k → (r q : Bool) → r ≡ known a → r ≡ true → q ≡ known b
        → q ≡ (known (f.first_guard k) && known (f.second_guard k))
    then_second b second r q told holds then = rw (← first, ← second, ← told, holds) then

-- the words in which the target is current, where there is one
abbrev pub with_target : Flat → Option ℕ → List ℕ → List ℕ
with_target f None next = next
with_target f (Some j) next = set next (f.machine j) j

pub sets_target : (f : Flat) (k : ℕ) (next : List ℕ) → with_target f (flat_target_of (f.target k)) next ≡ set_all (target_set f k) next
unfolding target_set
sets_target f k next = by_bool (eqb (f.target k) 65535) (λ e. rw e refl) (λ e. rw e refl)

module _ (f : Flat) (e : ℕ) (known : ℕ → Bool) where
  -- the step of rule k, where it fires
  abbrev pub fires_with : ℕ → List Step
  fires_with k = when (fires? f e known k) (rule_step f k)

  -- a rule with another trigger has none; one with it has it by its guards
  pub no_step : (k : ℕ) → has? f e k ≡ false → fires_with k ≡ []
  unfolding fires?
  no_step k other = rw other refl

  pub its_step : (k : ℕ) → has? f e k ≡ true
      → when (known (f.first_guard k) && known (f.second_guard k)) (rule_step f k) ≡ fires_with k
  unfolding fires?
  its_step k has = rw has refl

  -- where none from n on has the trigger, the rules before n are all that fire
  pub firing_before : (n : ℕ) → n ≤ f.rules → ((k : ℕ) → n ≤ k → k < f.rules → has? f e k ≡ false)
      → firing f e known ≡ join_up fires_with n
  unfolding firing
  firing_before n h none = join_skip fires_with n f.rules h (λ k g l. no_step k (none k g l))

-- tests that agree on the guards of the trigger's rules let the same rules fire
firing_same : (f : Flat) (e : ℕ) (p q : ℕ → Bool)
    → ((k : ℕ) → k < f.rules → has? f e k ≡ true
    → (p (f.first_guard k) ≡ q (f.first_guard k)) × (p (f.second_guard k) ≡ q (f.second_guard k)))
    → firing f e p ≡ firing f e q
unfolding firing
firing_same f e p q same =
    join_up_cong f.rules
    (λ k l. by_bool (has? f e k)
    (λ has. sym (its_step f e p k has)
    ∙ ap (λ (b : Bool). when b (rule_step f k)) (ap₂ ◌&&◌ (same k l has).0 (same k l has).1)
    ∙ its_step f e q k has)
    (λ other. no_step f e p k other ∙ sym (no_step f e q k other)))

module _ (t : List ℕ) (g : FlatRules t) (e : ℕ) (words vars : List ℕ) where
  -- the machine's steps are those by the marks, where they tell the guards that the trigger's rules ask for
  pub machine_fires : (before after : List ℕ)
      → ((k : ℕ) → k < (flat_view t).rules → has? (flat_view t) e k ≡ true → Asked (flat_view t) before k)
      → ((a : ℕ) → a < (flat_view t).guards → marked before a ≡ true → marked after a ≡ in_cells (values (flat_view t) words vars) a)
      → firing (flat_view t) e (marked after) ≡ flat_machine (flat_view t) e words vars
  unfolding flat_machine
  machine_fires before after asked told =
      firing_same (flat_view t) e (marked after) (in_cells (values (flat_view t) words vars)) (λ k l has.
      let rule = g.rules k l in
      let both = asked k l has in
      (told _ rule.first_guard both.first_guard, told _ rule.second_guard both.second_guard))

  -- no rule has a trigger that is more than a word
  pub machine_idle : 65535 < e → [] ≡ flat_machine (flat_view t) e words vars
  unfolding flat_machine
  machine_idle h =
      sym (firing_before (flat_view t) e _ 0 (omega arith) (λ k z l.
      eqb_no {m = (flat_view t).trigger k} {n = e} (λ q.
      omega (arith, q, (g.rules k l).trigger, g.counts.events.1, g.counts.signals.1))))
