-- The or-states as a set, and a loop that goes from or-state to or-state with the place of the word. Assumes nothing.
use Prim.Native.Nat.{ℕ, ◌+◌, ◌<◌, ◌≤◌}
use mathlib.Core.Path.{◌≡◌, refl, sym, ◌∙◌}
use mathlib.Core.Bool.{Bool, true, false}
use mathlib.Core.List.{List}
use native.Mathlib.Decide.{dec_lt}
use native.Mathlib.Numerals.{add-one}
use native.Mathlib.Omega.{arith}
use lib.ListN.{get_or, get_or-eq_default}
use lib.Dec.{ltb}
use Rattle.words.specs.Loops.{tab, rank}
use Rattle.words.specs.Next.{Next}
use Rattle.words.proofs.Tests.{and_r, not_no, ltb_yes, ltb_no}
use Rattle.words.proofs.Loops.{tab_length, tab_at, rank_next}
use Rattle.words.proofs.Skip.{rank_skip, rank_cong}
use Rattle.chart.specs.View.{Chart}
use Rattle.states.specs.Cells.{no_cells}
use Rattle.states.proofs.Cells.{Filled}
use Rattle.chart_meaning.specs.Active.{is_or, or_rank}
use Rattle.chart_meaning.proofs.Tree.{Tree}
use Rattle.chart_active.specs.Ors.{Ors}
use Rattle.chart_active.specs.Shown.{Shown}
use Rattle.chart_active.proofs.Shown.{shown_none, shown_skip}

-- a set that is filled number by number, as far as the last state
pub ors_filled : (c : Chart) (n : ℕ) (s : List Bool) → n ≡ c.states → Filled (λ k t. is_or c k) n s → Ors c s
ors_filled c n s e f j =
    f j
    ∙ elim (dec_lt j n) [
      | yes h ↦ tab_at (λ k t. is_or c k) false n j h ∙ rw (ltb_yes j c.states (omega arith)) refl
      | no h ↦
          get_or-eq_default (tab (λ k t. is_or c k) n) false (omega (arith, tab_length (λ k t. is_or c k) n))
          ∙ rw (ltb_no j c.states (omega arith)) refl
    ]

module _ (c : Chart) (ors : List Bool) (is : Ors c ors) where
  -- members are or-states, and states that are no members are not
  pub in_ors : (k : ℕ) → get_or ors k false ≡ true → is_or c k ≡ true
  in_ors k e = and_r (ltb k c.states) (is_or c k) (sym (is k) ∙ e)

  below_is : (k : ℕ) → k < c.states → get_or ors k false ≡ is_or c k
  below_is k h = is k ∙ rw (ltb_yes k c.states h) refl

  -- the or-states below o are as many as the members
  pub members_rank : (o : ℕ) → o ≤ c.states → rank (λ j. get_or ors j false) o ≡ or_rank c o
  unfolding or_rank
  members_rank o h = rank_cong (λ j. get_or ors j false) (is_or c) o (λ j l. below_is j (omega arith))

  -- between an or-state and the next there is none
  pub no_or : (k n o : ℕ) → n ≡ c.states → Next (λ j. get_or ors j false) k n o → (j : ℕ) → k ≤ j → j < o → is_or c j ≡ false
  no_or k n o e next j l h = sym (below_is j (omega (arith, next.up_to))) ∙ next.skipped j l h

-- the loop is at or-state o, or behind the last; r is the place of its word, and the set shows the active states that or-states
-- before it decide on
pub record Going (c : Chart) (words : List ℕ) (o r : ℕ) (acts : List Bool) : Type 0 where
  pub up_to : o ≤ c.states
  pub or_state : o < c.states → is_or c o ≡ true
  pub place : r ≡ or_rank c o
  pub few : r ≤ o
  pub shown : Shown c words o acts

module _ {c : Chart} (w : Tree c) (words : List ℕ) where
  -- the root is the first
  pub going_start : {acts : List Bool} → acts ≡ no_cells → Going c words 0 0 acts
  unfolding or_rank
  going_start e = record {
    up_to = omega arith;
    or_state = λ h. not_no _ w.root_or;
    place = refl;
    few = omega arith;
    shown = rw e (shown_none c words);
  }

  -- from or-state o to the next
  pub going_next : (ors : List Bool) → Ors c ors → (n o r i : ℕ) (old new : List Bool) → n ≡ c.states → o < n
      → Going c words o r old → Shown c words (o + 1) new → Next (λ j. get_or ors j false) (o + 1) n i → Going c words i (r + 1) new
  unfolding or_rank
  going_next ors is n o r i old new e h g s next = record {
    up_to = omega (arith, next.up_to);
    or_state = λ l. in_ors c ors is i (next.member (omega arith));
    place =
        add-one r ∙ (rw (g.or_state (omega arith)) at (rank_next (is_or c) o r g.place))
        ∙ sym (rank_skip (is_or c) (o + 1) i next.from none);
    few = omega (arith, g.few, next.from);
    shown = shown_skip w words (o + 1) i new next.from none s;
  }
    where
      none : (j : ℕ) → o + 1 ≤ j → j < i → is_or c j ≡ false
      none = no_or c ors is (o + 1) n i e next
