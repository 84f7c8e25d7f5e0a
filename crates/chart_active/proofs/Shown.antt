-- A set that is filled or-state by or-state: an or-state decides on itself and on its children. Assumes nothing.
use Prim.Native.Nat.{ℕ, ◌+◌, ◌<◌, ◌≤◌}
use mathlib.Core.Path.{◌≡◌, refl, sym, ap, ◌∙◌}
use mathlib.Core.Logic.{◌≢◌}
use mathlib.Core.Bool.{Bool, true, false, ◌&&◌, ◌||◌, and-true, and-false}
use mathlib.Core.List.{List}
use native.Mathlib.Decide.{ℕ_discrete, dec_lt}
use native.Mathlib.Omega.{arith}
use lib.ListN.{length, get_or, set, length-set, get_or-eq_default}
use lib.Seq.{get_or-set_same, get_or-set_other}
use lib.Dec.{eqb, ltb}
use Rattle.words.proofs.Tests.{by_bool, clash, not_no, eqb_yes, eqb_no, eqb_eq, eqb_ne, ltb_yes, ltb_no}
use Rattle.words.proofs.Loops.{tab_length}
use Rattle.chart.specs.View.{Chart, is_and, child_of?}
use Rattle.states.specs.Cells.{no_cells}
use Rattle.states.proofs.Cells.{filled_none}
use Rattle.chart_meaning.specs.Active.{is_or, child, active_at, actives, active}
use Rattle.chart_meaning.proofs.Tree.{Tree, child_told, child_and, up_lt}
use Rattle.chart_meaning.proofs.Active.{active_root, active_or, active_and}
use Rattle.chart_active.specs.Shown.{decider, with_child, Shown}

-- a number that is no state is not active
active_out : (c : Chart) (words : List ℕ) (j : ℕ) → c.states ≤ j → active c words j ≡ false
unfolding active actives
active_out c words j h =
    get_or-eq_default (actives c words) false (omega (arith, tab_length (active_at c words) c.states))

-- nothing is decided yet
pub shown_none : (c : Chart) (words : List ℕ) → Shown c words 0 no_cells
shown_none c words j = filled_none (λ k l. false) j ∙ sym (rw (ltb_no (decider c j) 0 (omega arith)) (and-false (active c words j)))

module _ {c : Chart} (w : Tree c) where
  -- who decides on a state is an or-state, and not behind it
  decider_or : (j : ℕ) → j < c.states → is_and c (decider c j) ≡ false
  decider_or j h = by_bool (is_and c j) (λ a. rw a (w.and_up j h a)) (λ a. rw a a)

  decider_le : (j : ℕ) → j < c.states → decider c j ≤ j
  decider_le j h = by_bool (is_and c j) (λ a. rw a (omega (arith, up_lt w j h a))) (λ a. rw a (omega arith))

  module _ (words : List ℕ) where
    -- a state that an or-state decides on sleeps where the or-state does
    sleeps : (j : ℕ) → j < c.states → active c words (decider c j) ≡ false → active c words j ≡ false
    sleeps j h =
        by_bool (is_and c j)
        (λ a e. let up : active c words (c.parent j) ≡ false = rw a at e in active_and w words j h a ∙ rw up refl)
        (λ a e. rw a at e)

    -- an and-state decides on nothing: where from k on there are no others, k' is reached
    pub shown_skip : (k k' : ℕ) (acts : List Bool) → k ≤ k' → ((j : ℕ) → k ≤ j → j < k' → is_or c j ≡ false)
        → Shown c words k acts → Shown c words k' acts
    shown_skip k k' acts l none s j =
        s j
        ∙ elim (dec_lt j c.states) [
          | no h ↦ let out = active_out c words j (omega arith) in rw out refl
          | yes h ↦ ap (λ (b : Bool). active c words j && b) (same (decider c j) (decider_or j h))
        ]
      where
        same : (d : ℕ) → is_and c d ≡ false → ltb d k ≡ ltb d k'
        same d e =
            elim (dec_lt d k) [
              | yes h ↦ ltb_yes d k h ∙ sym (ltb_yes d k' (omega arith))
              | no h ↦
                  elim (dec_lt d k') [
                    | yes h' ↦ clash (is_or c d) (not_no (is_and c d) e) (none d (omega arith) h')
                    | no h' ↦ ltb_no d k (omega arith) ∙ sym (ltb_no d k' (omega arith))
                  ]
            ]

    module _ (o : ℕ) where
      -- where the states that o decides on are as they are to be, and the others as they were, the next or-state is reached
      next : (old new : List Bool) → Shown c words o old
          → ((j : ℕ) → j < c.states → decider c j ≡ o → get_or new j false ≡ active c words j)
          → ((j : ℕ) → (j < c.states → decider c j ≢ o) → get_or new j false ≡ get_or old j false)
          → Shown c words (o + 1) new
      next old new s here others j =
          elim (dec_lt j c.states) [
            | no h ↦
                let out = active_out c words j (omega arith) in
                others j (λ l. absurd (h l)) ∙ s j ∙ rw out refl
            | yes h ↦
                elim (ℕ_discrete (decider c j) o) [
                  | yes e ↦ here j h e ∙ sym (rw (ltb_yes (decider c j) (o + 1) (omega arith)) (and-true (active c words j)))
                  | no n ↦ others j (λ l. n) ∙ s j ∙ ap (λ (b : Bool). active c words j && b) (same (decider c j) n)
                ]
          ]
        where
          same : (d : ℕ) → d ≢ o → ltb d o ≡ ltb d (o + 1)
          same d n =
              elim (dec_lt d o) [
                | yes l ↦ ltb_yes d o l ∙ sym (ltb_yes d (o + 1) (omega arith))
                | no l ↦ ltb_no d o (omega arith) ∙ sym (ltb_no d (o + 1) (omega arith))
              ]

      module _ (in_states : o < c.states) (is-or : is_and c o ≡ false) where
        -- an or-state is the root, or is active where its parent is, which is decided on before it
        pub up_told : (acts : List Bool) → Shown c words o acts
            → (eqb o 0 || get_or acts (c.parent o) false) ≡ active c words o
        up_told acts s =
            by_bool (eqb o 0) (λ z. rw z (sym (ap (active c words) (eqb_eq o 0 z) ∙ active_root w words)))
            (λ z.
            let nz = eqb_ne o 0 z in
            let up = c.parent o in
            let less = w.smaller o in_states nz in
            let and_up = w.or_up o in_states nz is-or in
            let grand = up_lt w up (omega arith) and_up in
            rw z (s up ∙ rw (and_up, ltb_yes (c.parent up) o (omega arith)) (and-true (active c words up)) ∙ sym (active_or w words o in_states nz is-or)))

        -- one that sleeps: so do its children
        pub shown_asleep : (acts : List Bool) → active c words o ≡ false → Shown c words o acts → Shown c words (o + 1) acts
        shown_asleep acts off s =
            next acts acts s
            (λ j h e. let no = sleeps j h (ap (active c words) e ∙ off) in s j ∙ rw no refl)
            (λ j n. refl)

        -- one that is active, with its current child
        pub shown_awake : (acts : List Bool) → length acts ≡ 48 → active c words o ≡ true → Shown c words o acts
            → Shown c words (o + 1) (with_child c words o acts)
        unfolding with_child
        shown_awake acts full on s =
            by_bool (child_of? c o now) (λ t. rw t (next acts (set with now true) s (here_child t) (others_child t)))
            (λ t. rw t (next acts with s (here_none t) others_with))
          where
            now : ℕ
            now = child c words o

            with : List Bool
            with = set acts o true

            has_o : get_or with o false ≡ true
            has_o = get_or-set_same acts o true false (omega (arith, w.few))

            -- o decides on itself
            own : decider c o ≡ o
            own = rw is-or refl

            others_with : (j : ℕ) → (j < c.states → decider c j ≢ o) → get_or with j false ≡ get_or acts j false
            others_with j n = get_or-set_other acts o j true false (λ e. n (omega arith) (ap (decider c) e ∙ own))

            -- a child of o that is not set yet
            not_yet : (j : ℕ) → decider c j ≡ o → j ≢ o → get_or with j false ≡ false
            not_yet j e n =
                get_or-set_other acts o j true false n ∙ s j ∙ rw (e, ltb_no o o (omega arith)) (and-false (active c words j))

            -- a child of o is active where it is the current one
            of_child : (j : ℕ) → j < c.states → decider c j ≡ o → j ≢ o → (c.parent j ≡ o) × (active c words j ≡ eqb now j)
            of_child j h e n =
                by_bool (is_and c j)
                (λ a. let up : c.parent j ≡ o = rw a at e in (up, active_and w words j h a ∙ rw (up, on) refl))
                (λ a. absurd (n (rw a at e)))

            here_none : child_of? c o now ≡ false → (j : ℕ) → j < c.states → decider c j ≡ o
                → get_or with j false ≡ active c words j
            here_none t j h e =
                elim (ℕ_discrete j o) [
                  | yes q ↦ rw q (has_o ∙ sym on)
                  | no q ↦
                      let k = of_child j h e q in
                      let other : now ≢ j = λ i. clash (child_of? c o now) ((child_told c o now).tells (rw i (h, k.0))) t in
                      not_yet j e q ∙ sym (k.1 ∙ eqb_no other)
                ]

            here_child : child_of? c o now ≡ true → (j : ℕ) → j < c.states → decider c j ≡ o
                → get_or (set with now true) j false ≡ active c words j
            here_child t j h e =
                let told = (child_told c o now).told t in
                let fits : now < length with = omega (arith, told.0, w.few, length-set acts o true) in
                elim (ℕ_discrete j now) [
                  | yes q ↦
                      let is_and_lem = child_and w now told.0 (rw told.1 in_states) (rw told.1 is-or) in
                      let runs : active c words now ≡ true =
                      active_and w words now told.0 is_and_lem ∙ rw (told.1, on, eqb_yes {m = now} refl) refl in
                      rw q (get_or-set_same with now true false fits ∙ sym runs)
                  | no q ↦
                      get_or-set_other with now j true false q
                      ∙ elim (ℕ_discrete j o) [
                        | yes i ↦ rw i (has_o ∙ sym on)
                        | no i ↦ not_yet j e i ∙ sym ((of_child j h e i).1 ∙ eqb_no (λ p. q (sym p)))
                      ]
                ]

            others_child : child_of? c o now ≡ true → (j : ℕ) → (j < c.states → decider c j ≢ o)
                → get_or (set with now true) j false ≡ get_or acts j false
            others_child t j n =
                let told = (child_told c o now).told t in
                let is_and_lem = child_and w now told.0 (rw told.1 in_states) (rw told.1 is-or) in
                let decides : decider c now ≡ o = rw is_and_lem told.1 in
                get_or-set_other with now j true false (λ e. n (rw e told.0) (ap (decider c) e ∙ decides)) ∙ others_with j n

      -- behind o, o itself is decided on
      pub shown_at : (acts : List Bool) → o < c.states → Shown c words (o + 1) acts → get_or acts o false ≡ active c words o
      shown_at acts h s = s o ∙ rw (ltb_yes (decider c o) (o + 1) (omega (arith, decider_le o h))) (and-true (active c words o))

      -- behind the last state all states are
      pub shown_end : (acts : List Bool) → o ≡ c.states → Shown c words o acts
          → (j : ℕ) → get_or acts j false ≡ active c words j
      shown_end acts e s j =
          s j
          ∙ elim (dec_lt j c.states) [
            | yes h ↦ rw (ltb_yes (decider c j) o (omega (arith, decider_le j h))) (and-true (active c words j))
            | no h ↦ let out = active_out c words j (omega arith) in rw out refl
          ]
