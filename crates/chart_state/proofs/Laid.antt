-- Words laid one after the other into the front of others, one for each number that passes. Assumes nothing.
use mathlib.Core.Path.{◌≡◌, refl, sym, ap, ◌∙◌}
use mathlib.Core.Bool.{Bool, true, false}
use mathlib.Core.List.{List, ◌++◌, append-nil}
use Prim.Native.Nat.{ℕ, suc, ◌+◌, ◌≤◌, ◌<◌}
use native.Mathlib.Numerals.{add-one}
use native.Mathlib.Omega.{arith}
use lib.ListN.{length, get_or, drop, length-append, length-drop}
use lib.Seq.{drop-cons, set_at, append_snoc}
use Rattle.words.specs.Loops.{join_up, rank, when}
use Rattle.words.proofs.Tests.{by_bool}
use Rattle.words.proofs.Ranks.{rank_lt, rank_length}
use Rattle.words.proofs.Skip.{join_skip, rank_skip}
use Rattle.chart.specs.View.{Chart}
use Rattle.chart_meaning.specs.Active.{actives, active}
use Rattle.chart_meaning.specs.Steps.{rest_word}
use Rattle.chart_state.specs.Laid.{laid}

module _ (p : ℕ → Bool) (f : ℕ → ℕ) (old : List ℕ) where
  -- the words of the numbers below o
  abbrev front : ℕ → List ℕ
  front o = join_up (λ k. when (p k) (f k)) o

  -- they are laid, and `at` is the place behind them
  pub record Front (o at : ℕ) (state : List ℕ) : Type 0 where
    pub place : at ≡ rank p o
    pub words : state ≡ join_up (λ k. when (p k) (f k)) o ++ drop (rank p o) old

  -- one number more
  pub lay_next : (n o at v : ℕ) (state : List ℕ) (after : List ℕ × ℕ) → o < n → rank p n ≤ length old → v ≡ f o
      → Front o at state → after ≡ laid (p o) v at state → Front (o + 1) after.1 after.0
  lay_next n o at v state after h room w l e = rw (e, add-one o) (by_bool (p o) one none)
    where
      one : p o ≡ true → Front (suc o) (laid (p o) v at state).1 (laid (p o) v at state).0
      one t =
          let fits = rank_lt p n o h t in
          let behind = drop (suc (rank p o)) old in
          rw t (record {
            place = rw t (omega (arith, l.place));
            words =
                rw (t, l.words, l.place, w, drop-cons old (rank p o) 0 (omega arith))
                (set_at (front o) (get_or old (rank p o) 0) behind (f o) (rank p o) (rank_length p f o)
                ∙ sym (append_snoc (front o) (f o) behind));
          })

      none : p o ≡ false → Front (suc o) (laid (p o) v at state).1 (laid (p o) v at state).0
      none t = rw t (record {
        place = rw t l.place;
        words = rw t (l.words ∙ ap (λ (w : List ℕ). w ++ drop (rank p o) old) (sym (append-nil (front o))));
      })

  -- numbers that do not pass lay nothing
  pub lay_skip : (k o at : ℕ) (state : List ℕ) → k ≤ o → ((j : ℕ) → k ≤ j → j < o → p j ≡ false) → Front k at state
      → Front o at state
  lay_skip k o at state h none l =
      let same = rank_skip p k o h none in
      record {
        place = l.place ∙ sym same;
        words = rw (same, join_skip (λ j. when (p j) (f j)) k o h (λ j g u. rw (none j g u) refl)) l.words;
      }

  -- the words are as many as before
  pub front_length : (o at : ℕ) (state : List ℕ) → rank p o ≤ length old → Front o at state → length state ≡ length old
  front_length o at state room l =
      ap length l.words ∙ length-append (front o) (drop (rank p o) old)
      ∙ omega (arith, rank_length p f o, length-drop (rank p o) old)

  -- all numbers
  pub lay_end : (n o at : ℕ) (state : List ℕ) → o ≡ n → Front o at state
      → state ≡ join_up (λ k. when (p k) (f k)) n ++ drop (rank p n) old
  lay_end n o at state e l = rw (← e) l.words

-- a word that is handed back asks for one cell: its or-state's
pub rest_cell : (c : Chart) (words : List ℕ) (acts : List Bool) (o : ℕ) → get_or acts o false ≡ active c words o
    → rest_word c words acts o ≡ rest_word c words (actives c words) o
unfolding rest_word active
rest_cell c words acts o e = rw e refl
