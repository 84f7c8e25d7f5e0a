-- A macrostep that is tried with some words lent for its outputs and, where it gives more, gone through again with all of them
-- lent, ends as is meant. Assumes nothing.
use Prim.Native.Nat.{ℕ, zero, suc, ◌+◌, ◌*◌, ◌/◌, ◌≤◌, ◌<◌}
use mathlib.Core.Path.{◌≡◌, refl, sym, ap, ap₂, ◌∙◌}
use mathlib.Core.Bool.{true, false}
use mathlib.Core.List.{List, [], ◌∷◌, ◌++◌}
use native.Mathlib.Omega.{arith}
use lib.Dec.{ltb, leb, leb→le, nleb→lt}
use lib.ListN.{length, take, drop, set, length-set, take-append-drop}
use lib.Seq.{length-take-le, length_front, set-append_left, take-take, drop_at}
use Rattle.words.proofs.Tests.{by_bool, clash, ltb_lt, ltb_ge}
use Rattle.effects.specs.Run.{Result, ok, St, written}
use Rattle.effects.specs.Lent.{pairs_for}
use Rattle.effects.specs.Work.{Going, outs_of, stopped?}
use Rattle.effects.proofs.Same.{Outcome, done, refused}
use Rattle.macrostep.specs.Ends.{told?, Ends, ended, halted}

-- the pairs for outputs are at most 256, and the words lent hold them
pub pairs_few : (l : ℕ) → pairs_for l ≤ 256
pairs_few l = by_bool (ltb 256 (l / 2)) (λ e. rw e (omega arith)) (λ e. rw e (ltb_ge 256 (l / 2) e))

pub pairs_fits : (l : ℕ) → 2 * pairs_for l ≤ l
pairs_fits l =
    by_bool (ltb 256 (l / 2)) (λ e. rw e (omega (arith, ltb_lt 256 (l / 2) e))) (λ e. rw e (omega arith))

-- pairs written into words that hold them all, with others behind
written_front : (ps : List (ℕ × ℕ)) (k : ℕ) (a b : List ℕ) → 2 * (k + length ps) ≤ length a
    → written k ps a ++ b ≡ written k ps (a ++ b)
unfolding written
written_front [] k a b h = refl
written_front (p ∷ ps) k a b h =
    let one = set a (2 * k) p.0 in
    let two = set one (2 * k + 1) p.1 in
    let long : length one ≡ length a = length-set a (2 * k) p.0 in
    let long2 : length two ≡ length one = length-set one (2 * k + 1) p.1 in
    let both : set (set (a ++ b) (2 * k) p.0) (2 * k + 1) p.1 ≡ two ++ b =
    ap (λ (x : List ℕ). set x (2 * k + 1) p.1) (set-append_left a b (2 * k) p.0 (omega arith))
    ∙ set-append_left one b (2 * k + 1) p.1 (omega (arith, long)) in
    written_front ps (k + 1) two b (omega (arith, long, long2)) ∙ ap (written (k + 1) ps) (sym both)

-- the words kept are enough for the front of others
front_few : (first : ℕ) (x : List ℕ) → length (take first x) ≤ first
front_few zero x = omega arith
front_few (suc first) [] = omega arith
front_few (suc first) (y ∷ x) = omega (arith, front_few first x)

pub kept_enough : (first n : ℕ) (x : List ℕ) → n ≡ first → 0 + length (take first x) ≤ n
kept_enough first n x e = omega (arith, front_few first x)

-- the first words, which were kept, are put back
pub put_back : (o outs part kept loaded : List ℕ) (first k : ℕ) → k ≡ first → first ≤ length o → outs ≡ o
    → length part ≡ length (take k outs) → kept ≡ take first o → loaded ≡ take (length (take first (part ++ drop k outs))) kept
    → loaded ++ drop first (part ++ drop k outs) ≡ o
put_back o outs part kept loaded first k z fits same p keeps loads =
    let all : length (part ++ drop k outs) ≡ length outs = length_front outs part k p in
    let most : first ≤ length (part ++ drop k outs) = omega (arith, ap length same) in
    let whole : length (take k o) ≡ first = length-take-le k o (omega arith) ∙ z in
    let long : length part ≡ first = p ∙ ap (λ (x : List ℕ). length (take k x)) same ∙ whole in
    let front : loaded ≡ take first o =
    loads ∙ ap₂ (λ (i : ℕ) (x : List ℕ). take i x) (length-take-le first (part ++ drop k outs) most) keeps
    ∙ take-take first first o (omega arith) in
    let behind : drop first (part ++ drop k outs) ≡ drop first o =
    drop_at part (drop k outs) first long ∙ ap₂ (λ (i : ℕ) (x : List ℕ). drop i x) z same in
    ap₂ (λ (x y : List ℕ). x ++ y) front behind ∙ take-append-drop first o

-- It ends well.
pub data Well : Result St → Type 0 where
  well : {s : St} → Well (ok s)

-- What is known before the macrostep is gone through with k of the words o lent: it is the first time, and `first` are lent, or it
-- ends well, and all are.
pub data Before (o : List ℕ) (first k : ℕ) (meant : Result St) : Type 0 where
  untried : k ≡ first → Before o first k meant
  tried : k ≡ length o → Well meant → Before o first k meant

-- the words lent are there
pub before_fits : {o : List ℕ} {first k : ℕ} {meant : Result St} → first ≤ length o → Before o first k meant → k ≤ length o
before_fits l (untried z) = omega arith
before_fits l (tried z w) = omega arith

module _ (o : List ℕ) (pairs k : ℕ) where
  -- what ends well is told with all words lent
  pub whole_told : {meant : Result St} {g : Going} → 2 * pairs ≤ length o → k ≡ length o → Well meant → Outcome pairs (take k o) meant g
      → told? g.does.n k ≡ true
  unfolding told?
  whole_told fits z well (done {s} {g} d) =
      by_bool (leb (2 * outs_of g.does.n) k) (λ e. rw (d.fine, e) refl)
      (λ e. absurd (omega (arith, nleb→lt (2 * outs_of g.does.n) k (rw e tt), d.outs_count, d.outs_few)))

  -- what is not told and has not stopped ends well; it was the first time, and not all words were lent
  pub goes_again : {first : ℕ} {meant : Result St} {g : Going} → 2 * pairs ≤ length o → Before o first k meant
      → Outcome pairs (take k o) meant g → stopped? g.does.n ≡ false → told? g.does.n k ≡ false
      → Well meant × (k ≡ first) × (k < length o)
  unfolding told?
  goes_again fits b (refused {r} {g} s) h q = clash (stopped? g.does.n) s.halts h
  goes_again fits (tried z w) (done {s} {g} d) h q = clash (told? g.does.n k) (whole_told fits z w (done d)) q
  goes_again fits (untried z) (done {s} {g} d) h q =
      let more : leb (2 * outs_of g.does.n) k ≡ false = rw d.fine at q in
      let over : k < 2 * outs_of g.does.n = nleb→lt (2 * outs_of g.does.n) k (rw more tt) in
      (well, z, omega (arith, over, d.outs_count, d.outs_few))

module _ (rest : List ℕ → List ℕ) (state o : List ℕ) (pairs k : ℕ) where
  -- all that it gave stands in the words lent
  pub told_ends : {meant : Result St} {g : Going} → k ≤ length o → Outcome pairs (take k o) meant g → told? g.does.n k ≡ true
      → Ends rest state o g.does.n (rest g.words ++ g.does.vars) (g.does.outs ++ drop k o) meant
  unfolding told?
  told_ends fits (done {s} {g} d) h =
      let held : leb (2 * outs_of g.does.n) k ≡ true = rw d.fine at h in
      let few : 2 * outs_of g.does.n ≤ k = leb→le (2 * outs_of g.does.n) k (rw held tt) in
      ended {s = s} (record {
        goes_on = d.fine;
        micro = d.micro;
        left = d.left;
        fired = d.fired;
        entered = d.entered;
        given = d.outs_count;
        state_is = ap₂ (λ (x y : List ℕ). rest x ++ y) d.words d.vars;
        outs_are = ap (λ (x : List ℕ). x ++ drop k o) d.outs
            ∙ written_front s.env.outs 0 (take k o) (drop k o) (omega (arith, few, d.outs_count, length-take-le k o fits))
            ∙ ap (written 0 s.env.outs) (take-append-drop k o);
      })
  told_ends fits (refused {r} {g} s) h = clash (told? g.does.n k) h (rw s.halts refl)

  -- what stops does not end well, and what is put back is as it was
  pub stop_ends : {first : ℕ} {meant : Result St} {g : Going} → Before o first k meant → Outcome pairs (take k o) meant g
      → stopped? g.does.n ≡ true → (outs : List ℕ) → (k ≡ first → outs ≡ o) → Ends rest state o g.does.n state outs meant
  stop_ends (untried z) (refused {r} {g} s) h outs back =
      halted (record { halts = s.halts; why = s.why; state_stays = refl; outs_stay = back z })
  stop_ends (tried _ z) (refused {r} s) h outs back = elim z [ ]
  stop_ends b (done {s} {g} d) h outs back = clash (stopped? g.does.n) h d.fine
