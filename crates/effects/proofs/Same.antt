-- A macrostep as the code goes through it gives what is meant: the same words, variables, outputs and counts, or a stop
-- for the same refusal. Assumes nothing.
use Rattle.std.proofs.Common.{◌≡◌, ℕ, zero, suc, ◌+◌, ◌*◌, ◌%◌, ◌<◌, ◌≤◌, true, false, cond, ◌≢◌, List, [], ◌∷◌, length, get_or, sym, refl, ap, ◌∙◌, subst, add-zero, arith}
use Rattle.words.proofs.Tests.{eqb_yes, eqb_no}
use Rattle.table.specs.declared.Refusal.{Refusal}
use Rattle.effects.specs.declared.Stop.TheVariants.{Microsteps}
use Rattle.effects.specs.Run.{Env, Result, ok, refuse, ◌>>=◌, written, Step, Machine, sets_of, set_all}
use Rattle.effects.specs.Run.{St, after, steps, with_queue, next, loop, start, macrostep}
use Rattle.effects.specs.Work.{outs_of, head_of, micro_of, left_of, fired_of, entered_of, stopped?, refusal_of}
use Rattle.effects.specs.Work.{Work, Going, going, fresh, on_n, micro_done, popped, ended?, do_steps, turns}
use Rattle.effects.proofs.Stops.{do_steps_words}
use Rattle.effects.proofs.Raised.{Tame}
use Rattle.effects.proofs.Packed.{pack_counts, fired_is, left_is, entered_is}
use Rattle.effects.proofs.Packed.{pack_rest, micro_is, tail_is, head_is, outs_is, micro_more, head_more, below, goes_on}
use Rattle.effects.proofs.Packed.{halts, halts_now, why_now, halts_counted, why_counted}
use Rattle.effects.proofs.Shows.{shown, Fits, Shows, fine, stopped, few_counted}
use Rattle.effects.proofs.Steps.{tallies, count_all, tallies_are, steps_shows}

-- Every microstep has at most `most` steps.
abbrev pub Bounded : ℕ → Machine → Type 0
Bounded most m = (e : ℕ) (words vars : List ℕ) → length (m e words vars) ≤ most

-- g is where s is; `o` are the words lent for outputs.
pub record Done (pairs : ℕ) (o : List ℕ) (s : St) (g : Going) : Type 0 where
  pub fine : stopped? g.does.n ≡ false
  pub words : g.words ≡ s.words
  pub vars : g.does.vars ≡ s.env.vars
  pub outs : g.does.outs ≡ written 0 s.env.outs o
  pub outs_count : outs_of g.does.n ≡ length s.env.outs
  pub outs_few : length s.env.outs ≤ pairs
  pub micro : micro_of g.does.n ≡ s.micro
  pub left : left_of g.does.n ≡ s.left
  pub fired : fired_of g.does.n ≡ s.fired
  pub entered : entered_of g.does.n ≡ s.entered

-- The work has stopped, for the refusal r.
pub record Stopped (r : Refusal) (w : Work) : Type 0 where
  pub halts : stopped? w.n ≡ true
  pub why : refusal_of w.n ≡ r

pub data Outcome (pairs : ℕ) (o : List ℕ) : Result St → Going → Type 0 where
  done : {s : St} {g : Going} → Done pairs o s g → Outcome pairs o (ok s) g
  refused : {r : Refusal} {g : Going} → Stopped r g.does → Outcome pairs o (refuse r) g

abbrev counts : St → ℕ
counts s = pack_counts s.fired s.left s.entered

-- where the code is when s is meant
abbrev seen : List ℕ → ℕ → St → List ℕ → Going
seen o head s q = record { does = shown o head s.micro (counts s) s.env q; words = s.words }

-- `turns` more microsteps end no count
record Ahead (turns : ℕ) (s : St) : Type 0 where
  micro : s.micro + turns ≤ 64
  left : s.left + 10000 * turns ≤ 640000
  fired : s.fired + 10000 * turns ≤ 640000
  entered : s.entered + 10000 * turns ≤ 640000

-- the signals l, if they are what waits, stand in q
waits : {pairs head : ℕ} {v : Env} {q : List ℕ} → Fits pairs head v q → (l : List ℕ) → v.queue ≡ l
    → (i : ℕ) → i < length l → get_or q ((head + i) % 32) 0 ≡ get_or l i 0
waits f l e i h = f.signals i (omega (arith, ap length e)) ∙ ap (λ (x : List ℕ). get_or x i 0) e

module _ (events pairs : ℕ) (small : pairs ≤ 256) (o : List ℕ) (m : Machine) (bounded : Bounded 10000 m) (tame : Tame m) where
  -- f more turns give what f more microsteps mean
  abbrev Runs : ℕ → Type 0
  Runs f = (e head : ℕ) (s : St) (q : List ℕ) → head + f ≤ 64 → Ahead f s → Fits pairs head s.env q
      → Outcome pairs o (loop f events pairs m e s) (turns f events pairs m e (seen o head s q))

  -- a turn's end: nothing is left to do, or the next turn
  abbrev rest : ℕ → Going → Going
  rest f g =
      let signal = get_or g.does.queue (head_of g.does.n % 32) 0 in
      cond (ended? g.does.n) g (turns f events pairs m (events + signal) (on_n popped g))

  module _ (f : ℕ) (runs : Runs f) (head : ℕ) (early : head + suc f ≤ 64) where
    next_shows : (s : St) (q l : List ℕ) → s.env.queue ≡ l → Ahead f s → Fits pairs head s.env q
        → Outcome pairs o (next events (loop f events pairs m) l s) (rest f (seen o head s q))
    unfolding next ended? with_queue
    next_shows s q [] e a i =
        let b = few_counted s.micro small (omega (arith, a.micro)) i in
        let on = goes_on b (counts s) in
        let l : s.left < 1048576 = omega (arith, a.left) in
        let n : s.entered < 1048576 = omega (arith, a.entered) in
        let t : head ≡ head + length s.env.queue = omega (arith, ap length e) in
        rw (on, head_is b, tail_is b, eqb_yes t)
        (done (record {
          fine = on;
          words = refl;
          vars = refl;
          outs = refl;
          outs_count = outs_is b;
          outs_few = i.few;
          micro = micro_is b;
          left = left_is s.fired s.left s.entered l n;
          fired = fired_is s.fired s.left s.entered l n;
          entered = entered_is s.fired s.left s.entered n;
        }))
    next_shows s q (k ∷ l) e a i =
        let b = few_counted s.micro small (omega (arith, a.micro)) i in
        let n : length s.env.queue ≡ suc (length l) = ap length e in
        let z : head ≢ head + length s.env.queue = λ y. omega arith in
        let t : head + length s.env.queue ≡ head + 1 + length l = omega arith in
        let here : get_or q (head % 32) 0 ≡ k = rw add-zero at (waits i (k ∷ l) e 0 (omega arith)) in
        let up : (j : ℕ) → head + 1 + j ≡ head + suc j = λ j. omega arith in
        rw (goes_on b (counts s), head_is b, tail_is b, eqb_no z, head_more b (head + 1) refl, here, t)
        (runs (events + k) (head + 1) (with_queue l s) q (omega arith)
        (record { micro = a.micro; left = a.left; fired = a.fired; entered = a.entered })
        (record {
          few = i.few;
          waiting = omega (arith, i.waiting);
          early = omega arith;
          long = i.long;
          signals = λ j y. ap (λ (x : ℕ). get_or q (x % 32) 0) (up j) ∙ waits i (k ∷ l) e (suc j) (omega arith);
        }))

    module _ (s : St) (ahead : Ahead (suc f) s) (xs : List Step) (few : length xs ≤ 10000) where
      after_ahead : (v : Env) → Ahead f (after xs s v)
      unfolding after
      after_ahead v =
          let n = count_all xs in
          record {
            micro = omega (arith, ahead.micro);
            left = omega (arith, ahead.left);
            fired = omega (arith, ahead.fired);
            entered = omega (arith, ahead.entered);
          }

      -- the microstep is done
      after_seen : (v : Env) (q words : List ℕ) → Fits pairs head v q → words ≡ set_all (sets_of xs) s.words
          → on_n micro_done (record { does = shown o head s.micro (tallies xs (counts s)) v q; words = words })
          ≡ seen o head (after xs s v) q
      unfolding after
      after_seen v q words i e =
          let b = few_counted s.micro small (omega (arith, ahead.micro)) i in
          let c = tallies_are xs s.fired s.left s.entered
          (omega (arith, ahead.fired)) (omega (arith, ahead.left)) (omega (arith, ahead.entered)) in
          rw (c, e, micro_more b (suc s.micro) (omega arith)) refl

      turn_shows : {r : Result Env} {w : Work} (words : List ℕ) → words ≡ set_all (sets_of xs) s.words
          → Shows pairs o head s.micro (tallies xs (counts s)) r w
          → Outcome pairs o
          ((r >>= λ v. ok (after xs s v)) >>= λ s'. next events (loop f events pairs m) s'.env.queue s')
          (rest f (on_n micro_done (record { does = w; words = words })))
      unfolding after ended?
      turn_shows words e (fine {v} {q} i) =
          subst (λ (g : Going). Outcome pairs o (next events (loop f events pairs m) v.queue (after xs s v)) (rest f g))
          (sym (after_seen v q words i e)) (next_shows (after xs s v) q v.queue refl (after_ahead v) i)
      turn_shows words e (stopped {r} {w} h) =
          let yes = halts_counted w.n.counts h in
          rw yes (refused (record { halts = yes; why = why_counted w.n.counts h }))

  turns_shows : (f : ℕ) → Runs f
  unfolding loop steps turns
  turns_shows zero e head s q early a i =
      let h = halts Microsteps _ (below (few_counted s.micro small (omega (arith, a.micro)) i)) in
      refused (record { halts = halts_now (counts s) h; why = why_now (counts s) h })
  turns_shows (suc f) e head s q early a i =
      let xs = m e s.words s.env.vars in
      turn_shows f (turns_shows f) head early s a xs (bounded e s.words s.env.vars)
      (do_steps pairs xs (seen o head s q)).words (do_steps_words pairs xs (seen o head s q))
      (steps_shows pairs small o head s.micro (omega (arith, a.micro)) xs (counts s) s.words
      (tame e s.words s.env.vars) s.env q i)

-- A macrostep of a machine of at most 10,000 steps a microstep that raises small signals, from any state words, variables and lent
-- words.
pub same : (events pairs : ℕ) (m : Machine) (e : ℕ) (words vars o q : List ℕ)
    → Bounded 10000 m → Tame m → pairs ≤ 256 → length q ≡ 32
    → Outcome pairs o (macrostep events pairs m e words vars) (turns 64 events pairs m e (going fresh words vars o q))
unfolding macrostep start written pack_counts pack_rest
same events pairs m e words vars o q bounded tame small long =
    turns_shows events pairs small o m bounded tame 64 e 0 (start words vars) q (omega arith)
    (record { micro = omega arith; left = omega arith; fired = omega arith; entered = omega arith })
    (record {
      few = omega arith;
      waiting = omega arith;
      early = omega arith;
      long = long;
      signals = λ i h. absurd (omega arith);
    })
