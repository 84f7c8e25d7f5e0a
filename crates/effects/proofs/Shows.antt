-- Items done in words show what items mean: the outputs are written in the words lent, and the waiting signals stand in
-- the queue's ring from `head` on. Assumes nothing.
use Rattle.std.proofs.Common.{◌≡◌, ℕ, ◌+◌, ◌*◌, ◌%◌, ◌<◌, ◌≤◌, true, ltb, leb, List, [], ◌∷◌, ◌++◌, length, get_or, set, sym, refl, ap, ◌∙◌, subst, arith, length-append, length-set, get_or-set_other, get_or-set_same, le-leb}
use borrow.Author.Tests.{lt-leb}
use lib.ListN.{get_or-append}
use lib.Seq.{get_or-append_seam}
use Rattle.words.proofs.Tests.{by_bool, last_or, ltb_lt, ltb_ge}
use Rattle.table.specs.declared.Item.{Item}
use Rattle.table.specs.declared.Item.TheVariants.{Emit, Raise, WrapAdd, SatAdd, Set, Log}
use Rattle.table.specs.declared.Refusal.{Refusal}
use Rattle.effects.specs.declared.Stop.TheVariants.{Signals, Outputs}
use Rattle.effects.specs.Run.{Env, Result, ok, refuse, ◌>>=◌, emit_to, raise_to, set_var, item, items, written}
use Rattle.effects.specs.Work.{Work, work, stopped?, do_emit, do_raise, on_outs, on_queue, do_item, do_items}
use Rattle.effects.proofs.Stops.{do_items_stopped}
use Rattle.effects.proofs.Raised.{SmallItem, AllSmall}
use Rattle.effects.proofs.Packed.{pack_rest, progress, Few, tail_is, head_is, outs_is, tail_more, outs_more, below, goes_on}
use Rattle.effects.proofs.Packed.{Halts, halts, halts_now}

-- The work that shows v, with `head` signals taken, after `micro` microsteps: the words `o` were lent for outputs, and q are the
-- queue's bytes.
abbrev pub shown : List ℕ → ℕ → ℕ → ℕ → Env → List ℕ → Work
shown o head micro counts v q =
    work (progress counts (pack_rest micro (head + length v.queue) head (length v.outs))) v.vars (written 0 v.outs o) q

-- v is within its limits, and its waiting signals stand in q, a ring of 32 bytes.
pub record Fits (pairs head : ℕ) (v : Env) (q : List ℕ) : Type 0 where
  pub few : length v.outs ≤ pairs
  pub waiting : length v.queue ≤ 32
  pub early : head ≤ 64
  pub long : length q ≡ 32
  pub signals : (i : ℕ) → i < length v.queue → get_or q ((head + i) % 32) 0 ≡ get_or v.queue i 0

-- The work shows what is meant, or has stopped for the same reason.
pub data Shows (pairs : ℕ) (o : List ℕ) (head micro counts : ℕ) : Result Env → Work → Type 0 where
  fine : {v : Env} {q : List ℕ} → Fits pairs head v q → Shows pairs o head micro counts (ok v) (shown o head micro counts v q)
  stopped : {r : Refusal} {w : Work} → Halts r w.n.rest → Shows pairs o head micro counts (refuse r) w

-- one pair more is written behind the others
written_last : (ps : List (ℕ × ℕ)) (p : ℕ × ℕ) (k n : ℕ) (o : List ℕ) → n ≡ k + length ps
    → set (set (written k ps o) (2 * n) p.0) (2 * n + 1) p.1 ≡ written k (ps ++ (p ∷ [])) o
unfolding written
written_last [] p k n o e = let z : n ≡ k = omega arith in rw z refl
written_last (x ∷ ps) p k n o e = written_last ps p (k + 1) n _ (omega arith)

-- v's counts are few
pub few_counted : {pairs head : ℕ} {v : Env} {q : List ℕ} (micro : ℕ) → pairs ≤ 256 → micro ≤ 64 → Fits pairs head v q
    → Few micro (head + length v.queue) head (length v.outs)
few_counted micro small soon f = record {
  micro = soon;
  tail = omega (arith, f.early, f.waiting);
  head = f.early;
  outs = omega (arith, f.few);
}

module _ (pairs : ℕ) (small : pairs ≤ 256) (o : List ℕ) (head micro : ℕ) (soon : micro ≤ 64) where
  module _ (counts : ℕ) {v : Env} {q : List ℕ} (f : Fits pairs head v q) where
    emitted : (a x : ℕ) → length v.outs < pairs
        → Fits pairs head (record { vars = v.vars; outs = v.outs ++ ((a, x) ∷ []); queue = v.queue }) q
    emitted a x l = record {
      few = omega (arith, length-append v.outs ((a, x) ∷ []));
      waiting = f.waiting;
      early = f.early;
      long = f.long;
      signals = f.signals;
    }

    emit_shows : (a x : ℕ)
        → Shows pairs o head micro counts (emit_to pairs a x v) (on_outs (do_emit pairs a x) (shown o head micro counts v q))
    unfolding emit_to do_emit
    emit_shows a x =
        let n = length v.outs in
        let b = few_counted micro small soon f in
        let count = outs_more b _ (length-append v.outs ((a, x) ∷ [])) in
        let words = written_last v.outs (a, x) 0 n o (omega arith) in
        by_bool (ltb n pairs)
        (λ e. let l = ltb_lt n pairs e in rw (e, outs_is b, lt-leb pairs n l, count, words) (fine (emitted a x l)))
        (λ e. rw (e, outs_is b, le-leb pairs n (ltb_ge n pairs e)) (stopped (halts Outputs _ (below b))))

    -- the signals that waited, and the one raised
    raised_old : (x i : ℕ) → length v.queue < 32 → i < length v.queue
        → get_or (set q ((head + length v.queue) % 32) x) ((head + i) % 32) 0 ≡ get_or (v.queue ++ (x ∷ [])) i 0
    raised_old x i pairs l =
        get_or-set_other q ((head + length v.queue) % 32) ((head + i) % 32) x 0 (λ e. omega arith)
        ∙ f.signals i l
        ∙ sym (get_or-append v.queue (x ∷ []) 0 i l)

    raised_new : (x : ℕ) → length v.queue < 32
        → get_or (set q ((head + length v.queue) % 32) x) ((head + length v.queue) % 32) 0
        ≡ get_or (v.queue ++ (x ∷ [])) (length v.queue) 0
    raised_new x l =
        get_or-set_same q ((head + length v.queue) % 32) x 0 (omega (arith, f.long))
        ∙ sym (get_or-append_seam v.queue x [] 0)

    raised : (x : ℕ) → length v.queue < 32
        → Fits pairs head (record { vars = v.vars; outs = v.outs; queue = v.queue ++ (x ∷ []) })
        (set q ((head + length v.queue) % 32) x)
    raised x l =
        let n : length (v.queue ++ (x ∷ [])) ≡ length v.queue + 1 = length-append v.queue (x ∷ []) in
        record {
          few = f.few;
          waiting = omega arith;
          early = f.early;
          long = length-set q ((head + length v.queue) % 32) x ∙ f.long;
          signals = λ i h. last_or i (length v.queue) (omega arith) (raised_old x i l) (λ e. rw e (raised_new x l));
        }

    raise_shows : (x : ℕ) → x < 256
        → Shows pairs o head micro counts (raise_to x v) (on_queue (do_raise x) (shown o head micro counts v q))
    unfolding raise_to do_raise
    raise_shows x h =
        let n = length v.queue in
        let tail = head + n in
        let b = few_counted micro small soon f in
        let byte : x % 256 ≡ x = omega arith in
        let full : 32 ≤ n → leb (head + 32) tail ≡ true = λ l. le-leb (head + 32) tail (omega arith) in
        let count = tail_more b (head + length (v.queue ++ (x ∷ []))) (omega (arith, length-append v.queue (x ∷ []))) in
        by_bool (ltb n 32)
        (λ e. let l = ltb_lt n 32 e in
        rw (e, head_is b, tail_is b, lt-leb (head + 32) tail (omega arith), count, byte) (fine (raised x l)))
        (λ e. rw (e, head_is b, tail_is b, full (ltb_ge n 32 e)) (stopped (halts Signals _ (below b))))

    set_fits : (vars : List ℕ) → Fits pairs head (record { vars = vars; outs = v.outs; queue = v.queue }) q
    set_fits vars = record {
      few = f.few;
      waiting = f.waiting;
      early = f.early;
      long = f.long;
      signals = f.signals;
    }

    item_shows : (x : Item) → SmallItem x
        → Shows pairs o head micro counts (item pairs x v) (do_item pairs x (shown o head micro counts v q))
    unfolding item do_item set_var
    item_shows (Emit a) h = emit_shows a 0
    item_shows (Raise s) h = raise_shows s.0 h
    item_shows (WrapAdd a b) h = fine (set_fits _)
    item_shows (SatAdd a b) h = fine (set_fits _)
    item_shows (Set a b) h = fine (set_fits _)
    item_shows (Log a b) h = emit_shows a (get_or v.vars b 0)

  -- one thing after another, where the second leaves a stop as it is
  pub follow : {r : Result Env} {w : Work} {c d : ℕ} (F : Env → Result Env) (G : Work → Work)
      → ((v : Env) (q : List ℕ) → Fits pairs head v q → Shows pairs o head micro d (F v) (G (shown o head micro c v q)))
      → ((u : Work) → stopped? u.n ≡ true → (G u).n.rest ≡ u.n.rest)
      → Shows pairs o head micro c r w → Shows pairs o head micro d (r >>= F) (G w)
  follow F G on stay (fine {v} {q} f) = on v q f
  follow F G on stay (stopped {r} {w} s) = stopped (subst (Halts r) (sym (stay w (halts_now w.n.counts s))) s)

  pub items_shows : (counts : ℕ) (xs : List Item) → AllSmall xs → (v : Env) (q : List ℕ) → Fits pairs head v q
      → Shows pairs o head micro counts (items pairs xs v) (do_items pairs xs (shown o head micro counts v q))
  unfolding items do_items
  items_shows counts [] h v q f = fine f
  items_shows counts (x ∷ xs) h v q f =
      rw (goes_on (few_counted micro small soon f) counts)
      (follow (items pairs xs) (do_items pairs xs) (λ u p g. items_shows counts xs h.1 u p g)
      (λ u e. ap (λ (w : Work). w.n.rest) (do_items_stopped pairs xs u e)) (item_shows counts f x h.0))
