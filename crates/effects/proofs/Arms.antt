-- What an item of each kind does, from what the functions say that its arm calls. Assumes nothing.
use Rattle.std.proofs.Common.{◌≡◌, ℕ, List, get_or, set, ap}
use Rattle.words.specs.Signed.{wrap_add, sat_add}
use Rattle.table.specs.declared.Signal.{Signal}
use Rattle.table.specs.declared.Item.{Item}
use Rattle.table.specs.declared.Item.TheVariants.{Emit, Raise, WrapAdd, SatAdd, Set, Log}
use Rattle.effects.specs.declared.Progress.{Progress}
use Rattle.effects.specs.Work.{work, do_emit, do_raise, do_item}

module _ (pairs : ℕ) (n : Progress) (vars outs queue : List ℕ) {item : Item} {r : Progress} where
  pub emitted : {a : ℕ} {outs' : List ℕ} → item ≡ Emit a → (r, outs') ≡ do_emit pairs a 0 (n, outs)
      → work r vars outs' queue ≡ do_item pairs item (work n vars outs queue)
  unfolding do_item
  emitted is e = rw is (ap (λ (x : Progress × List ℕ). work x.0 vars x.1 queue) e)

  pub raised : {k : Signal} {queue' : List ℕ} → item ≡ Raise k → (r, queue') ≡ do_raise k.0 (n, queue)
      → work r vars outs queue' ≡ do_item pairs item (work n vars outs queue)
  unfolding do_item
  raised is e = rw is (ap (λ (x : Progress × List ℕ). work x.0 vars outs x.1) e)

  pub logged : {a b i v : ℕ} {outs' : List ℕ} → item ≡ Log a b → i ≡ b → v ≡ get_or vars i 0
      → (r, outs') ≡ do_emit pairs a v (n, outs) → work r vars outs' queue ≡ do_item pairs item (work n vars outs queue)
  unfolding do_item
  logged is at reads e = rw (is, ← at, ← reads) (ap (λ (x : Progress × List ℕ). work x.0 vars x.1 queue) e)

module _ (pairs : ℕ) (n : Progress) (vars outs queue : List ℕ) {item : Item} {vars' : List ℕ} {a i v : ℕ} (at : i ≡ a)
    (puts : vars' ≡ set vars i v) where
  pub added : {b x : ℕ} → item ≡ WrapAdd a b → x ≡ get_or vars i 0 → v ≡ wrap_add x b
      → work n vars' outs queue ≡ do_item pairs item (work n vars outs queue)
  unfolding do_item
  added is reads sum = rw (is, puts, sum, reads, at)

  pub saturated : {b x : ℕ} → item ≡ SatAdd a b → x ≡ get_or vars i 0 → v ≡ sat_add x b
      → work n vars' outs queue ≡ do_item pairs item (work n vars outs queue)
  unfolding do_item
  saturated is reads sum = rw (is, puts, sum, reads, at)

  pub stored : item ≡ Set a v → work n vars' outs queue ≡ do_item pairs item (work n vars outs queue)
  unfolding do_item
  stored is = rw (is, puts, at)
