-- What the flattener leaves is what is promised of it. Assumes nothing.
use Rattle.std.specs.Prelude.{Result, Ok, Err}
use Prim.Native.Nat.{ℕ, ◌≤◌}
use mathlib.Core.Path.{◌≡◌, refl, sym, ap, ◌∙◌, subst}
use mathlib.Core.Bool.{Bool, true, false}
use mathlib.Core.List.{List}
use native.Mathlib.Omega.{arith}
use lib.ListN.{length, take, drop}
use lib.Seq.{take_at}
use Rattle.words.proofs.Tests.{clash, ltb_no}
use Rattle.table.specs.Answers.{told, refusal_told}
use Rattle.table.specs.declared.Refusal.{Refusal}
use Rattle.table.proofs.Answers.{refusal_once}
use Rattle.effects.proofs.Calls.{done_not_refused}
use Rattle.chart.specs.View.{view}
use Rattle.chart_rules.specs.Rules.{ChartRules}
use Rattle.chart_check.proofs.Exact.{exact}
use Rattle.flatten_meaning.specs.Room.{room_needed}
use Rattle.flatten_meaning.specs.Flattened.{flattened}
use Rattle.flatten_meaning.specs.Encoded.{encode}
use Rattle.flatten_meaning.specs.FlatTable.{FlatTableOf}
use Rattle.flatten_meaning.proofs.Encoded.{encode_length}
use Rattle.flatten_meaning.proofs.Bounds.{total_in_room}
use Rattle.flatten_meaning.proofs.FlatTable.{flat_table_of}
use Rattle.flatten_laying.specs.Lay.{lay}
use Rattle.flatten_laying.proofs.Lay.{lay_front, lay_length, lay_behind}
use Rattle.flatten.specs.Wrote.{flatten_answer, Wrote, refuses, wrote}
use Rattle.olivrescum.specs.Promises.{FlatTableWritten, ChartFlattened}

done? : Result ℕ Refusal → Bool
done? (Ok n) = true
done? (Err r) = false

words_of : Result ℕ Refusal → ℕ
words_of (Ok n) = n
words_of (Err r) = 0

-- ---- the table stands in front
module _ {chart : List ℕ} (rules : ChartRules chart) (room : List ℕ) (big : room_needed (view chart) ≤ length room) where
  ws : List ℕ
  ws = encode (flattened (view chart))

  fits : length ws ≤ length room
  unfolding ws
  fits = omega (arith, encode_length (flattened (view chart)), total_in_room (view chart))

  table_written : (n : ℕ) → n ≡ length ws → (after : List ℕ) → after ≡ lay 0 ws room → FlatTableWritten chart room n after
  unfolding ws
  table_written n long after laid =
      let front : take n after ≡ encode (flattened (view chart)) =
      ap (take n) (laid ∙ lay_front ws room fits) ∙ take_at ws (drop (length ws) room) n (sym long) in
      record {
        fits = omega (arith, fits);
        as_long = ap length laid ∙ lay_length 0 ws room;
        beyond = ap (drop n) laid ∙ lay_behind n 0 ws room (omega arith);
        flat_table = subst (FlatTableOf chart) (sym front) (flat_table_of rules);
      }

  answered_done : (0, 0) ≡ flatten_answer chart (length room)
  unfolding flatten_answer
  answered_done = rw ((exact chart).1 rules, ltb_no (length room) (room_needed (view chart)) big) refl

pub promised : {chart room : List ℕ} {answer : Result ℕ Refusal} {after : List ℕ} → Wrote chart room answer after → ChartFlattened chart room answer after
unfolding done? words_of ws
promised (refuses {r} e) = record {
  answered = e;
  refused = λ s h. refl;
  written = λ n h. clash (done? (Err r)) (ap done? h) refl;
}
promised {room = room} (wrote {n} {after} rules big long laid) = record {
  answered = answered_done rules room big;
  refused = λ s h. clash (done? (Ok n)) refl (ap done? h);
  written = λ m h. table_written rules room big m (sym (ap words_of h) ∙ long) after laid;
}

-- ---- one answer
same_refusal : (b : Result ℕ Refusal) (r : Refusal) → told b ≡ refusal_told r → b ≡ Err r
same_refusal (Ok n) r e = done_not_refused r e
same_refusal (Err s) r e = ap Err (refusal_once s r e)

pub determinate : (chart room : List ℕ) (a b : Result ℕ Refusal) (after-a after-b : List ℕ)
    → ChartFlattened chart room a after-a → ChartFlattened chart room b after-b
    → (told a ≡ told b) × ((r : Refusal) → a ≡ Err r → (b ≡ Err r) × (after-a ≡ after-b))
determinate chart room a b after-a after-b p q =
    let same = p.answered ∙ sym q.answered in
    (same, λ r h. let e = same_refusal b r (sym same ∙ ap (told {T = ℕ}) h) in (e, p.refused r h ∙ sym (q.refused r e)))
