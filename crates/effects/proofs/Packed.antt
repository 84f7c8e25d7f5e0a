-- A macrostep's counts in two numbers: each count is read from them as it is, one more is counted where no count is near its end, and
-- a stop is said by bits of its own. Assumes nothing.
use Rattle.std.proofs.Common.{◌≡◌, ℕ, ◌+◌, ◌*◌, ◌/◌, ◌%◌, ◌<◌, ◌≤◌, true, false, refl, ◌∙◌, arith, le-leb}
use borrow.Author.Tests.{lt-leb}
use lib.Bits.{bit_or, or_shifted_r}
use Rattle.table.specs.declared.Refusal.{Refusal}
use Rattle.table.specs.declared.Refusal.TheVariants.{Signals as signals, Outputs as outputs, Microsteps as microsteps}
use Rattle.effects.specs.declared.Progress.{Progress}
use Rattle.effects.specs.declared.Stop.{Stop}
use Rattle.effects.specs.declared.Stop.TheVariants.{Signals, Outputs, Microsteps}
use Rattle.effects.specs.Run.{Tag, leave, fire, enter, is_leave, is_fire, is_enter}
use Rattle.effects.specs.Work.{plus, one, bits_of, stopped?, refusal_of}

-- what `counts` holds, and what `rest` holds
unfoldable pub pack_counts : ℕ → ℕ → ℕ → ℕ
pack_counts fired left entered = fired * 1099511627776 + left * 1048576 + entered

unfoldable pub pack_rest : ℕ → ℕ → ℕ → ℕ → ℕ
pack_rest micro tail head outs = micro * 281474976710656 + tail * 4294967296 + head * 65536 + outs

abbrev pub progress : ℕ → ℕ → Progress
progress counts rest = record { counts = counts; rest = rest }

-- ---- states left and entered, transitions or rules fired
module _ (fired left entered : ℕ) where
  pub fired_is : left < 1048576 → entered < 1048576 → pack_counts fired left entered / 1099511627776 ≡ fired
  unfolding pack_counts
  fired_is l e = omega arith

  pub left_is : left < 1048576 → entered < 1048576 → pack_counts fired left entered / 1048576 % 1048576 ≡ left
  unfolding pack_counts
  left_is l e = omega arith

  pub entered_is : entered < 1048576 → pack_counts fired left entered % 1048576 ≡ entered
  unfolding pack_counts
  entered_is e = omega arith

  pub one_more : (g : Tag) → fired < 1048576 → left < 1048576 → entered < 1048576
      → plus (pack_counts fired left entered) (one g) ≡ pack_counts (fired + is_fire g) (left + is_leave g) (entered + is_enter g)
  unfolding pack_counts
  one_more leave t l e = omega arith
  one_more fire t l e = omega arith
  one_more enter t l e = omega arith

-- ---- microsteps, signals and outputs
pub record Few (m t h o : ℕ) : Type 0 where
  pub micro : m ≤ 64
  pub tail : t ≤ 96
  pub head : h ≤ 64
  pub outs : o ≤ 256

module _ {micro tail head outs : ℕ} (b : Few micro tail head outs) where
  pub micro_is : pack_rest micro tail head outs / 281474976710656 % 16384 ≡ micro
  unfolding pack_rest
  micro_is = omega (arith, b.micro, b.tail, b.head, b.outs)

  pub tail_is : pack_rest micro tail head outs / 4294967296 % 65536 ≡ tail
  unfolding pack_rest
  tail_is = omega (arith, b.tail, b.head, b.outs)

  pub head_is : pack_rest micro tail head outs / 65536 % 65536 ≡ head
  unfolding pack_rest
  head_is = omega (arith, b.head, b.outs)

  pub outs_is : pack_rest micro tail head outs % 65536 ≡ outs
  unfolding pack_rest
  outs_is = omega (arith, b.outs)

  pub micro_more : (n : ℕ) → n ≡ micro + 1 → plus (pack_rest micro tail head outs) 281474976710656 ≡ pack_rest n tail head outs
  unfolding pack_rest
  micro_more n e = omega (arith, b.micro, b.tail, b.head, b.outs)

  pub tail_more : (n : ℕ) → n ≡ tail + 1 → plus (pack_rest micro tail head outs) 4294967296 ≡ pack_rest micro n head outs
  unfolding pack_rest
  tail_more n e = omega (arith, b.micro, b.tail, b.head, b.outs)

  pub head_more : (n : ℕ) → n ≡ head + 1 → plus (pack_rest micro tail head outs) 65536 ≡ pack_rest micro tail n outs
  unfolding pack_rest
  head_more n e = omega (arith, b.micro, b.tail, b.head, b.outs)

  pub outs_more : (n : ℕ) → n ≡ outs + 1 → plus (pack_rest micro tail head outs) 1 ≡ pack_rest micro tail head n
  unfolding pack_rest
  outs_more n e = omega (arith, b.micro, b.tail, b.head, b.outs)

  -- far from the bits of a stop, and that it goes on
  pub below : pack_rest micro tail head outs < 4611404543450677248
  unfolding pack_rest
  below = omega (arith, b.micro, b.tail, b.head, b.outs)

  pub goes_on : (counts : ℕ) → stopped? (progress counts (pack_rest micro tail head outs)) ≡ false
  unfolding stopped?
  goes_on counts = lt-leb 4611686018427387904 (pack_rest micro tail head outs) (omega (arith, below))

-- ---- a stop
abbrev reason : Stop → Refusal
reason Signals = signals
reason Outputs = outputs
reason Microsteps = microsteps

-- the bits of a stop, where there were none
bits_are : (s : Stop) (x : ℕ) → x < 4611686018427387904 → bit_or x (bits_of s) ≡ bits_of s + x
bits_are Signals x h = or_shifted_r 1 62 x h
bits_are Outputs x h = or_shifted_r 2 62 x h
bits_are Microsteps x h = or_shifted_r 3 62 x h

-- A number that says a stop for the refusal r, with room for one microstep more.
pub record Halts (r : Refusal) (rest : ℕ) : Type 0 where
  pub stop : Stop
  pub low : ℕ
  pub few : low < 4611404543450677248
  pub is : rest ≡ bits_of stop + low
  pub why : reason stop ≡ r

pub halts : (s : Stop) (x : ℕ) → x < 4611404543450677248 → Halts (reason s) (bit_or x (bits_of s))
halts s x h = record { stop = s; low = x; few = h; is = bits_are s x (omega arith); why = refl }

-- and stay so when a microstep is counted
bits_more : (s : Stop) (x : ℕ) → x < 4611404543450677248
    → plus (bits_of s + x) 281474976710656 ≡ bits_of s + (x + 281474976710656)
bits_more Signals x h = omega arith
bits_more Outputs x h = omega arith
bits_more Microsteps x h = omega arith

module _ (counts : ℕ) where
  bits_stop : (s : Stop) (x : ℕ) → stopped? (progress counts (bits_of s + x)) ≡ true
  unfolding stopped?
  bits_stop Signals x = le-leb 4611686018427387904 (4611686018427387904 + x) (omega arith)
  bits_stop Outputs x = le-leb 4611686018427387904 (9223372036854775808 + x) (omega arith)
  bits_stop Microsteps x = le-leb 4611686018427387904 (13835058055282163712 + x) (omega arith)

  bits_why : (s : Stop) (x : ℕ) → x < 4611686018427387904 → refusal_of (progress counts (bits_of s + x)) ≡ reason s
  unfolding refusal_of
  bits_why Signals x h =
      let m = lt-leb 13835058055282163712 (4611686018427387904 + x) (omega arith) in
      let o = lt-leb 9223372036854775808 (4611686018427387904 + x) (omega arith) in
      rw (m, o) refl
  bits_why Outputs x h =
      let m = lt-leb 13835058055282163712 (9223372036854775808 + x) (omega arith) in
      let o = le-leb 9223372036854775808 (9223372036854775808 + x) (omega arith) in
      rw (m, o) refl
  bits_why Microsteps x h = rw (le-leb 13835058055282163712 (13835058055282163712 + x) (omega arith)) refl

  module _ {r : Refusal} {x : ℕ} (h : Halts r x) where
    pub halts_now : stopped? (progress counts x) ≡ true
    halts_now = rw h.is (bits_stop h.stop h.low)

    pub why_now : refusal_of (progress counts x) ≡ r
    why_now = rw h.is (bits_why h.stop h.low (omega (arith, h.few)) ∙ h.why)

    -- and when the microstep has been counted
    pub halts_counted : stopped? (progress counts (plus x 281474976710656)) ≡ true
    halts_counted = rw (h.is, bits_more h.stop h.low h.few) (bits_stop h.stop (h.low + 281474976710656))

    pub why_counted : refusal_of (progress counts (plus x 281474976710656)) ≡ r
    why_counted =
        rw (h.is, bits_more h.stop h.low h.few)
        (bits_why h.stop (h.low + 281474976710656) (omega (arith, h.few)) ∙ h.why)
