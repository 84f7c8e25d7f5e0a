-- A macrostep as the code goes through it: variables and outputs are words in lent slices, the queue is bytes, and what
-- is counted is a struct of two numbers. The queue is a ring of 32 bytes: at most 32 signals wait, so signal k, counted from the
-- macrostep's start, stands at byte k % 32. proofs/Same.antt shows that this gives what specs/Run.antt says.
use Rattle.std.specs.Prelude.{ℕ, zero, suc, ◌+◌, ◌*◌, ◌/◌, ◌%◌, ◌<◌, ◌≤◌, Bool, cond, ◌||◌, List, [], ◌∷◌, length, ◌==◌, bit_or, nat_le, slice_index, slice_index_or, slice_set}
use Rattle.words.specs.Signed.{wrap_add, sat_add}
use Rattle.words.specs.Loops.{many}
use Rattle.table.specs.Triple.{triple_at}
use Rattle.table.specs.Items.{item_in}
use Rattle.table.specs.declared.Item.{Item}
use Rattle.table.specs.declared.Item.TheVariants.{Emit, Raise, WrapAdd, SatAdd, Set, Log}
use Rattle.table.specs.declared.Refusal.{Refusal}
use Rattle.table.specs.declared.Refusal.TheVariants.{Signals as signals, Outputs as outputs, Microsteps as microsteps}
use Rattle.effects.specs.Run.{Tag, leave, fire, enter, Step, Machine, set_all}
use Rattle.effects.specs.declared.Stop.{Stop}
use Rattle.effects.specs.declared.Stop.TheVariants.{Signals, Outputs, Microsteps}
use Rattle.effects.specs.declared.Counted.{Counted}
use Rattle.effects.specs.declared.Counted.TheVariants.{Fired, Left, Entered, Microstep, Raised, Taken, Output}
use Rattle.effects.specs.declared.Progress.{Progress}

-- ---- what is counted, in two numbers of 64 bits
-- From bit 40 on the transitions or rules that fired; from bit 20 on the states left; below, the states entered.
abbrev pub fired_of : Progress → ℕ
fired_of n = n.counts / 1099511627776

abbrev pub left_of : Progress → ℕ
left_of n = n.counts / 1048576 % 1048576

abbrev pub entered_of : Progress → ℕ
entered_of n = n.counts % 1048576

-- From bit 62 on why it has stopped, 0 where it has not; from bit 48 on the microsteps; from bit 32 on the signals raised (tail) and
-- from bit 16 on those taken (head); below, the outputs.
abbrev pub micro_of : Progress → ℕ
micro_of n = n.rest / 281474976710656 % 16384

abbrev pub tail_of : Progress → ℕ
tail_of n = n.rest / 4294967296 % 65536

abbrev pub head_of : Progress → ℕ
head_of n = n.rest / 65536 % 65536

abbrev pub outs_of : Progress → ℕ
outs_of n = n.rest % 65536

-- how much is counted of each
abbrev pub count_of : Counted → Progress → ℕ
count_of Fired n = fired_of n
count_of Left n = left_of n
count_of Entered n = entered_of n
count_of Microstep n = micro_of n
count_of Raised n = tail_of n
count_of Taken n = head_of n
count_of Output n = outs_of n

unfoldable pub stopped? : Progress → Bool
stopped? n = nat_le 4611686018427387904 n.rest

-- A number more, in 64 bits.
abbrev pub plus : ℕ → ℕ → ℕ
plus x y = (x + y) % 18446744073709551616

pub record Work : Type 0 where
  pub n : Progress
  pub vars : List ℕ
  pub outs : List ℕ
  pub queue : List ℕ

abbrev pub work : Progress → List ℕ → List ℕ → List ℕ → Work
work n vars outs queue = record { n = n; vars = vars; outs = outs; queue = queue }

-- The bits of a stop, and the refusal that it stands for.
abbrev pub bits_of : Stop → ℕ
bits_of Signals = 4611686018427387904
bits_of Outputs = 9223372036854775808
bits_of Microsteps = 13835058055282163712

abbrev pub stop_at : Stop → Progress → Progress
stop_at s n = record { counts = n.counts; rest = bit_or n.rest (bits_of s) }

-- The refusal that a progress that has stopped stands for.
unfoldable pub refusal_of : Progress → Refusal
refusal_of n =
    cond (nat_le 13835058055282163712 n.rest) microsteps (cond (nat_le 9223372036854775808 n.rest) outputs signals)

-- the progress at a macrostep's start
abbrev pub fresh : Progress
fresh = record { counts = 0; rest = 0 }

-- so much more of what `rest` counts
abbrev pub further : ℕ → Progress → Progress
further x n = record { counts = n.counts; rest = plus n.rest x }

-- one output more, where there is room
unfoldable pub do_emit : ℕ → ℕ → ℕ → Progress × List ℕ → Progress × List ℕ
do_emit pairs a v w =
    let n = w.0 in
    cond (nat_le pairs (outs_of n))
    (stop_at Outputs n, w.1)
    (further 1 n, slice_set (slice_set w.1 (2 * outs_of n) a) (2 * outs_of n + 1) v)

-- one signal more, where fewer than 32 wait; a signal's number is below 32, so that a byte holds it
unfoldable pub do_raise : ℕ → Progress × List ℕ → Progress × List ℕ
do_raise k w =
    let n = w.0 in
    cond (nat_le (head_of n + 32) (tail_of n))
    (stop_at Signals n, w.1)
    (further 4294967296 n, slice_set w.1 (tail_of n % 32) (k % 256))

abbrev pub on_outs : (Progress × List ℕ → Progress × List ℕ) → Work → Work
on_outs f w = let r = f (w.n, w.outs) in work r.0 w.vars r.1 w.queue

abbrev pub on_queue : (Progress × List ℕ → Progress × List ℕ) → Work → Work
on_queue f w = let r = f (w.n, w.queue) in work r.0 w.vars w.outs r.1

abbrev pub on_var : ℕ → (ℕ → ℕ) → Work → Work
on_var a f w = work w.n (slice_set w.vars a (f (slice_index w.vars a))) w.outs w.queue

unfoldable pub do_item : ℕ → Item → Work → Work
do_item pairs (Emit a) w = on_outs (do_emit pairs a 0) w
do_item pairs (Raise k) w = on_queue (do_raise k.0) w
do_item pairs (WrapAdd a b) w = on_var a (λ x. wrap_add x b) w
do_item pairs (SatAdd a b) w = on_var a (λ x. sat_add x b) w
do_item pairs (Set a b) w = on_var a (λ x. b) w
do_item pairs (Log a b) w = on_outs (do_emit pairs a (slice_index w.vars b)) w

-- items in order, up to a stop
unfoldable pub do_items : ℕ → List Item → Work → Work
do_items pairs [] w = w
do_items pairs (x ∷ xs) w = cond (stopped? w.n) w (do_items pairs xs (do_item pairs x w))

-- the items whose words begin at `at`, one after the other
unfoldable pub items_from : List ℕ → ℕ → ℕ → List Item
items_from t at zero = []
items_from t at (suc k) = item_in (triple_at t at) ∷ items_from t (at + 3) k

-- the items of the span whose two words begin at `at`, of the section that begins where word `base` says
unfoldable pub span_items : List ℕ → ℕ → ℕ → List Item
span_items t base at = many (λ i. item_in (triple_at t (slice_index t base + 3 * i))) (slice_index t at) (slice_index t (at + 1))

-- that span, its items and the word that says where they begin lie inside the table, so that reading them needs no test
pub record ItemsIn (t : List ℕ) (base at : ℕ) : Type 0 where
  pub base_in : base < length t
  pub span_in : at + 1 < length t
  pub items_in : slice_index_or t base 0 + 3 * (slice_index t at + slice_index t (at + 1)) ≤ length t

-- ---- steps
-- one step of a kind
abbrev pub one : Tag → ℕ
one leave = 1048576
one fire = 1099511627776
one enter = 1

-- so much more of what `counts` counts
abbrev pub more : ℕ → Progress → Progress
more x n = record { counts = plus n.counts x; rest = n.rest }

abbrev pub counted : Tag → Progress → Progress
counted g n = more (one g) n

-- The work, and the state words that are to be current when the microstep ends.
pub record Going : Type 0 where
  pub does : Work
  pub words : List ℕ

abbrev pub going : Progress → List ℕ → List ℕ → List ℕ → List ℕ → Going
going n words vars outs queue = record { does = work n vars outs queue; words = words }

abbrev pub tagged : Tag → Work → Work
tagged g w = work (counted g w.n) w.vars w.outs w.queue

unfoldable pub do_step : ℕ → Step → Going → Going
do_step pairs x g = record { does = do_items pairs x.does (tagged x.tag g.does); words = set_all x.sets g.words }

unfoldable pub do_steps : ℕ → List Step → Going → Going
do_steps pairs [] g = g
do_steps pairs (x ∷ xs) g = do_steps pairs xs (do_step pairs x g)

-- ---- a macrostep
abbrev pub micro_done : Progress → Progress
micro_done n = further 281474976710656 n

abbrev pub popped : Progress → Progress
popped n = further 65536 n

-- one more of what is counted
abbrev pub one_more : Counted → Progress → Progress
one_more Fired n = counted fire n
one_more Left n = counted leave n
one_more Entered n = counted enter n
one_more Microstep n = micro_done n
one_more Raised n = further 4294967296 n
one_more Taken n = popped n
one_more Output n = further 1 n

abbrev pub on_n : (Progress → Progress) → Going → Going
on_n f g = record { does = work (f g.does.n) g.does.vars g.does.outs g.does.queue; words = g.words }

-- nothing is left to do: a stop, or no signal waits
unfoldable pub ended? : Progress → Bool
ended? n = stopped? n || head_of n == tail_of n

unfoldable pub turns : ℕ → ℕ → ℕ → Machine → ℕ → Going → Going
turns zero events pairs m e g = on_n (stop_at Microsteps) g
turns (suc f) events pairs m e g =
    let h = on_n micro_done (do_steps pairs (m e g.words g.does.vars) g) in
    cond (ended? h.does.n) h
    (turns f events pairs m (events + slice_index h.does.queue (head_of h.does.n % 32)) (on_n popped h))
