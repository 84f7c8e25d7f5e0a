-- What items do, and how a macrostep goes, for any machine: a machine says which steps a microstep takes, and all else is
-- here. The chart and the flat table are two machines.
use Rattle.std.specs.Prelude.{ℕ, zero, suc, ◌+◌, ◌*◌, cond, List, [], ◌∷◌, ◌++◌, length, nat_lt, slice_index, slice_set}
use Rattle.words.specs.Signed.{wrap_add, sat_add}
use Rattle.words.specs.Loops.{joined}
use Rattle.table.specs.declared.Item.{Item}
use Rattle.table.specs.declared.Item.TheVariants.{Emit, Raise, WrapAdd, SatAdd, Set, Log}
use Rattle.table.specs.declared.Refusal.{Refusal}
use Rattle.table.specs.declared.Refusal.TheVariants.{Signals, Outputs, Microsteps}

infixl 20 ◌>>=◌
-- Something done, or a refusal.
pub data Result (A : Type 0) : Type 0 where
  ok : A → Result A
  refuse : Refusal → Result A

module _ {A B : Type 0} where
  abbrev pub ◌>>=◌ : Result A → (A → Result B) → Result B
  ◌>>=◌ (ok a) f = f a
  ◌>>=◌ (refuse r) f = refuse r

-- 01, One macrostep, 6: "Items act at once on running variables, outputs and queue. An output is a pair (number, value)".
pub record Env : Type 0 where
  pub vars : List ℕ
  pub outs : List (ℕ × ℕ)
  pub queue : List ℕ

-- 22: "an output beyond 256 or beyond the lent pairs". `pairs` is the smaller of the two numbers.
unfoldable pub emit_to : ℕ → ℕ → ℕ → Env → Result Env
emit_to pairs a v s =
    cond (nat_lt (length s.outs) pairs)
    (ok (record { vars = s.vars; outs = s.outs ++ ((a, v) ∷ []); queue = s.queue })) (refuse Outputs)

-- 21: "a raise while 32 signals wait".
unfoldable pub raise_to : ℕ → Env → Result Env
raise_to k s =
    cond (nat_lt (length s.queue) 32)
    (ok (record { vars = s.vars; outs = s.outs; queue = s.queue ++ (k ∷ []) })) (refuse Signals)

unfoldable pub set_var : ℕ → ℕ → Env → Env
set_var a v s = record { vars = slice_set s.vars a v; outs = s.outs; queue = s.queue }

abbrev pub var : ℕ → Env → ℕ
var a s = slice_index s.vars a

-- 01, Item.
unfoldable pub item : ℕ → Item → Env → Result Env
item pairs (Emit a) s = emit_to pairs a 0 s
item pairs (Raise k) s = raise_to k.0 s
item pairs (WrapAdd a b) s = ok (set_var a (wrap_add (var a s) b) s)
item pairs (SatAdd a b) s = ok (set_var a (sat_add (var a s) b) s)
item pairs (Set a b) s = ok (set_var a b s)
item pairs (Log a b) s = emit_to pairs a (var b s) s

unfoldable pub items : ℕ → List Item → Env → Result Env
items pairs [] s = ok s
items pairs (x ∷ xs) s = item pairs x s >>= items pairs xs

-- 01, Order: "Success writes two words an output and nothing past them": the words lent, with pair k and those behind it
-- written.
unfoldable pub written : ℕ → List (ℕ × ℕ) → List ℕ → List ℕ
written k [] o = o
written k (p ∷ ps) o = written (k + 1) ps (slice_set (slice_set o (2 * k) p.0) (2 * k + 1) p.1)

-- ---- steps
-- What a step is counted as: a state left, a transition or a flat rule that fires, a state entered. 01 calls a transition that
-- fires taken.
pub data Tag : Type 0 where
  leave : Tag
  fire : Tag
  enter : Tag

-- A step of a microstep: its items, and the state words that it sets (place, word) when the microstep ends.
pub record Step : Type 0 where
  pub tag : Tag
  pub does : List Item
  pub sets : List (ℕ × ℕ)

-- A machine: the steps of a microstep, from its trigger and from the state words and variables at its start.
abbrev pub Machine : Type 0
Machine = ℕ → List ℕ → List ℕ → List Step

abbrev pub does_of : List Step → List Item
does_of xs = joined (λ (x : Step). x.does) xs

abbrev pub sets_of : List Step → List (ℕ × ℕ)
sets_of xs = joined (λ (x : Step). x.sets) xs

-- The words after all sets; a later one prevails.
abbrev pub set_all : List (ℕ × ℕ) → List ℕ → List ℕ
set_all [] l = l
set_all (p ∷ ps) l = set_all ps (slice_set l p.0 p.1)

abbrev pub is_leave : Tag → ℕ
is_leave leave = 1
is_leave fire = 0
is_leave enter = 0

abbrev pub is_fire : Tag → ℕ
is_fire leave = 0
is_fire fire = 1
is_fire enter = 0

abbrev pub is_enter : Tag → ℕ
is_enter leave = 0
is_enter fire = 0
is_enter enter = 1

abbrev pub count : (Tag → ℕ) → List Step → ℕ
count f [] = 0
count f (x ∷ xs) = f x.tag + count f xs

-- ---- a macrostep
-- The state in a macrostep, with what it has counted.
pub record St : Type 0 where
  pub words : List ℕ
  pub env : Env
  pub micro : ℕ
  pub left : ℕ
  pub fired : ℕ
  pub entered : ℕ

unfoldable pub after : List Step → St → Env → St
after xs s v = record {
  words = set_all (sets_of xs) s.words;
  env = v;
  micro = suc s.micro;
  left = s.left + count is_leave xs;
  fired = s.fired + count is_fire xs;
  entered = s.entered + count is_enter xs;
}

-- One microstep: all items of its steps in order, then the words.
unfoldable pub steps : ℕ → List Step → St → Result St
steps pairs xs s = items pairs (does_of xs) s.env >>= λ v. ok (after xs s v)

unfoldable pub with_queue : List ℕ → St → St
with_queue q s = record {
  words = s.words;
  env = record { vars = s.env.vars; outs = s.env.outs; queue = q };
  micro = s.micro;
  left = s.left;
  fired = s.fired;
  entered = s.entered;
}

-- 01, One macrostep, 7: "Microsteps repeat, oldest signal first, until the queue is empty"; signal k is trigger
-- `events` + k.
unfoldable pub next : ℕ → (ℕ → St → Result St) → List ℕ → St → Result St
next events go [] s = ok s
next events go (k ∷ q) s = go (events + k) (with_queue q s)

-- 23: "signals wait after 64 microsteps": here after as many as the first number says.
unfoldable pub loop : ℕ → ℕ → ℕ → Machine → ℕ → St → Result St
loop zero events pairs m e s = refuse Microsteps
loop (suc more) events pairs m e s =
    steps pairs (m e s.words s.env.vars) s >>= λ s'. next events (loop more events pairs m) s'.env.queue s'

-- 01, One macrostep, 1: "The event is the first trigger; the signal queue is empty."
unfoldable pub start : List ℕ → List ℕ → St
start words vars = record {
  words = words;
  env = record { vars = vars; outs = []; queue = [] };
  micro = 0;
  left = 0;
  fired = 0;
  entered = 0;
}

unfoldable pub macrostep : ℕ → ℕ → Machine → ℕ → List ℕ → List ℕ → Result St
macrostep events pairs m e words vars = loop 64 events pairs m e (start words vars)
