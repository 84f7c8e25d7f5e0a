-- Rules 14 to 18 of specs/Rules.antt as tests, one for each rule and place.
use Rattle.std.specs.Prelude.{ℕ, ◌+◌, ◌-◌, Bool, ◌&&◌, ◌||◌, cond, eqb, ltb}
use Rattle.words.specs.Loops.{all_below}
use Rattle.table.specs.Rows.{good_item_in?}
use Rattle.table.specs.Span.{inside?}
use Rattle.flat.specs.View.{Flat, flat_item_counts, of_machine?}

-- rule 14: the places are the machines and then the states
abbrev pub good_machine? : Flat → ℕ → Bool
good_machine? f m = of_machine? f m (f.initial m)

abbrev pub good_flat_state? : Flat → ℕ → Bool
good_flat_state? f j = ltb (f.machine j) f.machines

unfoldable pub good_machines? : Flat → ℕ → Bool
good_machines? f p = cond (ltb p f.machines) (good_machine? f p) (good_flat_state? f (p - f.machines))

-- rule 15
abbrev pub good_span? : Flat → ℕ → Bool
good_span? f k = inside? (f.asks k) f.literals

-- rule 16: a literal that guard k holds
abbrev pub state_literal? : Flat → ℕ → ℕ → Bool
state_literal? f a b = ltb a f.states && eqb b 0

abbrev pub guard_literal? : ℕ → ℕ → ℕ → ℕ → Bool
guard_literal? k kind a b = ltb kind 6 && (ltb a k && eqb b 0)

unfoldable pub good_flat_literal? : Flat → ℕ → ℕ → ℕ → ℕ → Bool
good_flat_literal? f k kind a b =
    cond (ltb kind 2) (state_literal? f a b) (cond (ltb kind 4) (ltb a f.variables) (guard_literal? k kind a b))

abbrev pub flat_literal_kept : Flat → ℕ → ℕ → Bool
flat_literal_kept f k i = good_flat_literal? f k (f.literal i).kind (f.literal i).a (f.literal i).b

unfoldable pub good_guard? : Flat → ℕ → Bool
good_guard? f k = all_below (λ i. flat_literal_kept f k ((f.asks k).first + i)) (f.asks k).count

-- rule 17
abbrev pub flat_item_kept : Flat → ℕ → Bool
flat_item_kept f i = good_item_in? (flat_item_counts f) (f.item i)

-- rule 18
abbrev pub good_flat_target? : Flat → ℕ → Bool
good_flat_target? f k = eqb (f.target k) 65535 || ltb (f.target k) f.states

abbrev pub good_names? : Flat → ℕ → Bool
good_names? f k =
    ltb (f.trigger k) (f.events + f.signals) && (ltb (f.first_guard k) f.guards && ltb (f.second_guard k) f.guards)

unfoldable pub good_rule? : Flat → ℕ → Bool
good_rule? f k = good_names? f k && (inside? (f.does k) f.items && good_flat_target? f k)
