-- The parts of a chart's flat table: what their words are, how many records they have, and that they are the whole. Assumes
-- nothing.
use Prim.Native.Nat.{ℕ, ◌+◌, ◌*◌, ◌≤◌, ◌<◌}
use mathlib.Core.Path.{◌≡◌, refl, ap}
use mathlib.Core.Bool.{true, false}
use mathlib.Core.List.{List, ◌++◌, append_assoc}
use native.Mathlib.Omega.{arith}
use lib.ListN.{length, length-append}
use Rattle.chart.specs.View.{Chart, view}
use Rattle.chart_rules.specs.Rules.{ChartRules}
use Rattle.flatten_meaning.specs.Tables.{Table}
use Rattle.flatten_meaning.specs.Flattened.{all_guards, flattened}
use Rattle.flatten_meaning.specs.Encoded.{all_literals, guard_words, literal_words, item_words, rule_words, header, encode}
use Rattle.flatten_meaning.proofs.Encoded.{guard_words_lem, literal_words_lem, item_words_lem, rule_words_lem, encode_length}
use Rattle.flatten_meaning.proofs.Machines.{machines_are, states_are, all_states}
use Rattle.flatten_meaning.proofs.Bounds.{guards_bound_lem, guards_few, literals_bound_lem, literals_range, rules_bound_lem, rules_few, total_in_room, room_few}
use Rattle.flatten_laying.specs.Lay.{lay}
use Rattle.flatten_laying.specs.Laid.{Laid}
use Rattle.flatten_laying.proofs.Laid.{laid_as}
use Rattle.flatten_guards.specs.Parts.{literals_in, part, moved}
use Rattle.flatten_guards.specs.declared.Pen.{Pen}
use Rattle.flatten_head.specs.Sizes.{heading}
use Rattle.flatten.specs.Numbers.{sections}

-- ---- the guards' two sections
module _ (c : Chart) where
  abbrev g : Table
  g = flattened c

  spans_are : part true 0 (all_guards c) ≡ guard_words g
  unfolding part guard_words flattened
  spans_are = refl

  literals_are : part false 0 (all_guards c) ≡ literal_words g
  unfolding part literal_words all_literals flattened
  literals_are = refl

  literals_count : length (literals_in (all_guards c)) ≡ length (all_literals g)
  unfolding all_literals flattened
  literals_count = refl

  -- a pen that has passed all guards' spans from 0 on tells how many guards and literals there are
  pub guards_counted : {p : Pen} → p ≡ moved true (all_guards c) (record { at = 0; first = 0 })
      → (p.at ≡ 2 * length g.guards) × (p.first ≡ length (all_literals g))
  guards_counted e = (
    omega (arith, ap (λ (p : Pen). p.at) e, ap length spans_are, guard_words_lem g),
    omega (arith, ap (λ (p : Pen). p.first) e, literals_count),
  )

  pub rules_counted : {n : ℕ} → n ≡ 0 + length (rule_words g) → n ≡ 6 * length g.rules
  rules_counted e = omega (arith, e, rule_words_lem g)

  -- one section is laid
  pub spans_laid : {at : ℕ} {p : Pen} (room : List ℕ) {after : List ℕ}
      → p ≡ moved true (all_guards c) (record { at = at; first = 0 }) → after ≡ lay at (part true 0 (all_guards c)) room → Laid at (guard_words g) room p.at after
  spans_laid room e l = laid_as spans_are (record { place = ap (λ (p : Pen). p.at) e; laid = l })

  pub literals_laid : {at : ℕ} {p : Pen} (room : List ℕ) {after : List ℕ}
      → p ≡ moved false (all_guards c) (record { at = at; first = 0 }) → after ≡ lay at (part false 0 (all_guards c)) room → Laid at (literal_words g) room p.at after
  literals_laid room e l = laid_as literals_are (record { place = ap (λ (p : Pen). p.at) e; laid = l })

-- ---- the whole
pub heading_laid : (g : Table) {next : ℕ} (room : List ℕ) {after : List ℕ} → next ≡ length (heading g)
    → after ≡ lay 0 (heading g) room → Laid 0 (heading g) room next after
heading_laid g room e l = record { place = omega (arith, e); laid = l }

pub encode_is : (g : Table) → heading g ++ sections g ≡ encode g
unfolding heading sections encode
encode_is g = simp append_assoc

pub encode_long : (g : Table) {n m : ℕ} → n ≡ length (heading g) → m ≡ n + length (sections g) → m ≡ length (encode g)
encode_long g a b = omega (arith, a, b, length-append (heading g) (sections g), ap length (encode_is g))

-- ---- how large they are
module _ {t : List ℕ} (r : ChartRules t) where
  abbrev gt : Table
  gt = flattened (view t)

  pub encode_few : length (encode gt) ≤ 52162
  encode_few = omega (arith, encode_length gt, total_in_room (view t), room_few r)

  pub heading_few : length (heading gt) ≤ 66
  unfolding heading header
  heading_few =
      omega (
        arith,
        length-append gt.initials gt.owners,
        machines_are (view t),
        states_are (view t),
        all_states (view t),
        r.counts.states.1,
      )

  -- where the heading ends, and the whole
  pub heading_end : {n : ℕ} → n ≡ length (heading gt) → n < 1000
  heading_end e = omega (arith, e, heading_few)

  pub encode_end : {n : ℕ} → n ≡ length (encode gt) → n < 4294967296
  encode_end e = omega (arith, e, encode_few)

  pub guards_most : length gt.guards ≤ 2351
  guards_most = omega (arith, guards_bound_lem (view t), guards_few r)

  pub literals_most : length (all_literals gt) ≤ 6166
  literals_most = omega (arith, literals_bound_lem (view t), literals_range r)

  pub rules_most : length gt.rules ≤ 4560
  rules_most = omega (arith, rules_bound_lem (view t), rules_few r)

  -- where the guards' sections end
  pub spans_end : {at : ℕ} {p : Pen} → at < 1000 → p ≡ moved true (all_guards (view t)) (record { at = at; first = 0 })
      → p.at < 6000
  spans_end h e =
      omega (arith, h, ap (λ (p : Pen). p.at) e, ap length (spans_are (view t)), guard_words_lem gt, guards_most)

  pub literals_end : {at : ℕ} {p : Pen} → at < 6000 → p ≡ moved false (all_guards (view t)) (record { at = at; first = 0 })
      → p.at < 25000
  literals_end h e =
      omega (arith, h, ap (λ (p : Pen). p.at) e, ap length (literals_are (view t)), literal_words_lem gt, literals_most)

  -- the items' words
  pub items_most : length (item_words gt) ≤ 1536
  unfolding flattened
  items_most = omega (arith, item_words_lem gt, r.counts.items.1)
