-- The counts of a flat table and the places of its sections, as they stand in its header.
use Rattle.std.specs.Prelude.{ℕ, ◌≡◌, List, ◌++◌, length}
use Rattle.flatten_meaning.specs.Tables.{Table}
use Rattle.flatten_meaning.specs.Encoded.{all_literals, states_at, guards_at, literals_at, items_at, rules_at, total, header}
use Rattle.flatten_head.specs.declared.Sizes.{Sizes}
use Rattle.flatten_head.specs.declared.Places.{Places}

pub record SizesOf (g : Table) (s : Sizes) : Type 0 where
  pub machines_are : s.machines ≡ length g.initials
  pub states_are : s.states ≡ length g.owners
  pub guards_are : s.guards ≡ length g.guards
  pub literals_are : s.literals ≡ length (all_literals g)
  pub rules_are : s.rules ≡ length g.rules

pub record PlacesOf (g : Table) (p : Places) : Type 0 where
  pub states_at : p.states ≡ states_at g
  pub guards_at : p.guards ≡ guards_at g
  pub literals_at : p.literals ≡ literals_at g
  pub items_at : p.items ≡ items_at g
  pub rules_at : p.rules ≡ rules_at g
  pub ends_at : p.total ≡ total g

-- The header, and the first two sections behind it.
unfoldable pub heading : Table → List ℕ
heading g = header g ++ (g.initials ++ g.owners)
