-- `flatten_head::lay_places` meets its contract: two times three words are laid. Assumes nothing.
use mathlib.Core.List.{[], ◌∷◌}
use Rattle.flatten_laying.proofs.Lay.{lay_both}
use Rattle.flatten_head.proofs.lay_places.Goals as goal

pub returns : goal.returns
returns c =
    let s = c.args in
    let p = s.p in
    lay_both 12 s.room.now (18 ∷ p.states ∷ p.guards ∷ []) (p.literals ∷ p.items ∷ p.rules ∷ [])
    c.put_triple.ensures.room c.put_triple-2.ensures.room
