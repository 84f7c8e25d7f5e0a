-- `flatten_head::lay_counts` meets its contract: four times three words are laid. Assumes nothing.
use Prim.Native.Nat.{ℕ}
use mathlib.Core.Path.{◌∙◌}
use mathlib.Core.List.{List, [], ◌∷◌, ◌++◌}
use Rattle.flatten_laying.proofs.Lay.{lay_both}
use Rattle.flatten_head.proofs.Sections.{same_counts}
use Rattle.flatten_head.proofs.lay_counts.Goals as goal

pub returns : goal.returns
returns c =
    let s = c.args in
    let room = s.room.now in
    let z = s.s in
    let events = c.word in
    let signals = c.word-2 in
    let outputs = c.word-3 in
    let variables = c.word-4 in
    let items = c.word-5 in
    let one : List ℕ = 2 ∷ s.total ∷ z.machines ∷ [] in
    let two : List ℕ = z.states ∷ events.result ∷ signals.result ∷ [] in
    let three : List ℕ = outputs.result ∷ variables.result ∷ z.guards ∷ [] in
    let four : List ℕ = z.literals ∷ items.result ∷ z.rules ∷ [] in
    let six = lay_both 0 room one two c.put_triple.ensures.room c.put_triple-2.ensures.room in
    let nine = lay_both 0 room (one ++ two) three six c.put_triple-3.ensures.room in
    let twelve = lay_both 0 room ((one ++ two) ++ three) four nine c.put_triple-4.ensures.room in
    twelve
    ∙ same_counts room s.total z.machines z.states z.guards z.literals z.rules
    events.ensures signals.ensures outputs.ensures variables.ensures items.ensures
