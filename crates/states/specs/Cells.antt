-- A set of numbers shows a cell for each number below 48: number k is bit k.
use Rattle.std.specs.Prelude.{Bool, false, List}
use Rattle.words.specs.Loops.{many}
use Rattle.marks.specs.Bits.{bit_at}
use Rattle.states.specs.declared.StateSet.{StateSet}

unfoldable pub cells : StateSet → List Bool
cells s = many (bit_at s.bits) 0 48

abbrev pub no_cells : List Bool
no_cells = many (λ k. false) 0 48
