-- The two sections that tell the guards: their spans, and their literals.
use Rattle.std.specs.Prelude.{ℕ, ◌+◌, Bool, cond, List, length}
use Rattle.words.specs.Loops.{joined}
use Rattle.flat.specs.declared.FlatLiteral.{FlatLiteral}
use Rattle.flatten_meaning.specs.Encoded.{span_row, literal_row, spans_from}
use Rattle.flatten_guards.specs.declared.Pen.{Pen}

-- All literals of these guards.
abbrev pub literals_in : List (List FlatLiteral) → List FlatLiteral
literals_in gs = joined (λ (l : List FlatLiteral). l) gs

-- The words of these guards in one of the sections; their first literal is number `first`.
unfoldable pub part : Bool → ℕ → List (List FlatLiteral) → List ℕ
part spans first gs = cond spans (joined span_row (spans_from first gs)) (joined literal_row (literals_in gs))

-- Where the pen stands behind them: the next word, and the next literal's number.
abbrev pub moved : Bool → List (List FlatLiteral) → Pen → Pen
moved spans gs p = record { at = p.at + length (part spans p.first gs); first = p.first + length (literals_in gs) }
