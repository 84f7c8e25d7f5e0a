-- What the counts of a run print as.
use Rattle.std.specs.Prelude.{ℕ, List, ◌++◌, codes, decimal}
use Rattle.answers.specs.declared.Counts.{Counts}

-- Microsteps, transitions taken, states left and states entered, in decimal, with spaces between.
abbrev pub steps_text : Counts → List ℕ
steps_text c =
    decimal c.microsteps ++ (codes " " ++ (decimal c.taken ++ (codes " " ++ (decimal c.left ++ (codes " " ++ decimal c.entered)))))
