-- 01: "A signal's own number and its trigger are two countings."
use Rattle.std.specs.Prelude.{ℕ, ◌+◌}
use Rattle.table.specs.declared.Signal.{Signal}
use Rattle.table.specs.declared.Trigger.{Trigger}

-- 01, Transition: "signal k is trigger e+k".
abbrev pub trigger_of : Signal → ℕ → Trigger
trigger_of s e = record { 0 = e + s.0 }
