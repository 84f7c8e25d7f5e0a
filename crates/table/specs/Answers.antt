-- 01, What a call can say: the number and the place of every answer. Promises speak of answers by `told` alone.
use Rattle.std.specs.Prelude.{ℕ, Result, Ok, Err}
use Rattle.table.specs.declared.Refusal.{Refusal}
use Rattle.table.specs.declared.Refusal.TheVariants.{ChartForm, ChartCount, ChartLayout, ChartTree, ChartSpan, ChartLiteral, ChartItem, ChartSource, ChartTargets, FlatForm, FlatCount, FlatLayout, FlatMachine, FlatSpan, FlatLiteral, FlatItem, FlatRule, NoEvent, Signals, Outputs, Microsteps, State, Room}

-- A refusal's number and place; "a place not named is 0".
abbrev pub refusal_told : Refusal → ℕ × ℕ
refusal_told ChartForm = (1, 0)
refusal_told ChartCount = (2, 0)
refusal_told ChartLayout = (3, 0)
refusal_told (ChartTree p) = (4, p)
refusal_told (ChartSpan p) = (5, p)
refusal_told (ChartLiteral p) = (6, p)
refusal_told (ChartItem p) = (7, p)
refusal_told (ChartSource p) = (8, p)
refusal_told (ChartTargets p) = (9, p)
refusal_told FlatForm = (11, 0)
refusal_told FlatCount = (12, 0)
refusal_told FlatLayout = (13, 0)
refusal_told (FlatMachine p) = (14, p)
refusal_told (FlatSpan p) = (15, p)
refusal_told (FlatLiteral p) = (16, p)
refusal_told (FlatItem p) = (17, p)
refusal_told (FlatRule p) = (18, p)
refusal_told NoEvent = (20, 0)
refusal_told Signals = (21, 0)
refusal_told Outputs = (22, 0)
refusal_told Microsteps = (23, 0)
refusal_told State = (24, 0)
refusal_told Room = (31, 0)

-- 0 is done, whatever is handed back.
abbrev pub told : {T : Type 0} → Result T Refusal → ℕ × ℕ
told (Ok x) = (0, 0)
told (Err r) = refusal_told r
