-- An answer is determined by its number and place, and 0 is no refusal's number. Assumes nothing.
use Prim.Native.Nat.{ℕ}
use mathlib.Core.Path.{◌≡◌, refl, sym, ap, ◌∙◌}
use mathlib.Core.Bool.{Bool, true, false}
use mathlib.Core.List.{List, [], ◌∷◌}
use lib.ListN.{get_or}
use lib.Dec.{eqb}
use Rattle.std.specs.Prelude.{⊤, Result, Ok, Err}
use Rattle.words.proofs.Tests.{by_bool, clash, eqb_eq}
use Rattle.table.specs.Answers.{refusal_told, told}
use Rattle.table.specs.declared.Refusal.{Refusal}
use Rattle.table.specs.declared.Refusal.TheVariants.{ChartForm, ChartCount, ChartLayout, ChartTree, ChartSpan, ChartLiteral, ChartItem, ChartSource, ChartTargets, FlatForm, FlatCount, FlatLayout, FlatMachine, FlatSpan, FlatLiteral, FlatItem, FlatRule, NoEvent, Signals, Outputs, Microsteps, State, Room}

-- the answer of each number, at place p; 10, 19 and 25 to 30 are no answers
answers : ℕ → List (Result ⊤ Refusal)
answers p =
    Ok tt ∷ Err ChartForm ∷ Err ChartCount ∷ Err ChartLayout ∷ Err (ChartTree p) ∷ Err (ChartSpan p)
    ∷ Err (ChartLiteral p) ∷ Err (ChartItem p) ∷ Err (ChartSource p) ∷ Err (ChartTargets p) ∷ Ok tt
    ∷ Err FlatForm ∷ Err FlatCount ∷ Err FlatLayout ∷ Err (FlatMachine p) ∷ Err (FlatSpan p)
    ∷ Err (FlatLiteral p) ∷ Err (FlatItem p) ∷ Err (FlatRule p) ∷ Ok tt ∷ Err NoEvent ∷ Err Signals
    ∷ Err Outputs ∷ Err Microsteps ∷ Err State ∷ Ok tt ∷ Ok tt ∷ Ok tt ∷ Ok tt ∷ Ok tt ∷ Ok tt ∷ Err Room ∷ []

read : ℕ × ℕ → Result ⊤ Refusal
read a = get_or (answers a.1) a.0 (Ok tt)

read_told : (v : Result ⊤ Refusal) → read (told v) ≡ v
unfolding read answers
read_told (Ok tt) = refl
read_told (Err r) = go r
  where
    go : (r : Refusal) → read (refusal_told r) ≡ Err r
    go ChartForm = refl
    go ChartCount = refl
    go ChartLayout = refl
    go (ChartTree p) = refl
    go (ChartSpan p) = refl
    go (ChartLiteral p) = refl
    go (ChartItem p) = refl
    go (ChartSource p) = refl
    go (ChartTargets p) = refl
    go FlatForm = refl
    go FlatCount = refl
    go FlatLayout = refl
    go (FlatMachine p) = refl
    go (FlatSpan p) = refl
    go (FlatLiteral p) = refl
    go (FlatItem p) = refl
    go (FlatRule p) = refl
    go NoEvent = refl
    go Signals = refl
    go Outputs = refl
    go Microsteps = refl
    go State = refl
    go Room = refl

pub told_once : (v u : Result ⊤ Refusal) → told v ≡ told u → v ≡ u
told_once v u e = sym (read_told v) ∙ ap read e ∙ read_told u

pub refusal_once : (r q : Refusal) → refusal_told r ≡ refusal_told q → r ≡ q
refusal_once r q e = let same = told_once (Err r) (Err q) e in cc

done? : Result ⊤ Refusal → Bool
done? (Ok x) = true
done? (Err r) = false

pub refusal_not_0 : (r : Refusal) → eqb (refusal_told r).0 0 ≡ false
unfolding read answers done?
refusal_not_0 r =
    by_bool (eqb (refusal_told r).0 0)
    (λ e. let z : (refusal_told r).0 ≡ 0 = eqb_eq (refusal_told r).0 0 e in
    clash (done? (read (refusal_told r))) (rw z refl) (ap done? (read_told (Err r))))
    (λ e. e)
