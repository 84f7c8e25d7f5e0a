-- What the check's answer makes of a call: it goes on where the answer is done, and says the refusal where it is one. Assumes nothing.
use Rattle.std.proofs.Common.{◌≡◌, ℕ, cond, eqb, sym, refl, ap, ◌∙◌}
use Rattle.words.proofs.Tests.{clash}
use Rattle.table.specs.Answers.{told, refusal_told}
use Rattle.table.specs.declared.Refusal.{Refusal}
use Rattle.std.specs.Prelude.{⊤, Result, Ok, Err, IsErrAnd}
use Rattle.table.proofs.Answers.{refusal_not_0}

module _ {A : Type 0} (a : ℕ × ℕ) (goes_on : A) (refused : ℕ × ℕ → A) (v : Result ⊤ Refusal) (is : told v ≡ a) where
  -- what a call gives, by the answer a of the check
  abbrev given : A
  given = cond (eqb a.0 0) goes_on (refused a)

  pub call_accepted : v ≡ Ok tt → given ≡ goes_on
  call_accepted h = rw (sym is ∙ ap told h) refl

  pub call_refused : (r : Refusal) → v ≡ Err r → given ≡ refused (refusal_told r)
  call_refused r h = rw (sym is ∙ ap told h, refusal_not_0 r) refl

-- a refusal that `?` hands on is handed on as it is
pub handed_on : {T : Type 0} (r : Result T Refusal) {e : Refusal} → IsErrAnd r (λ x. x ≡ e) → r ≡ Err e
handed_on (Ok x) h = absurd h
handed_on (Err x) h = ap Err h

-- an answer that is done is none of a refusal
pub done_not_refused : {X : Type 0} (r : Refusal) → (0, 0) ≡ refusal_told r → X
done_not_refused r e = clash (eqb (refusal_told r).0 0) (ap (λ (x : ℕ × ℕ). eqb x.0 0) (sym e)) (refusal_not_0 r)
