-- Machines whose microsteps agree give every event the same answer. Assumes nothing.
use Prim.Native.Nat.{ℕ, zero, suc, ◌+◌, ◌≤◌}
use mathlib.Core.Path.{◌≡◌, refl, sym, ap, ap₂}
use mathlib.Core.List.{List, [], ◌∷◌}
use native.Mathlib.Nat.{le_refl}
use native.Mathlib.Omega.{arith}
use Rattle.effects.specs.Run.{Result, ok, refuse, ◌>>=◌, Env, items, Step, Machine, does_of, sets_of, set_all, St, after, steps, with_queue, next, loop, start, macrostep}
use Rattle.flatten_meaning.specs.Simulation.{Both, both_ok, both_refuse, counts, Like, Agree}

both_bind : {A B C D : Type 0} {R : A → B → Type 0} {S : C → D → Type 0} {x : Result A} {y : Result B}
    (f : A → Result C) (g : B → Result D) → Both R x y → ((a : A) (b : B) → R a b → Both S (f a) (g b))
    → Both S (x >>= f) (y >>= g)
both_bind f g (both_ok {a = a} {b = b} r) h = h a b r
both_bind f g both_refuse h = both_refuse

both_refl : {A : Type 0} (x : Result A) → Both (λ (a b : A). a ≡ b) x x
both_refl (ok a) = both_ok refl
both_refl (refuse r) = both_refuse

both_same : {A : Type 0} {x y : Result A} → x ≡ y → Both (λ (a b : A). a ≡ b) x y
both_same {y = y} e = rw e (both_refl y)

module _ (R : List ℕ → List ℕ → Type 0) (m m' : Machine) (agree : Agree R m m') (events pairs : ℕ) where
  abbrev Alike : Result St → Result St → Type 0
  Alike = Both (Like R)

  -- steps with the same items from states that are alike
  done_like : (s s' : St) → Like R s s' → (xs ys zs : List Step) → zs ≡ ys
      → items pairs (does_of xs) s.env ≡ items pairs (does_of ys) s'.env
      → R (set_all (sets_of xs) s.words) (set_all (sets_of ys) s'.words) → counts ys ≤ counts xs
      → Alike (steps pairs xs s) (steps pairs zs s')
  unfolding steps after
  done_like s s' l xs ys zs q run r k =
      rw q
      (both_bind (λ v. ok (after xs s v)) (λ v. ok (after ys s' v)) (both_same run)
      (λ a b p. both_ok (record { words = r; env = p; micro = ap suc l.micro; fired = omega (arith, l.fired) })))

  steps_like : (e : ℕ) (s s' : St) → Like R s s'
      → Alike (steps pairs (m e s.words s.env.vars) s) (steps pairs (m' e s'.words s'.env.vars) s')
  steps_like e s s' l =
      let x = s.words in
      let y = s'.words in
      let vars = s.env.vars in
      done_like s s' l (m e x vars) (m' e y vars) (m' e y s'.env.vars)
      (ap (λ (v : Env). m' e y v.vars) (sym l.env))
      (ap₂ (items pairs) (sym (agree.does e x y vars l.words)) l.env)
      (agree.words e x y vars l.words) (agree.fewer e x y vars l.words)

  next_like : (q q' : List ℕ) → q ≡ q' → (go go' : ℕ → St → Result St)
      → ((e : ℕ) (s s' : St) → Like R s s' → Alike (go e s) (go' e s'))
      → (s s' : St) → Like R s s' → Alike (next events go q s) (next events go' q' s')
  unfolding next with_queue
  next_like q q' e go go' h s s' l = rw (← e) (each q)
    where
      each : (q : List ℕ) → Alike (next events go q s) (next events go' q s')
      each [] = both_ok l
      each (k ∷ q) =
          h (events + k) (with_queue q s) (with_queue q s')
          (record {
            words = l.words;
            env = ap (λ (v : Env). record { vars = v.vars; outs = v.outs; queue = q }) l.env;
            micro = l.micro;
            fired = l.fired;
          })

  loop_like : (more e : ℕ) (s s' : St) → Like R s s' → Alike (loop more events pairs m e s) (loop more events pairs m' e s')
  unfolding loop
  loop_like zero e s s' l = both_refuse
  loop_like (suc more) e s s' l =
      both_bind _ _ (steps_like e s s' l)
      (λ a b k. next_like a.env.queue b.env.queue (ap (λ (v : Env). v.queue) k.env) _ _ (loop_like more) a b k)

  pub macrostep_like : (e : ℕ) (x y vars : List ℕ) → R x y
      → Both (Like R) (macrostep events pairs m e x vars) (macrostep events pairs m' e y vars)
  unfolding macrostep start
  macrostep_like e x y vars r =
      loop_like 64 e (start x vars) (start y vars) (record { words = r; env = refl; micro = refl; fired = le_refl 0 })
