-- The tests of a transition, in the order in which they are made. Assumes nothing.
use mathlib.Core.Path.{◌≡◌, refl}
use mathlib.Core.Bool.{Bool, true, false, ◌&&◌}

-- of an and-state a that is below the scope (b) and can be active with the source (m): x, it has exit items
pub quits_nothing : (a b m x : Bool) → (a && x) ≡ false → (a && (b && (m && x))) ≡ false
quits_nothing true true true x e = e
quits_nothing true true false x e = refl
quits_nothing true false m x e = refl
quits_nothing false b m x e = refl

pub quits_outside : (a b m x : Bool) → b ≡ false → (a && (b && (m && x))) ≡ false
quits_outside true b m x e = rw e refl
quits_outside false b m x e = refl

pub quits_together : (a b m x : Bool) → (a && x) ≡ true → b ≡ true → (a && (b && (m && x))) ≡ m
quits_together true b true x e q = rw (q, e) refl
quits_together true b false x e q = rw q refl
quits_together false b true x e q = e
quits_together false b false x e q = refl
