-- Laws of 16-bit words read as signed numbers.
use Prim.Native.Nat.{ℕ, suc, ◌<◌, ◌≤◌}
use mathlib.Core.Path.{◌≡◌, refl, ap}
use mathlib.Core.Bool.{Bool, true, false}
use native.Mathlib.Omega.{arith}
use borrow.Author.Tests.{lt-ltb, le-ltb, ltb-true, ltb-false}
use lib.Dec.{ltb, lit<}
use lib.IntN.{ℤ, pos, negsuc, ◌+ℤ◌, ◌-ℤ◌, sub_ℕ}
use lib.Signed.{lt_z}
use mir.Facts.{to_z-of_z, sfits_to_z, sfits_widen}
use mir.Syntax.{w16, w32}
use mir.Val.{Fits, SFits, to_z, of_z}
use Rattle.words.specs.Signed.{clip}

-- what is read of a word, read back from 32 bits
pub read : (x : ℕ) (r : ℤ) → Fits w16 x → r ≡ to_z w16 x → to_z w32 (of_z w32 r) ≡ to_z w16 x
read x r f e = rw e (to_z-of_z {w = w32} (sfits_widen {w = w16} {w' = w32} tt (sfits_to_z f)))

-- a negative number of 16 bits, with 65536 added, is its word
pub back : (s : ℤ) → SFits w16 s → lt_z s (pos 0) ≡ true → s +ℤ pos 65536 ≡ pos (of_z w16 s)
back (pos n) f h = let z : n < 0 = ltb-true _ _ h in ap pos (omega arith)
back (negsuc n) f h = simp (le-ltb 65536 (suc n) (omega (arith, f.sfits)))

pub small : (s : ℤ) → SFits w16 s → SFits w32 (pos (of_z w16 s))
small (pos n) f = record { sfits = omega (arith, f.sfits) }
small (negsuc n) f = record { sfits = omega arith }

pub fits : (s : ℤ) → SFits w16 s → Fits w16 (of_z w16 s)
fits (pos n) f = record { fits = omega (arith, f.sfits) }
fits (negsuc n) f = record { fits = omega arith }

pub nonneg : (s : ℤ) → lt_z s (pos 0) ≡ false → s ≡ pos (of_z w16 s)
nonneg (pos n) h = refl
nonneg (negsuc n) h = cc

pub low : (x : ℕ) → x < 32768 → to_z w32 x ≡ to_z w16 x
low x h = simp (lt-ltb x 32768 h, lt-ltb x 2147483648 (omega arith))

pub high : (x : ℕ) → Fits w16 x → 32768 ≤ x → to_z w32 x -ℤ pos 65536 ≡ to_z w16 x
high x f h = simp (le-ltb x 32768 h, lt-ltb x 2147483648 (omega arith), lt-ltb x 65536 f.fits)

diff : (t : Bool) (m n : ℕ) → ltb m n ≡ t → m < 32768 → n ≤ 32768 → SFits w32 (sub_ℕ m n)
diff true m n e f g = rw e (record { sfits = omega arith })
diff false m n e f g = rw e (record { sfits = omega arith })

-- the sum of two numbers of 16 bits is one of 32
pub sum : (a b : ℤ) → SFits w16 a → SFits w16 b → SFits w32 (a +ℤ b)
sum (pos m) (pos n) f g = record { sfits = omega (arith, f.sfits, g.sfits) }
sum (pos m) (negsuc n) f g = diff _ m (suc n) refl f.sfits (omega (arith, g.sfits))
sum (negsuc m) (pos n) f g = diff _ n (suc m) refl g.sfits (omega (arith, f.sfits))
sum (negsuc m) (negsuc n) f g = record { sfits = omega (arith, f.sfits, g.sfits) }

-- what lies within both ends is a number of 16 bits
within : (s : ℤ) → lt_z s (negsuc 32767) ≡ false → lt_z (pos 32767) s ≡ false → SFits w16 s
within (pos n) p q = record { sfits = omega (arith, ltb-false 32767 n q) }
within (negsuc n) p q = record { sfits = omega (arith, ltb-false 32767 n p) }

at_ends : (t u : Bool) (s : ℤ) → lt_z s (negsuc 32767) ≡ t → lt_z (pos 32767) s ≡ u → SFits w16 (clip s)
at_ends true u s p q = rw p (record { sfits = lit< tt })
at_ends false true s p q = rw (p, q) (record { sfits = lit< tt })
at_ends false false s p q = rw (p, q) (within s p q)

pub clip_fits : (s : ℤ) → SFits w16 (clip s)
clip_fits s = at_ends _ _ s refl refl

pub clip_back : (s : ℤ) → to_z w32 (of_z w32 (clip s)) ≡ clip s
clip_back s = to_z-of_z {w = w32} {z = clip s} (sfits_widen {w = w16} {w' = w32} {z = clip s} tt (clip_fits s))
