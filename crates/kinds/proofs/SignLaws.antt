-- The bits of a float are its sign's bit and the bits of its magnitude, in either format. Assumes nothing.
use mathlib.Core.Path.{◌≡◌, refl, ap, ◌∙◌}
use Prim.Native.Nat.{ℕ, zero, suc, ◌+◌, ◌*◌, ◌%◌, ◌<◌}
use native.Mathlib.Nat.{mod-eq_of_lt, add-mod_left}
use native.Mathlib.Omega.{arith}
use mathlib.Core.Bool.{Bool, true, false, cond}
use lib.Dec.{T}
use lib.IntN.{ℤ}
use lib.Ieee.{fin, Format, top, fits, to_bits}
use lib.Ieee.Bits.{to_bits-lt}

pub fits_sign : (f : Format) (s : Bool) (m : ℕ) (e : ℤ) → fits f (fin s m e) ≡ fits f (fin false m e)
unfolding fits
fits_sign f s zero e = refl
fits_sign f s (suc m) e = refl

pub sign_bit : (f : Format) (s : Bool) (m : ℕ) (e : ℤ) → to_bits f (fin s m e) ≡ cond s (top f) 0 + to_bits f (fin false m e)
unfolding to_bits
sign_bit f true m e = omega arith
sign_bit f false m e = omega arith

pub magnitude_lt : (f : Format) (m : ℕ) (e : ℤ) → T (fits f (fin false m e)) → to_bits f (fin false m e) < top f
magnitude_lt f m e h =
    let below : to_bits f (fin true m e) < 2 * top f = to_bits-lt f (fin true m e) (rw (fits_sign f true m e) h) in
    omega (arith, sign_bit f true m e)

-- with the sign bit taken off, the magnitude's bits are left
pub bits_below_sign : (f : Format) (s : Bool) (m : ℕ) (e : ℤ) → T (fits f (fin s m e)) → to_bits f (fin s m e) % top f ≡ to_bits f (fin false m e)
bits_below_sign f true m e h = ap (λ (n : ℕ). n % top f) (sign_bit f true m e) ∙ add-mod_left (top f) (to_bits f (fin false m e)) ∙ mod-eq_of_lt (magnitude_lt f m e (rw (fits_sign f true m e) at h))
bits_below_sign f false m e h = mod-eq_of_lt (magnitude_lt f m e h)
