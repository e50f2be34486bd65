-- The two tests of a coordinate. Assumes nothing.
use mathlib.Core.Path.{◌≡◌, refl, sym, ap, ◌∙◌}
use mathlib.Core.Logic.{inl, inr}
use Prim.Native.Nat.{ℕ, ◌*◌, ◌<◌}
use native.Mathlib.Nat.{eq-zero-or-pos, mul-pos, zero-mul, mul-one}
use native.Mathlib.Omega.{arith}
use mathlib.Core.Bool.{true, false}
use lib.Dec.{T, eqb}
use borrow.Author.Tests.{eq-eqb, ne_eqb}
use denote.Floats.{passes}
use lib.IntN.{ℤ}
use lib.Ieee.{Float, nan, inf, fin, binary32, up, is_nan, fits, to_bits}
use lib.Ieee.Fits.{up_pos}
use lib.Ieee.Scale.{finite}
use Rattle.std.specs.Float.{float_is_finite}
use Rattle.kinds.proofs.SignLaws.{sign_bit}
use Rattle.kinds.proofs.Compared.{bits, nothing, something}
use Rattle.table.specs.Rules.{is_zero}

pub finite_is : (x : Float) → float_is_finite x ≡ finite x
unfolding float_is_finite
finite_is nan = refl
finite_is (inf s) = refl
finite_is (fin s m e) = refl

-- ---- all zero bits

pub nan_is : (x : Float) → is_nan x ≡ true → false ≡ is_zero x
unfolding is_zero is_nan
nan_is nan e = refl
nan_is (inf s) e = refl
nan_is (fin s m n) e = absurd (cc)

magnitude : (m : ℕ) (e : ℤ) → T (fits binary32 (fin false m e)) → eqb (bits m e) 0 ≡ eqb m 0
magnitude m e h = elim (eq-zero-or-pos m) [
  | inl z ↦ eq-eqb (bits m e) 0 (nothing m e 1 (omega arith) h (mul-one (m * up e) ∙ ap (λ (n : ℕ). n * up e) z ∙ zero-mul (up e))) ∙ sym (eq-eqb m 0 z)
  | inr p ↦
      let some : 0 < bits m e = something m e 1 (omega arith) h (rw (mul-one (m * up e)) (mul-pos p (up_pos e))) in
      ne_eqb (bits m e) 0 (λ z. omega arith) ∙ sym (ne_eqb m 0 (λ z. omega arith))
]

pub zero_bits : (x : Float) → fits binary32 x ≡ true → is_nan x ≡ false → eqb (to_bits binary32 x) 0 ≡ is_zero x
unfolding is_zero is_nan to_bits
zero_bits nan f h = absurd (cc)
zero_bits (inf true) f h = refl
zero_bits (inf false) f h = refl
zero_bits (fin true m e) f h = ne_eqb (to_bits binary32 (fin true m e)) 0 (λ z. omega (arith, sign_bit binary32 true m e))
zero_bits (fin false m e) f h = magnitude m e (passes (fits binary32 (fin false m e)) f)
