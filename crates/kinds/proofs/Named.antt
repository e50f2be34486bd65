-- Order numbers that 01 names, and the order number of a negated float. Assumes nothing.
use mathlib.Core.Path.{◌≡◌, refl, sym, ap, ◌∙◌}
use Prim.Native.Nat.{ℕ}
use mathlib.Core.Bool.{Bool, true, false, not}
use lib.Dec.{T}
use lib.IntN.{ℤ, pos, neg_ℤ, neg_ℤ-neg_ℤ}
use lib.Ieee.{Float, nan, inf, fin, binary32, neg, is_nan, fits, to_bits, of_bits}
use Rattle.kinds.specs.Order.{order_of}
use Rattle.kinds.proofs.SignLaws.{fits_sign}
use Rattle.kinds.proofs.Compared.{order_finite}

-- the order number of a pattern of 32 bits
abbrev at : ℕ → ℤ
at bits = order_of (of_bits binary32 bits)

-- "Both zeros give 0."
pub both_zeros : (at 0 ≡ pos 0) × (at 0x8000_0000 ≡ pos 0)
unfolding order_of is_nan to_bits of_bits
both_zeros = (refl, refl)

-- "0x80000000 gives 0; 0x3F800000 gives 1065353216; 0xBF800000 gives -1065353216; 0x7F7FFFFF gives 2139095039."
pub starred : (at 0x8000_0000 ≡ pos 0) × (at 0x3F80_0000 ≡ pos 1065353216) × (at 0xBF80_0000 ≡ neg_ℤ (pos 1065353216)) × (at 0x7F7F_FFFF ≡ pos 2139095039)
unfolding order_of is_nan to_bits of_bits
starred = (refl, refl, refl, refl)

-- and the other end
pub lowest : at 0xFF7F_FFFF ≡ neg_ℤ (pos 2139095039)
unfolding order_of is_nan to_bits of_bits
lowest = refl

-- a negated float has the negated order number: the candidate heap holds negated distances
pub order_neg : (x : Float) → T (fits binary32 x) → order_of (neg x) ≡ neg_ℤ (order_of x)
unfolding order_of neg is_nan to_bits
order_neg nan h = refl
order_neg (inf true) h = refl
order_neg (inf false) h = refl
order_neg (fin s m e) h = finite s m e h
  where
    finite : (s : Bool) (m : ℕ) (e : ℤ) → T (fits binary32 (fin s m e)) → order_of (fin (not s) m e) ≡ neg_ℤ (order_of (fin s m e))
    finite true m e h = order_finite false m e (rw (fits_sign binary32 true m e) at h) ∙ sym (ap neg_ℤ (order_finite true m e h) ∙ neg_ℤ-neg_ℤ (pos (to_bits binary32 (fin false m e))))
    finite false m e h = order_finite true m e (rw (fits_sign binary32 true m e) h) ∙ sym (ap neg_ℤ (order_finite false m e h))
