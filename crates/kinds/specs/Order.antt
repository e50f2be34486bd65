-- 01: "Distances are compared by a signed order number: the low 31 bits of the float, negated if the sign bit is set. Both zeros give 0."
use Rattle.std.specs.Prelude.{ℕ, ◌%◌, ◌^◌, cond, leb, ℤ, pos, neg_ℤ, Float}
use Rattle.std.specs.Float.{binary32}
use Rattle.std.specs.Float.Ieee.{is_nan, to_bits}

-- a float's 32 bits as a signed number: the sign bit is the one that weighs 2 ^ 31
abbrev pub signed : ℕ → ℤ
signed bits = cond (leb (2 ^ 31) bits) (neg_ℤ (pos (bits % 2 ^ 31))) (pos (bits % 2 ^ 31))

-- a NaN, which no distance is, has no bits of its own, and counts as 0
unfoldable pub order_of : Float → ℤ
order_of x = cond (is_nan x) (pos 0) (signed (to_bits binary32 x))
