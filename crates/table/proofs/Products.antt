-- Products of bounded numbers. Assumes nothing.
use Prim.Native.Nat.{ℕ, ◌*◌, ◌^◌, ◌<◌}
use native.Mathlib.Nat.{lt_of_lt_of_le}
use lib.Dec.{T, leb, lit≤}
use mir.Syntax.{w64}
use mir.Val.{Fits}
use Rattle.std.proofs.lemmas.Nat.{mul-lt}

pub product_lt : (a b : ℕ) (A B : ℕ) → a < A → b < B → a * b < A * B
product_lt a b A B h k = mul-lt a b A B h k

pub product_fits : (a b : ℕ) (A B : ℕ) → a < A → b < B → T (leb (A * B) (2 ^ 64)) → Fits w64 (a * b)
product_fits a b A B h k t = record { fits = lt_of_lt_of_le (product_lt a b A B h k) (lit≤ t) }
