-- Of two floats that are not negative the larger has the larger bits, and equal ones have equal bits, in either format.
-- A magnitude is counted in the format's smallest values, and its bits grow with that count. Two values that differ
-- have bits that differ, since the bits can be read back. Assumes nothing.
use mathlib.Core.Path.{◌≡◌, refl, sym, ap, ◌∙◌}
use mathlib.Core.Logic.{◌⊎◌, inl, inr}
use Prim.Native.Nat.{ℕ, zero, suc, ◌+◌, ◌-◌, ◌*◌, ◌/◌, ◌%◌, ◌^◌, ◌≤◌, ◌<◌}
use native.Mathlib.Nat.{lt_of_le_of_lt, lt_of_lt_of_le, lt_irrefl, eq-zero-or-pos, eq-or-lt_of_le, zero-add, one-mul, mul-one, mul_assoc, mul_right_comm, mul_comm, mul-pos, suc-mul, mul-le-mul_right, mul-lt-mul_of_pos_right, lt_of_mul-lt-mul_right, eq_of_mul-eq-mul_right, mul-div_cancel, le-div_iff_mul-le, div-one}
use native.Mathlib.Omega.{arith}
use mathlib.Core.Bool.{false, ◌&&◌}
use lib.Dec.{T, leb, ltb, eqb, leb→le, eqb→eq}
use lib.IntN.{ℤ, pos, negsuc}
use lib.Pow.{pow-add, pow_pos, pow-lt, shr_mono}
use lib.Ieee.{Float, nan, inf, fin, Format, binary32, binary64, prec, emax, low, hid, up, down, size, fits, to_bits, of_bits}
use lib.Ieee.Digits.{size-lt, size-le, size_reaches}
use lib.Ieee.Fits.{kept-lt, down_pos, and_l, and_r}
use lib.Ieee.Bits.{of_bits-to_bits}

-- ---- the bits, by a count of smallest values

-- m * 2 ^ e in smallest values
abbrev count : Format → ℕ → ℤ → ℕ
count f m e = m * up e * 2 ^ low f / down e

-- n keeps its leading digits, and the exponent's field says how many it dropped
abbrev written : Format → ℕ → ℕ
written f n = (size n - prec f) * hid f + n / 2 ^ (size n - prec f)

bits_are : (f : Format) (m : ℕ) (e : ℤ) → to_bits f (fin false m e) ≡ written f (count f m e)
unfolding to_bits
bits_are f m e = rw zero-add

two_heads : (f : Format) → 2 ^ prec f ≡ 2 * hid f
two_heads binary32 = refl
two_heads binary64 = refl

head_last : (f : Format) (z k : ℕ) → k ≡ z - prec f → 0 < k → prec f - 1 + k < z
head_last binary32 z k e h = omega arith
head_last binary64 z k e h = omega arith

-- where digits were dropped, the leading one is kept
head_kept : (f : Format) (n : ℕ) → 0 < size n - prec f → hid f ≤ n / 2 ^ (size n - prec f)
head_kept f n h =
    let k = size n - prec f in
    (le-div_iff_mul-le (pow_pos k)).1 (rw (pow-add 2 (prec f - 1) k) at (size_reaches n (prec f - 1 + k) (head_last f (size n) k refl h)))

grows : (f : Format) (m n : ℕ) → m ≤ n → written f m ≤ written f n
grows f m n h = go (eq-or-lt_of_le fewer)
  where
    digits : size m ≤ size n
    digits = size-le m (size n) (lt_of_le_of_lt h (size-lt n))

    fewer : size m - prec f ≤ size n - prec f
    fewer = omega (arith, digits)

    go : (size m - prec f ≡ size n - prec f) ⊎ (size m - prec f < size n - prec f) → written f m ≤ written f n
    go (inl e) = rw e (omega (arith, shr_mono (size n - prec f) h))
    go (inr l) =
        omega (arith, kept-lt (prec f) m, two_heads f, head_kept f n (omega arith), suc-mul (size m - prec f) (hid f), mul-le-mul_right {m = suc (size m - prec f)} {n = size n - prec f} (hid f) l)

-- ---- the count is exact

down_in : (f : Format) (m : ℕ) (e : ℤ) → T (fits f (fin false m e)) → down e ≤ 2 ^ low f
unfolding fits
down_in f zero (pos a) h = pow_pos (low f)
down_in f zero (negsuc a) h = rw (← one-mul (2 ^ suc a), eqb→eq (1 * 2 ^ suc a) 1 h) (pow_pos (low f))
down_in f (suc m) e h =
    let A = eqb (suc m % 2) 1 && ltb (suc m) (2 ^ prec f) in
    let C = leb (down e) (2 ^ low f) in
    let D = ltb (suc m * up e) (2 ^ suc (emax f) * down e) in
    leb→le (down e) (2 ^ low f) (and_r A C (and_l (A && C) D h))

pub pow_le_back : (a l : ℕ) → 2 ^ a ≤ 2 ^ l → a ≤ l
pow_le_back a l h = elim (eq-zero-or-pos (a - l)) [
  | inl z ↦ omega arith
  | inr p ↦ absurd (lt_irrefl (2 ^ l) (lt_of_lt_of_le (pow-lt {i = l} {j = a} (omega arith)) h))
]

exact : (l x : ℕ) (e : ℤ) → down e ≤ 2 ^ l → x * 2 ^ l / down e * down e ≡ x * 2 ^ l
exact l x (pos a) h = mul-one (x * 2 ^ l / 1) ∙ div-one (x * 2 ^ l)
exact l x (negsuc a) h =
    let d = 2 ^ suc a in
    let within : suc a ≤ l = pow_le_back (suc a) l h in
    let split : 2 ^ l ≡ 2 ^ (l - suc a) * d = ap (λ (n : ℕ). 2 ^ n) (omega arith) ∙ pow-add 2 (l - suc a) (suc a) in
    let parts : x * 2 ^ l ≡ x * 2 ^ (l - suc a) * d = ap (λ (n : ℕ). x * n) split ∙ sym (mul_assoc x (2 ^ (l - suc a)) d) in
    rw (parts, mul-div_cancel (x * 2 ^ (l - suc a)) (pow_pos (suc a)))

-- ---- from fractions to counts

-- x / d and y / d' in smallest values, of which one unit has l
module _ (x y d d' l c c' : ℕ) (p : c * d ≡ x * l) (q : c' * d' ≡ y * l) where
  left : c * (d * d') ≡ x * d' * l
  left = sym (mul_assoc c d d') ∙ ap (λ (n : ℕ). n * d') p ∙ mul_right_comm x l d'

  right : c' * (d * d') ≡ y * d * l
  right = ap (λ (n : ℕ). c' * n) (mul_comm d d') ∙ sym (mul_assoc c' d' d) ∙ ap (λ (n : ℕ). n * d) q ∙ mul_right_comm y l d

  fewer_units : 0 < l → x * d' < y * d → c < c'
  fewer_units z h = lt_of_mul-lt-mul_right (d * d') (rw (left, right) (mul-lt-mul_of_pos_right h z))

  same_units : 0 < d * d' → x * d' ≡ y * d → c ≡ c'
  same_units z h = eq_of_mul-eq-mul_right (d * d') z c c' (left ∙ ap (λ (n : ℕ). n * l) h ∙ sym right)

-- ---- the two laws

same_count : Float → Format → ℕ
same_count nan f = 0
same_count (inf s) f = 0
same_count (fin s m e) f = count f m e

module _ (f : Format) (m n : ℕ) (e d : ℤ) (a : T (fits f (fin false m e))) (b : T (fits f (fin false n d))) where
  whole_left : count f m e * down e ≡ m * up e * 2 ^ low f
  whole_left = exact (low f) (m * up e) e (down_in f m e a)

  whole_right : count f n d * down d ≡ n * up d * 2 ^ low f
  whole_right = exact (low f) (n * up d) d (down_in f n d b)

  -- bits that are the same are read as the same value
  read_back : to_bits f (fin false m e) ≡ to_bits f (fin false n d) → count f m e ≡ count f n d
  unfolding same_count
  read_back h = ap (λ (x : Float). same_count x f) (sym (of_bits-to_bits f (fin false m e) a) ∙ ap (of_bits f) h ∙ of_bits-to_bits f (fin false n d) b)

  pub larger_bits : m * up e * down d < n * up d * down e → to_bits f (fin false m e) < to_bits f (fin false n d)
  larger_bits h =
      let l : count f m e < count f n d = fewer_units (m * up e) (n * up d) (down e) (down d) (2 ^ low f) (count f m e) (count f n d) whole_left whole_right (pow_pos (low f)) h in
      let g : to_bits f (fin false m e) ≤ to_bits f (fin false n d) = rw (bits_are f m e, bits_are f n d) (grows f (count f m e) (count f n d) (omega arith)) in
      elim (eq-or-lt_of_le g) [
        | inl s ↦ absurd (lt_irrefl (count f n d) (rw (read_back s) at l))
        | inr r ↦ r
      ]

  pub equal_bits : m * up e * down d ≡ n * up d * down e → to_bits f (fin false m e) ≡ to_bits f (fin false n d)
  equal_bits h =
      let s : count f m e ≡ count f n d = same_units (m * up e) (n * up d) (down e) (down d) (2 ^ low f) (count f m e) (count f n d) whole_left whole_right (mul-pos (down_pos e) (down_pos d)) h in
      bits_are f m e ∙ ap (written f) s ∙ sym (bits_are f n d)
