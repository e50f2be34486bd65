-- Taking a float from +0.0 negates it, and nothing is rounded: so 0.0 - d for a d up to zero, and d above, is d with its sign bit cleared. Assumes nothing.
use mathlib.Core.Path.{◌≡◌, refl, sym, ap, subst, ◌∙◌}
use Prim.Native.Nat.{ℕ, zero, suc, ◌+◌, ◌-◌, ◌*◌, ◌%◌, ◌^◌, ◌≤◌, ◌<◌}
use native.Mathlib.Nat.{zero-add, zero-mul, one-mul, mul-one, mul_assoc, mul_comm, mul_right_comm, mul-pos, mul-lt-mul_of_pos_right, lt_of_mul-lt-mul_right, sub-zero, pow-succ'}
use native.Mathlib.Omega.{arith}
use mathlib.Core.Bool.{Bool, true, false, not, ◌&&◌}
use lib.Dec.{T, leb, ltb, eqb, leb→le, ltb→lt, eqb→eq}
use borrow.Author.Tests.{lt-ltb, le-ltb, ne_eqb}
use lib.IntN.{ℤ, pos, negsuc}
use lib.Pow.{pow-add, pow_pos}
use lib.Ieee.{Float, nan, inf, fin, Format, binary32, prec, emax, low, up, down, round, sum, add, sub, neg, lt, eq, le, fits, of_bits}
use lib.Ieee.Bits.{of_bits-to_bits}
use lib.Ieee.Exact.{HasValue, round_exact}
use lib.Ieee.Fits.{round-fits, sub-fits, up_pos, down_pos, and_l, and_r}
use Rattle.kinds.proofs.SignLaws.{fits_sign}
use Rattle.kinds.proofs.Magnitudes.{equal_bits, pow_le_back}
use Rattle.metrics.specs.Chain.{cleared, apart}

-- ---- a value is the only one of its format, sign and size

signed : Bool → Float → Float
signed s nan = nan
signed s (inf t) = inf s
signed s (fin t m e) = fin s m e

only : (f : Format) (x : Float) (s : Bool) (m : ℕ) (e : ℤ) → T (fits f x) → T (fits f (fin s m e)) → HasValue x s (m * up e) (down e) → x ≡ fin s m e
unfolding signed
only f nan s m e h k v = absurd v
only f (inf t) s m e h k v = absurd v
only f (fin t n d) s m e h k v =
    let size : n * up d * down e ≡ m * up e * down d = v.1 in
    let a : T (fits f (fin false n d)) = rw (fits_sign f t n d) at h in
    let b : T (fits f (fin false m e)) = rw (fits_sign f s m e) at k in
    let same : fin false n d ≡ fin false m e = sym (of_bits-to_bits f (fin false n d) a) ∙ ap (of_bits f) (equal_bits f n m d e a b size) ∙ of_bits-to_bits f (fin false m e) b in
    ap (λ (u : Bool). fin u n d) v.0 ∙ ap (signed s) same

-- ---- rounding a value of the format changes nothing

record Held (f : Format) (m : ℕ) (e : ℤ) : Type 0 where
  short : m < 2 ^ prec f
  deep : down e ≤ 2 ^ low f
  small : m * up e < 2 ^ suc (emax f) * down e

held : (f : Format) (s : Bool) (m : ℕ) (e : ℤ) → T (fits f (fin s (suc m) e)) → Held f (suc m) e
unfolding fits
held f s m e h =
    let A = eqb (suc m % 2) 1 in
    let B = ltb (suc m) (2 ^ prec f) in
    let C = leb (down e) (2 ^ low f) in
    let D = ltb (suc m * up e) (2 ^ suc (emax f) * down e) in
    record {
      short = ltb→lt (suc m) (2 ^ prec f) (and_r A B (and_l (A && B) C (and_l (A && B && C) D h)));
      deep = leb→le (down e) (2 ^ low f) (and_r (A && B) C (and_l (A && B && C) D h));
      small = ltb→lt (suc m * up e) (2 ^ suc (emax f) * down e) (and_r (A && B && C) D h);
    }

-- m * 2 ^ e is m * 2 ^ j of the format's smallest values
places : (l m : ℕ) (e : ℤ) → down e ≤ 2 ^ l → (j : ℕ) × (m * up e * 2 ^ l ≡ m * 2 ^ j * down e)
places l m (pos a) h = (a + l, mul_assoc m (2 ^ a) (2 ^ l) ∙ ap (λ (n : ℕ). m * n) (sym (pow-add 2 a l)) ∙ sym (mul-one (m * 2 ^ (a + l))))
places l m (negsuc a) h =
    let within : suc a ≤ l = pow_le_back (suc a) l h in (
      l - suc a,
      ap (λ (n : ℕ). n * 2 ^ l) (mul-one m)
          ∙ ap (λ (n : ℕ). m * 2 ^ n) (omega arith)
          ∙ ap (λ (n : ℕ). m * n) (pow-add 2 (l - suc a) (suc a))
          ∙ sym (mul_assoc m (2 ^ (l - suc a)) (2 ^ suc a)),
    )

kept : (f : Format) (t s : Bool) (m : ℕ) (e : ℤ) → T (fits f (fin s (suc m) e)) → round f t (suc m * up e) (down e) ≡ fin t (suc m) e
kept f t s m e h =
    let r = held f s m e h in
    let p = places (low f) (suc m) e r.deep in
    let j = p.0 in
    let below : suc m * 2 ^ j < 2 ^ (low f + suc (emax f)) =
    lt_of_mul-lt-mul_right (down e)
    (rw (← p.1, pow-add 2 (low f) (suc (emax f)), mul_comm (2 ^ low f) (2 ^ suc (emax f)), mul_right_comm (2 ^ suc (emax f)) (2 ^ low f) (down e)) (mul-lt-mul_of_pos_right r.small (pow_pos (low f)))) in
    only f (round f t (suc m * up e) (down e)) t (suc m) e (round-fits f t (suc m * up e) (down e)) (rw (fits_sign f t (suc m) e, ← fits_sign f s (suc m) e) h)
    (round_exact f t (suc m * up e) (down e) (suc m) j (down_pos e) r.short below p.1)

-- ---- 0.0 - x

no_zero : (m : ℕ) (e : ℤ) → 0 < suc m * up e
no_zero m e = mul-pos {m = suc m} {n = up e} (omega arith) (up_pos e)

zero_minus : (f : Format) (s : Bool) (m : ℕ) (e : ℤ) → T (fits f (fin s (suc m) e)) → sub f (fin false 0 (pos 0)) (fin s (suc m) e) ≡ fin (not s) (suc m) e
unfolding sub add neg sum
zero_minus f true m e h = rw (zero-mul (down e), zero-add (suc m * up e * 1), mul-one (suc m * up e), one-mul (down e)) (kept f false true m e h)
zero_minus f false m e h =
    rw (zero-mul (down e), mul-one (suc m * up e), one-mul (down e), lt-ltb 0 (suc m * up e) (no_zero m e), sub-zero (suc m * up e)) (kept f true false m e h)

no_power : (n : ℕ) → 2 ^ suc n ≡ 1 → ⊥
no_power n h = omega (arith, pow-succ' 2 n, pow_pos n)

zero_exponent : (s : Bool) (e : ℤ) → T (fits binary32 (fin s 0 e)) → e ≡ pos 0
unfolding fits
zero_exponent s (pos zero) h = refl
zero_exponent s (pos (suc a)) h = absurd (no_power a (sym (mul-one (2 ^ suc a)) ∙ eqb→eq (2 ^ suc a * 1) 1 h))
zero_exponent s (negsuc a) h = absurd (no_power a (sym (one-mul (2 ^ suc a)) ∙ eqb→eq (1 * 2 ^ suc a) 1 h))

-- ---- x with its sign bit cleared: 0.0 - x up to zero, and x above

abbrev minus : Float → Float
minus x = sub binary32 (of_bits binary32 0) x

zero_from_zero : (s : Bool) → minus (fin s 0 (pos 0)) ≡ fin false 0 (pos 0)
unfolding sub add neg sum of_bits round
zero_from_zero true = refl
zero_from_zero false = refl

above_zero : (m : ℕ) (e : ℤ) → le (fin false (suc m) e) (of_bits binary32 0) ≡ false
unfolding le lt eq of_bits
above_zero m e =
    let some = no_zero m e in
    rw (zero-mul (down e), mul-one (suc m * up e), le-ltb (suc m * up e) 0 (omega arith), ne_eqb (suc m * up e) 0 (λ n. omega arith)) refl

below_zero : (m : ℕ) (e : ℤ) → le (fin true m e) (of_bits binary32 0) ≡ true
unfolding le lt eq of_bits
below_zero zero e = rw (zero-mul (up e), zero-mul (down e)) refl
below_zero (suc m) e =
    let some = no_zero m e in
    rw (zero-mul (down e), mul-one (suc m * up e), lt-ltb 0 (suc m * up e + 0) (omega arith)) refl

pub minus_up_to_zero : (x : Float) → T (fits binary32 x) → le x (of_bits binary32 0) ≡ true → minus x ≡ cleared x
unfolding sub add neg lt eq le cleared of_bits
minus_up_to_zero nan h t = refl
minus_up_to_zero (inf true) h t = refl
minus_up_to_zero (inf false) h t = cc
minus_up_to_zero (fin s zero e) h t = subst (λ (d : ℤ). minus (fin s 0 d) ≡ fin false 0 d) (sym (zero_exponent s e h)) (zero_from_zero s)
minus_up_to_zero (fin true (suc m) e) h t = zero_minus binary32 true m e h
minus_up_to_zero (fin false (suc m) e) h t = cc (above_zero m e)

pub plus_above_zero : (x : Float) → le x (of_bits binary32 0) ≡ false → x ≡ cleared x
unfolding le lt eq cleared of_bits
plus_above_zero nan t = refl
plus_above_zero (inf true) t = cc
plus_above_zero (inf false) t = refl
plus_above_zero (fin true m e) t = cc (below_zero m e)
plus_above_zero (fin false m e) t = refl

-- ---- the two ways out of a term of Manhattan's sum

pub apart_minus : (x y : Float) → le (sub binary32 x y) (of_bits binary32 0) ≡ true → minus (sub binary32 x y) ≡ apart x y
apart_minus x y h = minus_up_to_zero (sub binary32 x y) (sub-fits binary32 x y) h

pub apart_plus : (x y : Float) → le (sub binary32 x y) (of_bits binary32 0) ≡ false → sub binary32 x y ≡ apart x y
apart_plus x y h = plus_above_zero (sub binary32 x y) h

-- ---- the greater of x and 0.0 - x

no : {P : Type 0} → false ≡ true → P
no e = absurd (subst (λ (b : Bool). T (not b)) e tt)

-- a zero is not less than a zero
zero_zero : (s : Bool) → lt (minus (fin s 0 (pos 0))) (fin s 0 (pos 0)) ≡ false
unfolding lt
zero_zero true = ap (λ (y : Float). lt y (fin true 0 (pos 0))) (zero_from_zero true)
zero_zero false = ap (λ (y : Float). lt y (fin false 0 (pos 0))) (zero_from_zero false)

minus_less : (m : ℕ) (e : ℤ) → T (fits binary32 (fin false (suc m) e)) → lt (minus (fin false (suc m) e)) (fin false (suc m) e) ≡ true
unfolding lt of_bits
minus_less m e h =
    let a = suc m * up e * down e in
    let some : 0 < a = mul-pos (mul-pos {m = suc m} {n = up e} (omega arith) (up_pos e)) (down_pos e) in
    ap (λ (y : Float). lt y (fin false (suc m) e)) (zero_minus binary32 false m e h) ∙ lt-ltb 0 (a + a) (omega arith)

minus_not_less : (m : ℕ) (e : ℤ) → T (fits binary32 (fin true (suc m) e)) → lt (minus (fin true (suc m) e)) (fin true (suc m) e) ≡ false
unfolding lt of_bits
minus_not_less m e h = ap (λ (y : Float). lt y (fin true (suc m) e)) (zero_minus binary32 true m e h)

pub plus_cleared : (x : Float) → T (fits binary32 x) → lt (minus x) x ≡ true → x ≡ cleared x
unfolding sub add neg lt cleared of_bits
plus_cleared nan h t = no t
plus_cleared (inf true) h t = no t
plus_cleared (inf false) h t = refl
plus_cleared (fin s zero e) h t =
    let z : lt (minus (fin s 0 e)) (fin s 0 e) ≡ false = subst (λ (d : ℤ). lt (minus (fin s 0 d)) (fin s 0 d) ≡ false) (sym (zero_exponent s e h)) (zero_zero s) in
    no (sym z ∙ t)
plus_cleared (fin true (suc m) e) h t = no (sym (minus_not_less m e h) ∙ t)
plus_cleared (fin false (suc m) e) h t = refl

pub minus_cleared : (x : Float) → T (fits binary32 x) → lt (minus x) x ≡ false → minus x ≡ cleared x
unfolding sub add neg lt cleared of_bits
minus_cleared nan h t = refl
minus_cleared (inf true) h t = refl
minus_cleared (inf false) h t = no (sym t)
minus_cleared (fin s zero e) h t = subst (λ (d : ℤ). minus (fin s 0 d) ≡ fin false 0 d) (sym (zero_exponent s e h)) (zero_from_zero s)
minus_cleared (fin true (suc m) e) h t = zero_minus binary32 true m e h
minus_cleared (fin false (suc m) e) h t = no (sym t ∙ minus_less m e h)
