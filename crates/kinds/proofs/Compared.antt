-- What ties the order number to the Rust, which compares floats: on finite floats that fit binary32 the order numbers
-- are in the order of the floats (`less_as_floats`, `at_most_as_floats`), and equal exactly when the floats are (`equal_as_floats`). Assumes nothing.
use mathlib.Core.Path.{◌≡◌, refl, sym, ap, ◌∙◌}
use mathlib.Core.Logic.{◌⊎◌, inl, inr, ◌↔◌}
use Prim.Native.Nat.{ℕ, zero, suc, ◌+◌, ◌-◌, ◌*◌, ◌^◌, ◌≤◌, ◌<◌}
use native.Mathlib.Nat.{lt_irrefl, eq-zero-or-pos, mul-pos, zero-mul, mul-one}
use native.Mathlib.Omega.{arith}
use mathlib.Core.Bool.{Bool, true, false, not, ◌&&◌, ◌||◌, cond}
use lib.Dec.{T, leb, ltb, eqb, leb-suc-suc, nltb→le}
use borrow.Author.Tests.{le-leb, lt-leb, lt-ltb, le-ltb, eq-eqb, ne_eqb}
use lib.IntN.{ℤ, pos, negsuc, neg_ℤ}
use lib.Signed.{lt_z, le_z}
use lib.Ieee.{Float, nan, inf, fin, binary32, up, down, is_nan, fits, to_bits, below, level, lt, eq, le}
use lib.Ieee.Fits.{up_pos, down_pos, and_i, and_l, and_r}
use lib.Ieee.Scale.{finite}
use Rattle.kinds.specs.Order.{order_of}
use Rattle.kinds.proofs.SignLaws.{fits_sign, sign_bit, magnitude_lt, bits_below_sign}
use Rattle.kinds.proofs.Magnitudes.{larger_bits, equal_bits}

-- ---- the order number of a finite float: its magnitude's bits, under its sign

abbrev pub bits : ℕ → ℤ → ℕ
bits m e = to_bits binary32 (fin false m e)

abbrev under : Bool → ℕ → ℤ
under s w = cond s (neg_ℤ (pos w)) (pos w)

pub order_finite : (s : Bool) (m : ℕ) (e : ℤ) → T (fits binary32 (fin s m e)) → order_of (fin s m e) ≡ under s (bits m e)
unfolding order_of is_nan
order_finite true m e h =
    let set : 2 ^ 31 ≤ to_bits binary32 (fin true m e) = omega (arith, sign_bit binary32 true m e) in
    rw (le-leb (2 ^ 31) (to_bits binary32 (fin true m e)) set, bits_below_sign binary32 true m e h)
order_finite false m e h =
    let clear : to_bits binary32 (fin false m e) < 2 ^ 31 = magnitude_lt binary32 m e h in
    rw (lt-leb (2 ^ 31) (to_bits binary32 (fin false m e)) clear, bits_below_sign binary32 false m e h)

-- ---- two magnitudes, as fractions a and b of one denominator and as bits w and v

pub record Alike (a b w v : ℕ) : Type 0 where
  pub less : a < b → w < v
  pub same : a ≡ b → w ≡ v
  pub more : b < a → v < w
  pub none : a ≡ 0 → w ≡ 0
  pub some : 0 < a → 0 < w
  pub none' : b ≡ 0 → v ≡ 0
  pub some' : 0 < b → 0 < v

zero_value : T (fits binary32 (fin false 0 (pos 0)))
unfolding fits
zero_value = tt

zero_bits : bits 0 (pos 0) ≡ 0
unfolding to_bits
zero_bits = refl

-- a magnitude of 0 has the bits 0, and no other has
module _ (m : ℕ) (e : ℤ) (k : ℕ) (p : 0 < k) (h : T (fits binary32 (fin false m e))) where
  pub nothing : m * up e * k ≡ 0 → bits m e ≡ 0
  nothing z = elim (eq-zero-or-pos m) [
    | inl n ↦ equal_bits binary32 m 0 e (pos 0) h zero_value (rw n (mul-one (0 * up e) ∙ zero-mul (up e) ∙ sym (zero-mul (down e)))) ∙ zero_bits
    | inr n ↦ absurd (omega (arith, mul-pos (mul-pos n (up_pos e)) p))
  ]

  pub something : 0 < m * up e * k → 0 < bits m e
  something z = elim (eq-zero-or-pos m) [
    | inl n ↦ absurd (lt_irrefl 0 (rw (n, zero-mul (up e), zero-mul k) at z))
    | inr n ↦ rw zero_bits at (larger_bits binary32 0 m (pos 0) e zero_value h (rw (zero-mul (down e), mul-one (m * up e)) (mul-pos n (up_pos e))))
  ]

alike : (m n : ℕ) (e d : ℤ) → T (fits binary32 (fin false m e)) → T (fits binary32 (fin false n d))
    → Alike (m * up e * down d) (n * up d * down e) (bits m e) (bits n d)
alike m n e d h k = record {
  less = larger_bits binary32 m n e d h k;
  same = equal_bits binary32 m n e d h k;
  more = larger_bits binary32 n m d e k h;
  none = nothing m e (down d) (down_pos d) h;
  some = something m e (down d) (down_pos d) h;
  none' = nothing n d (down e) (down_pos e) k;
  some' = something n d (down e) (down_pos e) k;
}

-- ---- the comparison of numbers under a sign

three : (a b : ℕ) → (a < b) ⊎ ((a ≡ b) ⊎ (b < a))
three a b = elim (eq-zero-or-pos (b - a)) [
  | inr p ↦ inl (omega arith)
  | inl z ↦ elim (eq-zero-or-pos (a - b)) [
    | inr q ↦ inr (inr (omega arith))
    | inl y ↦ inr (inl (omega arith))
  ]
]

same_test : (a b w v : ℕ) → (a < b → w < v) → (b ≤ a → v ≤ w) → ltb w v ≡ ltb a b
same_test a b w v f g = elim (three a b) [
  | inl l ↦ lt-ltb w v (f l) ∙ sym (lt-ltb a b l)
  | inr r ↦ let m : b ≤ a = elim r [ inl e ↦ omega arith | inr l ↦ omega arith ] in le-ltb w v (g m) ∙ sym (le-ltb a b m)
]

-- a first magnitude that is no smaller has bits that are no smaller
no_less : {a b w v : ℕ} → Alike a b w v → b ≤ a → v ≤ w
no_less {a} {b} {w} {v} r h = elim (three a b) [
  | inl l ↦ absurd (omega arith)
  | inr t ↦ elim t [ inl e ↦ omega (arith, r.same e) | inr l ↦ omega (arith, r.more l) ]
]

no_more : {a b w v : ℕ} → Alike a b w v → a ≤ b → w ≤ v
no_more {a} {b} {w} {v} r h = elim (three a b) [
  | inl l ↦ omega (arith, r.less l)
  | inr t ↦ elim t [ inl e ↦ omega (arith, r.same e) | inr l ↦ absurd (omega arith) ]
]

minus_minus : (w v : ℕ) → lt_z (neg_ℤ (pos w)) (neg_ℤ (pos v)) ≡ ltb v w
minus_minus zero zero = refl
minus_minus zero (suc v) = sym (le-ltb (suc v) 0 (omega arith))
minus_minus (suc w) zero = sym (lt-ltb 0 (suc w) (omega arith))
minus_minus (suc w) (suc v) = sym (leb-suc-suc (suc v) w)

plus_minus : (w v : ℕ) → lt_z (pos w) (neg_ℤ (pos v)) ≡ false
plus_minus w zero = le-ltb w 0 (omega arith)
plus_minus w (suc v) = refl

minus_plus : (a b w v : ℕ) → Alike a b w v → lt_z (neg_ℤ (pos w)) (pos v) ≡ ltb 0 (a + b)
minus_plus a b zero v r = elim (eq-zero-or-pos a) [
  | inl z ↦ same_test 0 (a + b) 0 v (λ l. r.some' (omega arith)) (λ l. omega (arith, r.none' (omega arith)))
  | inr p ↦ absurd (lt_irrefl 0 (r.some p))
]
minus_plus a b (suc w) v r = elim (eq-zero-or-pos a) [
  | inl z ↦ absurd (let n : suc w ≡ 0 = r.none z in omega arith)
  | inr p ↦ sym (lt-ltb 0 (a + b) (omega arith))
]

signs : (s t : Bool) (a b w v : ℕ) → Alike a b w v → lt_z (under s w) (under t v) ≡ below s a t b
signs false false a b w v r = same_test a b w v r.less (no_less r)
signs false true a b w v r = plus_minus w v
signs true false a b w v r = minus_plus a b w v r
signs true true a b w v r = minus_minus w v ∙ same_test b a v w r.more (no_more r)

-- ---- equal is: neither is less

abbrev neither : Bool → Bool → Bool
neither p q = not p && not q

not_less : (a : ℕ) → T (not (ltb a a))
not_less a = rw (le-ltb a a (omega arith)) tt

equal_numbers : (a b : ℕ) → T (neither (ltb a b) (ltb b a)) → a ≡ b
equal_numbers a b h =
    let l : b ≤ a = nltb→le a b (and_l (not (ltb a b)) (not (ltb b a)) h) in
    let g : a ≤ b = nltb→le b a (and_r (not (ltb a b)) (not (ltb b a)) h) in
    omega arith

equal_integers : (x y : ℤ) → T (neither (lt_z x y) (lt_z y x)) → x ≡ y
equal_integers (pos a) (pos b) h = ap pos (equal_numbers a b h)
equal_integers (pos a) (negsuc b) h = absurd h
equal_integers (negsuc a) (pos b) h = absurd h
equal_integers (negsuc a) (negsuc b) h = ap negsuc (sym (equal_numbers b a h))

not_less_itself : (x : ℤ) → T (neither (lt_z x x) (lt_z x x))
not_less_itself (pos a) = and_i (not (ltb a a)) (not (ltb a a)) (not_less a) (not_less a)
not_less_itself (negsuc a) = and_i (not (ltb a a)) (not (ltb a a)) (not_less a) (not_less a)

level_numbers : (a b : ℕ) → eqb a b && true ≡ neither (ltb a b) (ltb b a)
level_numbers a b = elim (three a b) [
  | inl l ↦ rw (ne_eqb a b (λ e. omega arith), lt-ltb a b l)
  | inr r ↦ elim r [
    | inl e ↦ rw (eq-eqb a b e, le-ltb a b (omega arith), le-ltb b a (omega arith))
    | inr l ↦ rw (ne_eqb a b (λ e. omega arith), le-ltb a b (omega arith), lt-ltb b a l)
  ]
]

-- of two signs only zeros are equal
level_zeros : (a b n : ℕ) → n ≡ a + b → eqb a b && eqb a 0 ≡ not (ltb 0 n)
level_zeros a b n s = elim (eq-zero-or-pos n) [
  | inl z ↦ rw (eq-eqb a b (omega arith), eq-eqb a 0 (omega arith), le-ltb 0 n (omega arith))
  | inr p ↦ elim (eq-zero-or-pos a) [
    | inl y ↦ rw (ne_eqb a b (λ e. omega arith), lt-ltb 0 n p)
    | inr q ↦ rw (ne_eqb a 0 (λ e. omega arith), lt-ltb 0 n p) (and_false (eqb a b))
  ]
]
  where
    and_false : (t : Bool) → t && false ≡ false
    and_false true = refl
    and_false false = refl

and_true : (t : Bool) → t ≡ t && true
and_true true = refl
and_true false = refl

swap : (p q : Bool) → neither p q ≡ neither q p
swap true true = refl
swap true false = refl
swap false true = refl
swap false false = refl

level_is : (s t : Bool) (a b : ℕ) → level s a t b ≡ neither (below s a t b) (below t b s a)
level_is false false a b = level_numbers a b
level_is false true a b = level_zeros a b (b + a) (omega arith)
level_is true false a b = level_zeros a b (a + b) refl ∙ and_true (not (ltb 0 (a + b)))
level_is true true a b = level_numbers a b ∙ swap (ltb a b) (ltb b a)

-- at most is: less, or equal
at_most_numbers : (a b : ℕ) → leb a b ≡ ltb a b || neither (ltb a b) (ltb b a)
at_most_numbers a b = elim (three a b) [
  | inl l ↦ rw (le-leb a b (omega arith), lt-ltb a b l)
  | inr r ↦ elim r [
    | inl e ↦ rw (le-leb a b (omega arith), le-ltb a b (omega arith), le-ltb b a (omega arith))
    | inr l ↦ rw (lt-leb a b l, le-ltb a b (omega arith), lt-ltb b a l)
  ]
]

at_most_integers : (x y : ℤ) → le_z x y ≡ lt_z x y || neither (lt_z x y) (lt_z y x)
at_most_integers (pos a) (pos b) = at_most_numbers a b
at_most_integers (pos a) (negsuc b) = refl
at_most_integers (negsuc a) (pos b) = refl
at_most_integers (negsuc a) (negsuc b) = at_most_numbers b a

-- ---- the theorems

pub less_as_floats : (x y : Float) → T (finite x) → T (finite y) → T (fits binary32 x) → T (fits binary32 y) → lt_z (order_of x) (order_of y) ≡ lt x y
unfolding lt
less_as_floats nan y p q h k = absurd p
less_as_floats (inf s) y p q h k = absurd p
less_as_floats (fin s m e) nan p q h k = absurd q
less_as_floats (fin s m e) (inf t) p q h k = absurd q
less_as_floats (fin s m e) (fin t n d) p q h k =
    rw (order_finite s m e h, order_finite t n d k)
    (signs s t (m * up e * down d) (n * up d * down e) (bits m e) (bits n d)
    (alike m n e d (rw (fits_sign binary32 s m e) at h) (rw (fits_sign binary32 t n d) at k)))

eq_is : (x y : Float) → T (finite x) → T (finite y) → eq x y ≡ neither (lt x y) (lt y x)
unfolding eq lt
eq_is nan y p q = absurd p
eq_is (inf s) y p q = absurd p
eq_is (fin s m e) nan p q = absurd q
eq_is (fin s m e) (inf t) p q = absurd q
eq_is (fin s m e) (fin t n d) p q = level_is s t (m * up e * down d) (n * up d * down e)

neither_as_floats : (x y : Float) → T (finite x) → T (finite y) → T (fits binary32 x) → T (fits binary32 y) → neither (lt_z (order_of x) (order_of y)) (lt_z (order_of y) (order_of x)) ≡ eq x y
neither_as_floats x y p q h k = rw (less_as_floats x y p q h k, less_as_floats y x q p k h) (sym (eq_is x y p q))

pub equal_as_floats : (x y : Float) → T (finite x) → T (finite y) → T (fits binary32 x) → T (fits binary32 y) → (order_of x ≡ order_of y) ↔ T (eq x y)
equal_as_floats x y p q h k =
    let tests = neither_as_floats x y p q h k in
    (λ e. rw (← tests, e) (not_less_itself (order_of y)), λ t. equal_integers (order_of x) (order_of y) (rw tests t))

pub at_most_as_floats : (x y : Float) → T (finite x) → T (finite y) → T (fits binary32 x) → T (fits binary32 y) → le_z (order_of x) (order_of y) ≡ le x y
unfolding le
at_most_as_floats x y p q h k = at_most_integers (order_of x) (order_of y) ∙ rw (neither_as_floats x y p q h k, less_as_floats x y p q h k)
