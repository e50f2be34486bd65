-- A list of the link table, and its slots past the count, as parts of the table. Assumes nothing.
use mathlib.Core.Path.{◌≡◌, sym, ap, ◌∙◌}
use mathlib.Core.Logic.{inl, inr}
use Prim.Native.Nat.{ℕ, zero, suc, ◌+◌, ◌-◌, ◌≤◌, min}
use native.Mathlib.Nat.{eq-zero-or-pos}
use native.Mathlib.Omega.{arith}
use mathlib.Core.List.{List, [], ◌∷◌}
use lib.ListN.{length, take, drop, length-take, drop_of_length-le}
use lib.Seq.{take-take, take_all, drop-drop, take-nil}

module _ {A : Type 0} where
  short : (n : ℕ) (xs : List A) → length (take n xs) ≤ n
  short n xs = omega (arith, length-take n xs)

  pub drop-take : (c n : ℕ) (xs : List A) → drop c (take n xs) ≡ take (n - c) (drop c xs)
  drop-take zero n xs = let e : n - 0 ≡ n = omega arith in rw e
  drop-take (suc c) zero xs = let e : 0 - suc c ≡ 0 = omega arith in rw e
  drop-take (suc c) (suc n) [] = sym (take-nil (suc n - suc c))
  drop-take (suc c) (suc n) (x ∷ xs) = let e : suc n - suc c ≡ n - c = omega arith in rw e (drop-take c n xs)

  -- m of the n slots from s on are in use, where the count is c
  pub part_list : (xs : List A) (s c n m : ℕ) → m ≡ min c n → take (s + m - s) (drop s xs) ≡ take c (take n (drop s xs))
  part_list xs s c n m e = elim (eq-zero-or-pos (c - n)) [
    | inl z ↦ let k : s + m - s ≡ c = omega arith in rw k (sym (take-take c n (drop s xs) (omega arith)))
    | inr p ↦ let k : s + m - s ≡ n = omega arith in rw k (sym (take_all c (take n (drop s xs)) (omega (arith, short n (drop s xs)))))
  ]

  pub part_slack : (xs : List A) (s c n m : ℕ) → m ≡ min c n → take (s + n - (s + m)) (drop (s + m) xs) ≡ drop c (take n (drop s xs))
  part_slack xs s c n m e = elim (eq-zero-or-pos (c - n)) [
    | inl z ↦
        let k : s + n - (s + m) ≡ n - c = omega arith in
        let j : m ≡ c = omega arith in
        rw (k, j) (sym (drop-take c n (drop s xs) ∙ ap (take (n - c)) (drop-drop c s xs)))
    | inr p ↦
        let k : s + n - (s + m) ≡ 0 = omega arith in
        rw k (sym (drop_of_length-le (take n (drop s xs)) {i = c} (omega (arith, short n (drop s xs)))))
  ]
