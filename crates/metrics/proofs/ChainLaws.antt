-- The law of a kernel's sum, coordinate by coordinate, for any term: what is left to add up gives the whole sum. Assumes nothing.
use mathlib.Core.Path.{◌≡◌, refl, sym, ◌∙◌}
use Prim.Native.Nat.{ℕ, ◌+◌, ◌≤◌, ◌<◌}
use native.Mathlib.Omega.{arith}
use native.Mathlib.Numerals.{add-one}
use mathlib.Core.List.{List, [], ◌∷◌}
use lib.ListN.{length, get_or, drop, length-drop}
use lib.Seq.{drop-cons}
use lib.Ieee.{Float, nan, binary32, add, of_bits}
use Rattle.std.specs.List.{fold, zip}
use Rattle.metrics.specs.Chain.{total}

-- from a sum so far: one term for each pair of coordinates, added in index order
unfoldable pub chain : (Float → Float → Float) → Float → List Float → List Float → Float
chain term sum [] ys = sum
chain term sum (x ∷ xs) [] = sum
chain term sum (x ∷ xs) (y ∷ ys) = chain term (add binary32 sum (term x y)) xs ys

-- the sum is the chain from +0.0
pub chain_from : (term : Float → Float → Float) (sum : Float) (xs ys : List Float) → chain term sum xs ys ≡ fold (λ s p. add binary32 s (term p.0 p.1)) sum (zip xs ys)
unfolding chain
chain_from term sum [] ys = refl
chain_from term sum (x ∷ xs) [] = refl
chain_from term sum (x ∷ xs) (y ∷ ys) = chain_from term (add binary32 sum (term x y)) xs ys

-- after i coordinates of both vectors
pub record After (term : Float → Float → Float) (a b : List Float) (i : ℕ) (sum : Float) : Type 0 where
  pub within : i ≤ length a
  pub left : chain term sum (drop i a) (drop i b) ≡ total term a b

pub begun : (term : Float → Float → Float) (a b : List Float) → After term a b 0 (of_bits binary32 0)
begun term a b = record { within = omega arith; left = chain_from term (of_bits binary32 0) a b }

one_pair : (term : Float → Float → Float) (sum : Float) (a b : List Float) (i : ℕ) → i < length a → i < length b
    → chain term (add binary32 sum (term (get_or a i nan) (get_or b i nan))) (drop (i + 1) a) (drop (i + 1) b) ≡ chain term sum (drop i a) (drop i b)
unfolding chain
one_pair term sum a b i h l = rw (add-one i, drop-cons a i nan h, drop-cons b i nan l)

pub next : {term : Float → Float → Float} {a b : List Float} {i : ℕ} {sum : Float} → length a ≡ length b → i < length a → After term a b i sum
    → After term a b (i + 1) (add binary32 sum (term (get_or a i nan) (get_or b i nan)))
next {term} {a} {b} {i} {sum} e h p = record { within = omega arith; left = one_pair term sum a b i h (omega arith) ∙ p.left }

nothing : (term : Float → Float → Float) (sum : Float) (xs ys : List Float) → length xs ≡ 0 → chain term sum xs ys ≡ sum
unfolding chain
nothing term sum [] ys e = refl
nothing term sum (x ∷ xs) ys e = absurd (omega arith)

pub ended : {term : Float → Float → Float} {a b : List Float} {i : ℕ} {sum : Float} → length a ≤ i → After term a b i sum → sum ≡ total term a b
ended {term} {a} {b} {i} {sum} h p = sym (nothing term sum (drop i a) (drop i b) (simp length-drop (omega arith))) ∙ p.left
