-- R5 holds at each coordinate of the table exactly when it holds at those of each id. Assumes nothing.
use mathlib.Core.Path.{◌≡◌, ◌∙◌}
use mathlib.Core.Logic.{inl, inr, ◌↔◌}
use Prim.Native.Nat.{ℕ, suc, ◌+◌, ◌-◌, ◌*◌, ◌/◌, ◌≤◌, ◌<◌}
use native.Mathlib.Nat.{eq-zero-or-pos, mul-le-mul_right, mul-zero, suc-mul}
use native.Mathlib.Omega.{arith}
use mathlib.Core.Bool.{true}
use mathlib.Core.List.{List}
use lib.Ieee.{Float}
use lib.ListN.{get_or}
use Rattle.std.proofs.Math.Nat.{lt-div-mul-add, div-lt_iff_lt-mul, div-mul-le_self}
use Rattle.std.proofs.lemmas.List.FromFn.{length-range_with_len, get_or-range_with_len}
use Rattle.std.proofs.lemmas.List.Sums.{AllPass-from_list_all, list_all-from_AllPass}
use Rattle.std.specs.List.{range_with_len}
use Rattle.params.specs.declared.Header.{Header}
use Rattle.table.specs.Rules.{r5, r5_row}

module _ (h : Header) (vectors : List Float) where
  abbrev n : ℕ
  n = h.dimension

  row_at : (id : ℕ) → r5_row h vectors id ≡ true → (j : ℕ) → id * n ≤ j → j < id * n + n → r5 h vectors j ≡ true
  row_at id t j a b =
      let k = j - id * n in
      let e : id * n + k ≡ j = omega arith in
      let f : get_or (range_with_len (id * n) n) k 0 ≡ j = get_or-range_with_len (id * n) n k 0 (omega arith) ∙ e in
      rw (← f) (AllPass-from_list_all (r5 h vectors) (range_with_len (id * n) n) t k 0 (omega (arith, length-range_with_len (id * n) n)))

  at_row : (id : ℕ) → ((j : ℕ) → id * n ≤ j → j < id * n + n → r5 h vectors j ≡ true) → r5_row h vectors id ≡ true
  at_row id p = list_all-from_AllPass (r5 h vectors) (range_with_len (id * n) n) (λ k d l.
      let m : k < n = omega (arith, length-range_with_len (id * n) n) in
      rw (get_or-range_with_len (id * n) n k d m) (p (id * n + k) (omega arith) (omega arith)))

  pub rows_are : (ids : ℕ) → ((id : ℕ) → id < ids → r5_row h vectors id ≡ true) ↔ ((j : ℕ) → j < ids * n → r5 h vectors j ≡ true)
  rows_are ids = (
    λ rows j l. elim (eq-zero-or-pos n) [
      | inl z ↦ let none : ids * n ≡ 0 = rw z (mul-zero ids) in absurd (omega arith)
      | inr p ↦ row_at (j / n) (rows (j / n) ((div-lt_iff_lt-mul p).1 l)) j (div-mul-le_self j n) (lt-div-mul-add p)
    ],
    λ all id l. at_row id (λ j a b.
        let whole : suc id * n ≤ ids * n = mul-le-mul_right {m = suc id} {n = ids} n l in
        all j (omega (arith, suc-mul id n))),
  )
