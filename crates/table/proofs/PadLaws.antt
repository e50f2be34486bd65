-- A list's slots: the ids, and nothing behind them. Assumes nothing.
use mathlib.Core.Path.{◌≡◌, refl, sym, ap, ◌∙◌}
use Prim.Native.Nat.{ℕ, zero, suc, ◌+◌, ◌-◌, ◌≤◌, ◌<◌}
use native.Mathlib.Nat.{le_of_suc-le-suc, not-suc-le-zero}
use native.Mathlib.Omega.{arith}
use mathlib.Core.Bool.{true}
use mathlib.Core.List.{List, [], ◌∷◌, ◌++◌, append_assoc}
use lib.ListN.{length, get_or, set, take, drop, replicate, length-take, length-drop, length-append}
use borrow.Rule.Slice.PartMut.{mid_of, put_mid}
use lib.Seq.{take-suc-set, take-set-lt, drop-drop, set-append_left, take-append_seam, drop-append_seam}
use Rattle.params.specs.declared.HNSWParams.{HNSWParams}
use Rattle.table.specs.Layout.{slots, list_start, HasList, padded, replaced}
use Rattle.std.proofs.lemmas.List.{get_or_past}
use Rattle.std.specs.List.{list_all}
use Rattle.table.specs.Rules.{is_nothing}

pub past_end : (xs : List ℕ) (j : ℕ) → length xs ≤ j → get_or xs j 0 ≡ 0
past_end xs j h = get_or_past xs j 0 h

pub length-padded : (n : ℕ) (ids : List ℕ) → length (padded n ids) ≡ n
unfolding padded
length-padded zero ids = refl
length-padded (suc n) [] = ap suc (length-padded n [])
length-padded (suc n) (x ∷ ids) = ap suc (length-padded n ids)

pub padded_at : (n : ℕ) (ids : List ℕ) (j : ℕ) → j < n → get_or (padded n ids) j 0 ≡ get_or ids j 0
unfolding padded
padded_at zero ids j h = absurd (not-suc-le-zero h)
padded_at (suc n) [] zero h = refl
padded_at (suc n) [] (suc j) h = padded_at n [] j (le_of_suc-le-suc h)
padded_at (suc n) (x ∷ ids) zero h = refl
padded_at (suc n) (x ∷ ids) (suc j) h = padded_at n ids j (le_of_suc-le-suc h)

padded_nothing : (n : ℕ) → replicate n 0 ≡ padded n []
unfolding padded
padded_nothing zero = refl
padded_nothing (suc n) = ap (λ (r : List ℕ). 0 ∷ r) (padded_nothing n)

-- the slots as the code writes them, in two parts
padded_is : (n : ℕ) (ids : List ℕ) → length ids ≤ n → ids ++ replicate (n - length ids) 0 ≡ padded n ids
unfolding padded
padded_is n [] h = let e : n - 0 ≡ n = omega arith in rw e (padded_nothing n)
padded_is zero (x ∷ ids) h = absurd (not-suc-le-zero h)
padded_is (suc n) (x ∷ ids) h =
    let e : suc n - suc (length ids) ≡ n - length ids = omega arith in
    rw e (ap (λ (r : List ℕ). x ∷ r) (padded_is n ids (le_of_suc-le-suc h)))

pub padded_ids : (n : ℕ) (ids : List ℕ) → length ids ≤ n → take (length ids) (padded n ids) ≡ ids
unfolding padded
padded_ids n [] h = refl
padded_ids zero (x ∷ ids) h = absurd (not-suc-le-zero h)
padded_ids (suc n) (x ∷ ids) h = ap (λ (r : List ℕ). x ∷ r) (padded_ids n ids (le_of_suc-le-suc h))

nothing_padded : (n : ℕ) → list_all is_nothing (padded n []) ≡ true
unfolding padded
nothing_padded zero = refl
nothing_padded (suc n) = nothing_padded n

pub padded_slack : (n : ℕ) (ids : List ℕ) → list_all is_nothing (drop (length ids) (padded n ids)) ≡ true
unfolding padded
padded_slack n [] = nothing_padded n
padded_slack zero (x ∷ ids) = refl
padded_slack (suc n) (x ∷ ids) = padded_slack n ids

-- the ids are written behind a places, and nothing behind them, up to n places
module _ (xs ids : List ℕ) (a n : ℕ) (h : a + n ≤ length xs) (l : length ids ≤ n) where
  abbrev rest : List ℕ
  rest = drop (length ids) (drop a xs)

  abbrev front : List ℕ
  front = take a xs ++ ids

  length-front : length front ≡ a + length ids
  length-front = omega (arith, length-append (take a xs) ids, length-take a xs)

  ids_written : put_mid a (a + length ids - a) xs ids ≡ front ++ rest
  ids_written = let e : a + length ids - a ≡ length ids = omega arith in rw e (sym (append_assoc (take a xs) ids rest))

  length-rest : length rest ≡ length xs - a - length ids
  length-rest = simp length-drop (omega arith)

  rest_after : drop (n - length ids) rest ≡ drop (a + n) xs
  rest_after =
      let e : length ids + (n - length ids) ≡ n = omega arith in
      drop-drop (n - length ids) (length ids) (drop a xs) ∙ rw e (drop-drop n a xs)

  -- how many places the second part has
  pub nothing_length : length (mid_of (a + length ids) (a + n - (a + length ids)) (put_mid a (a + length ids - a) xs ids)) ≡ n - length ids
  nothing_length =
      let e : a + n - (a + length ids) ≡ n - length ids = omega arith in
      rw (ids_written, e, ← length-front, drop-append_seam front rest) (omega (arith, length-rest, length-take (n - length ids) rest))

  pub parts_written : put_mid (a + length ids) (a + n - (a + length ids)) (put_mid a (a + length ids - a) xs ids) (replicate (n - length ids) 0) ≡ take a xs ++ (padded n ids ++ drop (a + n) xs)
  parts_written =
      let e : a + n - (a + length ids) ≡ n - length ids = omega arith in
      let zeros : List ℕ = replicate (n - length ids) 0 in
      rw (ids_written, e, ← length-front, drop-append_seam front rest, take-append_seam front rest, rest_after, ← padded_is n ids l)
      (rw (append_assoc (take a xs) ids (zeros ++ drop (a + n) xs), append_assoc ids zeros (drop (a + n) xs)))

-- the writes of the code, in its own numbers
pub replace_written : (p : HNSWParams) (links : List ℕ) (id level start n : ℕ) (ids ids' zeros : List ℕ) → HasList p links id level → length ids ≤ slots p level → start ≡ list_start p id level → n ≡ slots p level → ids' ≡ ids → zeros ≡ replicate (length (mid_of (start + 1 + length ids) (start + 1 + n - (start + 1 + length ids)) (put_mid (start + 1) (start + 1 + length ids - (start + 1)) links ids'))) 0 → set (put_mid (start + 1 + length ids) (start + 1 + n - (start + 1 + length ids)) (put_mid (start + 1) (start + 1 + length ids - (start + 1)) links ids') zeros) start (length ids) ≡ replaced p links id level ids
unfolding replaced
replace_written p links id level start n ids ids' zeros h l e f w z =
    let s : suc start ≡ start + 1 = omega arith in
    let rest = padded n ids ++ drop (start + 1 + n) links in
    let room : start + 1 + n ≤ length links = omega (arith, h.within) in
    let few : length ids ≤ n = omega arith in
    let front : set (take (start + 1) links) start (length ids) ≡ take start links ++ (length ids ∷ []) =
    sym (take-set-lt (start + 1) links start (length ids) (omega arith)) ∙ rw (← s) (take-suc-set links start (length ids) (omega arith)) in
    rw (z, w, nothing_length links ids (start + 1) n room few, parts_written links ids (start + 1) n room few, ← e, ← f)
    (set-append_left (take (start + 1) links) rest start (length ids) (omega (arith, length-take (start + 1) links))
    ∙ ap (λ (r : List ℕ). r ++ rest) front
    ∙ append_assoc (take start links) (length ids ∷ []) rest
    ∙ sym (append_assoc (take start links) (length ids ∷ padded n ids) (drop (start + 1 + n) links)))
