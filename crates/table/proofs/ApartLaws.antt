-- No two lists share a place of the link table, so what is written in one leaves every other. Assumes nothing.
use mathlib.Core.Path.{◌≡◌, sym, ap, ◌∙◌}
use mathlib.Core.Logic.{◌⊎◌, inl, inr, ◌≢◌}
use Prim.Native.Nat.{ℕ, suc, ◌+◌, ◌-◌, ◌*◌, ◌≤◌, ◌<◌}
use native.Mathlib.Nat.{eq-zero-or-pos, mul-le-mul_right, suc-mul}
use native.Mathlib.Omega.{arith}
use mathlib.Core.Bool.{cond}
use lib.Dec.{eqb}
use borrow.Author.Tests.{eq-eqb, ne_eqb}
use Rattle.params.specs.declared.HNSWParams.{HNSWParams}
use Rattle.table.specs.Layout.{block, slots, list_start, count_at, slots_at, list_at, slack_at}
use mathlib.Core.List.{List}
use lib.ListN.{get_or, take, drop}
use lib.Seq.{take-take, drop-drop, get_or-take, get_or-drop}
use Rattle.table.proofs.ShapeLaws.{in_block}
use Rattle.std.proofs.lemmas.List.{drop-take}

-- where a list ends
abbrev pub list_end : HNSWParams → ℕ → ℕ → ℕ
list_end p id level = list_start p id level + 1 + slots p level

-- where a list stands within its block
abbrev shift : HNSWParams → ℕ → ℕ
shift p level = cond (eqb level 0) 0 (1 + p.n_neighbor0 + (level - 1) * (1 + p.n_neighbor))

levels_apart : (p : HNSWParams) (low high : ℕ) → low < high → shift p low + 1 + slots p low ≤ shift p high
levels_apart p low high h =
    let w = 1 + p.n_neighbor in
    rw (ne_eqb high 0 (λ e. omega arith))
    (elim (eq-zero-or-pos low) [
      | inl z ↦ rw (eq-eqb low 0 z) (omega arith)
      | inr q ↦
          let l : suc (low - 1) * w ≤ (high - 1) * w = mul-le-mul_right {m = suc (low - 1)} {n = high - 1} w (omega arith) in
          rw (ne_eqb low 0 (λ e. omega arith)) (omega (arith, suc-mul (low - 1) w))
    ])

ids_apart : (p : HNSWParams) (low high level other : ℕ) → low < high → level ≤ p.max_level → list_end p low level ≤ list_start p high other
unfolding list_start
ids_apart p low high level other h l =
    let m : suc low * block p ≤ high * block p = mul-le-mul_right {m = suc low} {n = high} (block p) h in
    omega (arith, suc-mul low (block p), in_block p level l)

same_id : (p : HNSWParams) (id low high : ℕ) → low < high → list_end p id low ≤ list_start p id high
unfolding list_start
same_id p id low high h = omega (arith, levels_apart p low high h)

pub lists_apart : (p : HNSWParams) (id level id' level' : ℕ) → level ≤ p.max_level → level' ≤ p.max_level → (id ≡ id' → level ≢ level') → (list_end p id level ≤ list_start p id' level') ⊎ (list_end p id' level' ≤ list_start p id level)
lists_apart p id level id' level' l l' other = elim (eq-zero-or-pos (id' - id)) [
  | inr a ↦ inl (ids_apart p id id' level level' (omega arith) l)
  | inl a ↦ elim (eq-zero-or-pos (id - id')) [
    | inr b ↦ inr (ids_apart p id' id level' level (omega arith) l')
    | inl b ↦
        let same : id ≡ id' = omega arith in
        elim (eq-zero-or-pos (level' - level)) [
          | inr d ↦ inl (rw (← same) (same_id p id level level' (omega arith)))
          | inl d ↦ elim (eq-zero-or-pos (level - level')) [
            | inr e ↦ inr (rw (← same) (same_id p id level' level (omega arith)))
            | inl e ↦ absurd (other same (omega arith))
          ]
        ]
  ]
]

-- ---- two tables that are alike before s, or from e on

same_below : (xs ys : List ℕ) (s j k : ℕ) → take s xs ≡ take s ys → j + k ≤ s → take k (drop j xs) ≡ take k (drop j ys)
same_below xs ys s j k t h = seen xs ∙ ap (λ (zs : List ℕ). drop j (take (j + k) zs)) t ∙ sym (seen ys)
  where
    seen : (zs : List ℕ) → take k (drop j zs) ≡ drop j (take (j + k) (take s zs))
    seen zs = rw (take-take (j + k) s zs h, drop-take j k zs)

same_above : (xs ys : List ℕ) (e j : ℕ) → drop e xs ≡ drop e ys → e ≤ j → drop j xs ≡ drop j ys
same_above xs ys e j t h =
    let k : e + (j - e) ≡ j = omega arith in
    rw (← k, ← drop-drop (j - e) e xs, ← drop-drop (j - e) e ys, t)

below_at : (xs ys : List ℕ) (s j : ℕ) → take s xs ≡ take s ys → j < s → get_or xs j 0 ≡ get_or ys j 0
below_at xs ys s j t h = sym (get_or-take s xs j 0 h) ∙ ap (λ (zs : List ℕ). get_or zs j 0) t ∙ get_or-take s ys j 0 h

above_at : (xs ys : List ℕ) (e j : ℕ) → drop e xs ≡ drop e ys → e ≤ j → get_or xs j 0 ≡ get_or ys j 0
above_at xs ys e j t h =
    let k : e + (j - e) ≡ j = omega arith in
    rw (← k) (sym (get_or-drop e xs (j - e) 0) ∙ ap (λ (zs : List ℕ). get_or zs (j - e) 0) t ∙ get_or-drop e ys (j - e) 0)

-- ---- what is written in one list leaves every other list

module _ (p : HNSWParams) (new old : List ℕ) (id level : ℕ) (before : take (list_start p id level) new ≡ take (list_start p id level) old) (behind : drop (list_end p id level) new ≡ drop (list_end p id level) old) (id' level' : ℕ) (l : level ≤ p.max_level) (l' : level' ≤ p.max_level) (other : id ≡ id' → level ≢ level') where
  pub elsewhere_count : count_at p new id' level' ≡ count_at p old id' level'
  unfolding count_at
  elsewhere_count = elim (lists_apart p id level id' level' l l' other) [
    | inl a ↦ above_at new old (list_end p id level) (list_start p id' level') behind a
    | inr a ↦ below_at new old (list_start p id level) (list_start p id' level') before (omega arith)
  ]

  elsewhere_slots : slots_at p new id' level' ≡ slots_at p old id' level'
  unfolding slots_at
  elsewhere_slots = elim (lists_apart p id level id' level' l l' other) [
    | inl a ↦ ap (take (slots p level')) (same_above new old (list_end p id level) (list_start p id' level' + 1) behind (omega arith))
    | inr a ↦ same_below new old (list_start p id level) (list_start p id' level' + 1) (slots p level') before a
  ]

  pub elsewhere_list : list_at p new id' level' ≡ list_at p old id' level'
  unfolding list_at
  elsewhere_list = rw (elsewhere_count, elsewhere_slots)

  pub elsewhere_slack : slack_at p new id' level' ≡ slack_at p old id' level'
  unfolding slack_at
  elsewhere_slack = rw (elsewhere_count, elsewhere_slots)
