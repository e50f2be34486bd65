-- Every list of an id within the capacity lies within the link table. Assumes nothing.
use mathlib.Core.Path.{◌≡◌}
use mathlib.Core.Logic.{inl, inr}
use Prim.Native.Nat.{ℕ, suc, ◌+◌, ◌-◌, ◌*◌, ◌≤◌, ◌<◌}
use native.Mathlib.Nat.{eq-zero-or-pos, mul-le-mul_right, suc-mul}
use native.Mathlib.Omega.{arith}
use mathlib.Core.Bool.{true, ◌&&◌, cond}
use mathlib.Core.List.{List}
use lib.Dec.{eqb}
use lib.ListN.{length}
use borrow.Author.Tests.{eqb-true, eq-eqb, ne_eqb}
use Rattle.std.proofs.lemmas.Bool.{and_parts}
use Rattle.params.specs.declared.HNSWParams.{HNSWParams}
use Rattle.params.specs.declared.Header.{Header}
use Rattle.table.specs.Layout.{block, slots, list_start, HasList, Shaped, lengths_hold}

-- a list lies within its id's block
pub in_block : (p : HNSWParams) (level : ℕ) → level ≤ p.max_level → cond (eqb level 0) 0 (1 + p.n_neighbor0 + (level - 1) * (1 + p.n_neighbor)) + 1 + slots p level ≤ block p
unfolding block
in_block p level h = elim (eq-zero-or-pos level) [
  | inl z ↦ rw (eq-eqb level 0 z) (omega arith)
  | inr q ↦
      let w = 1 + p.n_neighbor in
      let l : suc (level - 1) * w ≤ p.max_level * w = mul-le-mul_right {m = suc (level - 1)} {n = p.max_level} w (omega arith) in
      rw (ne_eqb level 0 (λ e. omega arith)) (omega (arith, suc-mul (level - 1) w))
]

pub lies_within : (h : Header) (links : List ℕ) (id level : ℕ) → length links ≡ h.params.max_item * block h.params → id < h.params.max_item → level ≤ h.params.max_level → HasList h.params links id level
unfolding list_start
lies_within h links id level e i l =
    let p = h.params in
    let whole : suc id * block p ≤ p.max_item * block p = mul-le-mul_right {m = suc id} {n = p.max_item} (block p) i in
    record { within = omega (arith, suc-mul id (block p), in_block p level l, e) }

pub has_list : (h : Header) (levels links : List ℕ) (id level : ℕ) → Shaped h levels links → id < h.params.max_item → level ≤ h.params.max_level → HasList h.params links id level
has_list h levels links id level s i l = lies_within h links id level s.links_length i l

-- the lengths, as equations
pub record Lengths (h : Header) (vectors levels marks links : ℕ) : Type 0 where
  pub vectors_are : vectors ≡ h.params.max_item * h.dimension
  pub levels_are : levels ≡ h.params.max_item
  pub marks_are : marks ≡ h.params.max_item
  pub links_are : links ≡ h.params.max_item * block h.params

pub lengths_are : (h : Header) (vectors levels marks links : ℕ) → lengths_hold h vectors levels marks links ≡ true → Lengths h vectors levels marks links
unfolding lengths_hold
lengths_are h vectors levels marks links e =
    let n = h.params.max_item in
    let a = eqb vectors (n * h.dimension) in
    let b = eqb levels n in
    let c = eqb marks n in
    let d = eqb links (n * block h.params) in
    let abc = and_parts (a && b && c) d e in
    let ab = and_parts (a && b) c abc.0 in
    let both = and_parts a b ab.0 in
    record {
      vectors_are = eqb-true vectors (n * h.dimension) both.0;
      levels_are = eqb-true levels n both.1;
      marks_are = eqb-true marks n ab.1;
      links_are = eqb-true links (n * block h.params) abc.1;
    }
