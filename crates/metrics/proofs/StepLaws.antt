-- A fold that adds a term of each pair of two slices gives the sum; so it does over each n-th pair where n is 1. Assumes nothing.
-- The second law is there so that `must-fail/every_second` is refused for its number: with 1 in its place the sum is proved.
use mathlib.Core.Path.{◌≡◌, sym, subst, ap, ◌∙◌}
use mathlib.Core.Bool.{Bool, true, false, cond}
use mathlib.Core.List.{List, [], ◌∷◌, map}
use Prim.Native.Nat.{ℕ, ◌+◌}
use native.Mathlib.Omega.{arith}
use lib.Ieee.{Float, binary32, add, of_bits}
use lib.ListN.{length}
use denote.Ref.{Bor}
use denote.Param.Members.{Mut}
use Rattle.std.specs.Prelude.{Option, Some, None}
use Rattle.std.specs.Iterator.{YieldsThen, AlwaysYields, ActsAsOnTwo}
use Rattle.std.specs.Iterator.Runs.{YieldsRun, WholeRun}
use Rattle.std.specs.Iterator.Adapters.{step_by_source, step_by_gap, step_by_first_take, step_by_steps, zip_first, zip_second}
use Rattle.std.specs.List.{fold, zip}
use Rattle.std.specs.Slice.Iter.{iter_rest}
use Rattle.std.proofs.iter.Yields.{fronts}
use Rattle.std.proofs.lemmas.Iterator.{YieldsList, YieldsList-from_slice, YieldsList-from_zip, items_from_drains, zips}
use Rattle.std.proofs.lemmas.List.Folds.{fold-map}
use Rattle.metrics.specs.Chain.{total}

abbrev pub value : Bor Float × Bor Float → Float × Float
value p = (p.0.now, p.1.now)

pub pairs : {s : _} {a b : List Float} → iter_rest (zip_first s) ≡ a → iter_rest (zip_second s) ≡ b → YieldsList (zips fronts fronts) value s (zip a b)
pairs {s} {a} {b} e f = YieldsList-from_zip (YieldsList-from_slice a e) (YieldsList-from_slice b f)

pub folded : {S F : Type 0} {steps : S → Option (Bor Float × Bor Float) → S → Type 0} {s : S} {g : Mut F (Float × ((Bor Float × Bor Float) × Unit {0})) Float} {f : F} {r : Float} (term : Float → Float → Float) (a b : List Float)
    → WholeRun steps s (λ p. (h : Float → Bor Float × Bor Float → Float) → ActsAsOnTwo g f h → r ≡ fold h (of_bits binary32 0) p.items)
    → YieldsList steps value s (zip a b) → ActsAsOnTwo g f (λ sum p. add binary32 sum (term p.0.now p.1.now)) → r ≡ total term a b
unfolding YieldsRun
folded {S} {F} {steps} {s} {g} {f} {r} term a b ran pairs acts =
    let p = ran.0 in
    let drained = p.gave.0 in
    let from : YieldsList steps value p.from (zip a b) = subst (λ x. YieldsList steps value x (zip a b)) (sym ran.1) pairs in
    let items : map value p.items ≡ zip a b = items_from_drains p.items (drained.0, drained.1, λ _. drained.2 ran.2) from in
    ran.3 (λ sum p. add binary32 sum (term p.0.now p.1.now)) acts
    ∙ sym (fold-map (λ sum q. add binary32 sum (term q.0 q.1)) value (of_bits binary32 0) p.items)
    ∙ ap (fold (λ sum q. add binary32 sum (term q.0 q.1)) (of_bits binary32 0)) items

-- ---- each n-th, where n is 1

none_over : (first : Bool) (gap n : ℕ) → gap + 1 ≡ 1 → n ≡ cond first 0 gap → n ≡ 0
none_over true gap n g e = e
none_over false gap n g e = omega arith

module _ {S A : Type 0} (steps : S → Option A → S → Type 0) where
  here : (xs : List A) (s u : S) (r : Option A) → length xs ≡ 0 → YieldsThen steps s xs r u → steps s r u
  here [] s u r l p = subst (λ j. steps j r u) (sym p.1) p.2
  here (x ∷ xs) s u r l p = absurd (omega arith)

  one : (r : Option A) (s t : _) → step_by_gap s + 1 ≡ 1 → step_by_steps steps s r t → steps (step_by_source s) r (step_by_source t)
  one None s t g p = here p.2.1 (step_by_source s) (step_by_source t) None (let z = none_over (step_by_first_take s) (step_by_gap s) p.2.0 g p.2.2 in omega (arith, p.2.4)) p.2.3
  one (Some x) s t g p = here p.2.1 (step_by_source s) (step_by_source t) (Some x) (let z = none_over (step_by_first_take s) (step_by_gap s) p.2.0 g p.2.2 in omega (arith, p.2.4)) p.2.3

  each : {B : Type 0} (v : A → B) (ys : List B) (s : _) → step_by_gap s + 1 ≡ 1 → AlwaysYields steps v (step_by_source s) ys → AlwaysYields (step_by_steps steps) v s ys
  each v [] s g e = λ x j p. e x (step_by_source j) (one (Some x) s j g p)
  each v (y ∷ ys) s g e = (
    (λ j p. e.0 (step_by_source j) (one None s j g p)),
    λ x j p. let m = e.1 x (step_by_source j) (one (Some x) s j g p) in (m.0, each v ys j (omega (arith, p.0)) m.1),
  )

pub each_pair : {S : Type 0} {steps : S → Option (Bor Float × Bor Float) → S → Type 0} {s : _} {u : S} {ys : List (Float × Float)} → step_by_source s ≡ u → step_by_gap s + 1 ≡ 1 → YieldsList steps value u ys → YieldsList (step_by_steps steps) value s ys
each_pair {S} {steps} {s} {u} {ys} e g y = record { runs = each steps value ys s g (subst (λ x. AlwaysYields steps value x ys) (sym e) y.runs) }
