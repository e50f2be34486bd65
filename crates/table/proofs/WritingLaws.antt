-- What writing a list does to the lists of the link table. Assumes nothing.
use mathlib.Core.Path.{◌≡◌, refl, sym, ap, ◌∙◌}
use Prim.Native.Nat.{ℕ, ◌+◌, ◌≤◌, ◌<◌}
use native.Mathlib.Omega.{arith}
use native.Mathlib.Numerals.{add-one}
use mathlib.Core.Bool.{Bool, true, false, cond}
use mathlib.Core.List.{List, [], ◌∷◌, ◌++◌}
use lib.Dec.{eqb}
use lib.ListN.{length, get_or, set, take, drop, length-set, length-take, length-drop}
use lib.Seq.{get_or-set_same, take-set-le, take-set-lt, take-suc-set, drop-set-lt, drop-set-add}
use Rattle.params.specs.declared.HNSWParams.{HNSWParams}
use Rattle.table.proofs.ApartLaws.{list_end}
use Rattle.table.specs.Layout.{slots, list_start, HasList, count_at, slots_at, list_at, appended}

-- the count, where the code reads it
pub count_is : (p : HNSWParams) (links : List ℕ) (id level start : ℕ) → start ≡ list_start p id level → get_or links start 0 ≡ count_at p links id level
unfolding count_at
count_is p links id level start e = ap (λ (n : ℕ). get_or links n 0) e

chosen_under : (t : Bool) (m n most : ℕ) → m ≤ most → n ≤ most → cond t m n ≤ most
chosen_under true m n most a b = a
chosen_under false m n most a b = b

pub slots_under : (p : HNSWParams) (level most : ℕ) → p.n_neighbor0 ≤ most → p.n_neighbor ≤ most → slots p level ≤ most
slots_under p level most a b = chosen_under (eqb level 0) p.n_neighbor0 p.n_neighbor most a b

-- ---- a list has one more id

pub appended_count : (p : HNSWParams) (links : List ℕ) (id level x : ℕ) → HasList p links id level → count_at p (appended p links id level x) id level ≡ count_at p links id level + 1
unfolding appended
appended_count p links id level x h =
    let s = list_start p id level in
    let c = count_at p links id level in
    sym (count_is p (set (set links (s + 1 + c) x) s (c + 1)) id level s refl)
    ∙ get_or-set_same (set links (s + 1 + c) x) s (c + 1) 0 (omega (arith, h.within, length-set links (s + 1 + c) x))

appended-slots : (p : HNSWParams) (links : List ℕ) (id level x : ℕ) → count_at p links id level < slots p level → slots_at p (appended p links id level x) id level ≡ set (slots_at p links id level) (count_at p links id level) x
unfolding appended slots_at
appended-slots p links id level x f =
    let s = list_start p id level in
    let c = count_at p links id level in
    rw (drop-set-lt (s + 1) (set links (s + 1 + c) x) s (c + 1) (omega arith), drop-set-add (s + 1) links c x) (take-set-lt (slots p level) (drop (s + 1) links) c x f)

length-slots : (p : HNSWParams) (links : List ℕ) (id level : ℕ) → HasList p links id level → length (slots_at p links id level) ≡ slots p level
unfolding slots_at
length-slots p links id level h =
    let s = list_start p id level in
    omega (arith, h.within, length-take (slots p level) (drop (s + 1) links), length-drop (s + 1) links)

pub appended_list : (p : HNSWParams) (links : List ℕ) (id level x : ℕ) → HasList p links id level → count_at p links id level < slots p level → list_at p (appended p links id level x) id level ≡ list_at p links id level ++ (x ∷ [])
unfolding list_at
appended_list p links id level x h f =
    let c = count_at p links id level in
    rw (appended_count p links id level x h, appended-slots p links id level x f, add-one c)
    (take-suc-set (slots_at p links id level) c x (omega (arith, length-slots p links id level h)))

-- ---- nothing outside of the list is written

pub appended_before : (p : HNSWParams) (links : List ℕ) (id level x : ℕ) → take (list_start p id level) (appended p links id level x) ≡ take (list_start p id level) links
unfolding appended
appended_before p links id level x =
    let s = list_start p id level in
    let c = count_at p links id level in
    take-set-le s (set links (s + 1 + c) x) s (c + 1) (omega arith) ∙ take-set-le s links (s + 1 + c) x (omega arith)

pub appended_behind : (p : HNSWParams) (links : List ℕ) (id level x : ℕ) → count_at p links id level < slots p level → drop (list_end p id level) (appended p links id level x) ≡ drop (list_end p id level) links
unfolding appended
appended_behind p links id level x f =
    let s = list_start p id level in
    let c = count_at p links id level in
    drop-set-lt (list_end p id level) (set links (s + 1 + c) x) s (c + 1) (omega arith) ∙ drop-set-lt (list_end p id level) links (s + 1 + c) x (omega arith)
