-- 01: "A table passes when, in this order:" the rules R1 to R9, each as a test at one place.
use Rattle.std.specs.Prelude.{ℕ, ◌*◌, Bool, true, false, not, ◌&&◌, ◌||◌, cond, List, [], ◌∷◌, leb, ltb, eqb, Float, get_or}
use Rattle.std.specs.List.{list_all, list_any, range_with_len}
use Rattle.std.specs.Float.{nan, inf, fin}
use Rattle.std.specs.Float.Ieee.Scale.{finite}
use Rattle.params.specs.declared.Header.{Header}
use Rattle.table.specs.Layout.{slots, count_at, list_at, slack_at}

-- "R1 built <= added <= capacity."
abbrev pub r1 : Header → Bool
r1 h = leb h.built h.added && leb h.added h.params.max_item

-- "R2 metric is 0 to 3, and 1 to 3 if built is above 0."
abbrev pub r2 : Header → Bool
r2 h = leb h.metric 3 && (eqb h.built 0 || leb 1 h.metric)

-- "R3 levels of added ids are at most `max_level`; id 0, if added, has `max_level`; levels of ids not added are 0."
unfoldable pub r3 : Header → List ℕ → ℕ → Bool
r3 h levels id =
    cond (ltb id h.added)
    (leb (get_or levels id 0) h.params.max_level && (not (eqb id 0) || eqb (get_or levels id 0) h.params.max_level))
    (eqb (get_or levels id 0) 0)

-- "R4 marks are 0 or 1; 1 only on built ids and with `has_deletion`."
unfoldable pub r4 : Header → List ℕ → ℕ → Bool
r4 h marks id = leb (get_or marks id 0) 1 && (eqb (get_or marks id 0) 0 || (ltb id h.built && h.params.has_deletion))

-- a coordinate of all zero bits: +0.0
unfoldable pub is_zero : Float → Bool
is_zero nan = false
is_zero (inf s) = false
is_zero (fin s m e) = not s && eqb m 0

-- "R5 coordinates of added ids are finite; the rest are all zero bits." at the coordinate j of the whole table
unfoldable pub r5 : Header → List Float → ℕ → Bool
r5 h vectors j = cond (ltb j (h.added * h.dimension)) (finite (get_or vectors j nan)) (is_zero (get_or vectors j nan))

-- the same at each coordinate of an id
abbrev pub r5_row : Header → List Float → ℕ → Bool
r5_row h vectors id = list_all (r5 h vectors) (range_with_len (id * h.dimension) h.dimension)

-- "R6 no count exceeds its slots; counts are 0 on unbuilt ids and above an id's own level."
unfoldable pub r6 : Header → List ℕ → List ℕ → ℕ → ℕ → Bool
r6 h levels links id level =
    leb (count_at h.params links id level) (slots h.params level)
    && ((ltb id h.built && leb level (get_or levels id 0)) || eqb (count_at h.params links id level) 0)

abbrev pub is_nothing : ℕ → Bool
is_nothing x = eqb x 0

-- "R7 slots past a count are 0."
unfoldable pub r7 : Header → List ℕ → ℕ → ℕ → Bool
r7 h links id level = list_all is_nothing (slack_at h.params links id level)

-- "R8 a listed id is built, is not the owner, and has at least the list's level."
abbrev pub may_list : Header → List ℕ → ℕ → ℕ → ℕ → Bool
may_list h levels id level x = ltb x h.built && not (eqb x id) && leb level (get_or levels x 0)

unfoldable pub r8 : Header → List ℕ → List ℕ → ℕ → ℕ → Bool
r8 h levels links id level = list_all (may_list h levels id level) (list_at h.params links id level)

-- "R9 no list holds an id twice."
abbrev pub contains : ℕ → List ℕ → Bool
contains x xs = list_any (λ y. eqb y x) xs

unfoldable pub distinct : List ℕ → Bool
distinct [] = true
distinct (x ∷ xs) = not (contains x xs) && distinct xs

unfoldable pub r9 : Header → List ℕ → ℕ → ℕ → Bool
r9 h links id level = distinct (list_at h.params links id level)
