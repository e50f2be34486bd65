-- Where things stand in the four tables.
use Rattle.std.specs.Prelude.{ℕ, zero, suc, ◌+◌, ◌-◌, ◌*◌, ◌≤◌, ◌≡◌, Bool, true, cond, ◌&&◌, List, [], ◌∷◌, ◌++◌, eqb, length, get_or, set, take, drop}
use Rattle.params.specs.declared.HNSWParams.{HNSWParams}
use Rattle.params.specs.declared.Header.{Header}
use Rattle.params.specs.Bounds.{within_bounds}

-- 01: "links, u16, one block per id: a count and `n_neighbor0` slots for level 0, then a count and `n_neighbor` slots for each level from 1 to
-- `max_level`."
unfoldable pub block : HNSWParams → ℕ
block p = 1 + p.n_neighbor0 + p.max_level * (1 + p.n_neighbor)

abbrev pub slots : HNSWParams → ℕ → ℕ
slots p level = cond (eqb level 0) p.n_neighbor0 p.n_neighbor

-- where a list's count stands; its slots stand behind it
unfoldable pub list_start : HNSWParams → ℕ → ℕ → ℕ
list_start p id level = id * block p + cond (eqb level 0) 0 (1 + p.n_neighbor0 + (level - 1) * (1 + p.n_neighbor))

-- the whole list lies within the table
pub record HasList (p : HNSWParams) (links : List ℕ) (id level : ℕ) : Type 0 where
  pub within : list_start p id level + 1 + slots p level ≤ length links

-- levels and links have their lengths, the parameters lie within their bounds, and no more ids are built than there is room for
pub record Shaped (h : Header) (levels links : List ℕ) : Type 0 where
  pub bounded : within_bounds h ≡ true
  pub levels_length : length levels ≡ h.params.max_item
  pub links_length : length links ≡ h.params.max_item * block h.params
  pub counted : h.built ≤ h.params.max_item

unfoldable pub count_at : HNSWParams → List ℕ → ℕ → ℕ → ℕ
count_at p links id level = get_or links (list_start p id level) 0

unfoldable pub slots_at : HNSWParams → List ℕ → ℕ → ℕ → List ℕ
slots_at p links id level = take (slots p level) (drop (list_start p id level + 1) links)

-- the ids that a list holds
unfoldable pub list_at : HNSWParams → List ℕ → ℕ → ℕ → List ℕ
list_at p links id level = take (count_at p links id level) (slots_at p links id level)

-- the slots past a list's count
unfoldable pub slack_at : HNSWParams → List ℕ → ℕ → ℕ → List ℕ
slack_at p links id level = drop (count_at p links id level) (slots_at p links id level)

-- the ids, and nothing in the slots behind them
unfoldable pub padded : ℕ → List ℕ → List ℕ
padded zero ids = []
padded (suc n) [] = 0 ∷ padded n []
padded (suc n) (x ∷ ids) = x ∷ padded n ids

-- a list that holds these ids and no other
unfoldable pub replaced : HNSWParams → List ℕ → ℕ → ℕ → List ℕ → List ℕ
replaced p links id level ids =
    take (list_start p id level) links
    ++ (length ids ∷ padded (slots p level) ids)
    ++ drop (list_start p id level + 1 + slots p level) links

-- one more id behind those that a list holds
unfoldable pub appended : HNSWParams → List ℕ → ℕ → ℕ → ℕ → List ℕ
appended p links id level x =
    set (set links (list_start p id level + 1 + count_at p links id level) x) (list_start p id level) (count_at p links id level + 1)

-- 01: "Four lent buffers, of exactly these lengths: vectors, capacity x dimension f32; levels and marks, capacity bytes each; links"
unfoldable pub lengths_hold : Header → ℕ → ℕ → ℕ → ℕ → Bool
lengths_hold h vectors levels marks links =
    eqb vectors (h.params.max_item * h.dimension)
    && eqb levels h.params.max_item
    && eqb marks h.params.max_item
    && eqb links (h.params.max_item * block h.params)
