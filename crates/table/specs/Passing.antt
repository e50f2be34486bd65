-- 01: "A table passes when, in this order:" R1 to R9 as propositions, each under its line.
use Rattle.std.specs.Prelude.{◌≡◌, ℕ, ◌*◌, ◌<◌, ◌≤◌, true, List, Float, length, get_or}
use Rattle.std.specs.Float.{nan}
use Rattle.std.specs.Float.Ieee.Scale.{finite}
use Rattle.params.specs.declared.Header.{Header}
use Rattle.table.specs.Layout.{slots, count_at, list_at, slack_at}
use Rattle.table.specs.Rules.{is_zero}

-- "R1 built <= added <= capacity."
pub record R1 (h : Header) : Type 0 where
  pub built : h.built ≤ h.added
  pub added : h.added ≤ h.params.max_item

-- "R2 metric is 0 to 3, and 1 to 3 if built is above 0."
pub record R2 (h : Header) : Type 0 where
  pub known : h.metric ≤ 3
  pub set : 0 < h.built → 1 ≤ h.metric

-- "R3 levels of added ids are at most `max_level`; id 0, if added, has `max_level`; levels of ids not added are 0."
pub record R3 (h : Header) (levels : List ℕ) (id : ℕ) : Type 0 where
  pub most : id < h.added → get_or levels id 0 ≤ h.params.max_level
  pub first : id < h.added → id ≡ 0 → get_or levels id 0 ≡ h.params.max_level
  pub rest : h.added ≤ id → get_or levels id 0 ≡ 0

-- "R4 marks are 0 or 1; 1 only on built ids and with `has_deletion`."
pub record R4 (h : Header) (marks : List ℕ) (id : ℕ) : Type 0 where
  pub mark : get_or marks id 0 ≤ 1
  pub built : get_or marks id 0 ≡ 1 → id < h.built
  pub allowed : get_or marks id 0 ≡ 1 → h.params.has_deletion ≡ true

-- "R5 coordinates of added ids are finite; the rest are all zero bits."
pub record R5 (h : Header) (vectors : List Float) (j : ℕ) : Type 0 where
  pub added : j < h.added * h.dimension → finite (get_or vectors j nan) ≡ true
  pub rest : h.added * h.dimension ≤ j → is_zero (get_or vectors j nan) ≡ true

-- "R6 no count exceeds its slots; counts are 0 on unbuilt ids and above an id's own level."
pub record R6 (h : Header) (levels links : List ℕ) (id level : ℕ) : Type 0 where
  pub fits : count_at h.params links id level ≤ slots h.params level
  pub unbuilt : h.built ≤ id → count_at h.params links id level ≡ 0
  pub above : get_or levels id 0 < level → count_at h.params links id level ≡ 0

-- "R7 slots past a count are 0."
pub record R7 (h : Header) (links : List ℕ) (id level : ℕ) : Type 0 where
  pub zero : (i : ℕ) → i < length (slack_at h.params links id level) → get_or (slack_at h.params links id level) i 0 ≡ 0

-- "R8 a listed id is built, is not the owner, and has at least the list's level."
pub record R8 (h : Header) (levels links : List ℕ) (id level : ℕ) : Type 0 where
  pub built : (i : ℕ) → i < length (list_at h.params links id level) → get_or (list_at h.params links id level) i 0 < h.built
  pub other : (i : ℕ) → i < length (list_at h.params links id level) → get_or (list_at h.params links id level) i 0 ≡ id → ⊥
  pub tall : (i : ℕ) → i < length (list_at h.params links id level) → level ≤ get_or levels (get_or (list_at h.params links id level) i 0) 0

-- "R9 no list holds an id twice."
pub record R9 (h : Header) (links : List ℕ) (id level : ℕ) : Type 0 where
  pub once : (i j : ℕ) → i < j → j < length (list_at h.params links id level) → get_or (list_at h.params links id level) i 0 ≡ get_or (list_at h.params links id level) j 0 → ⊥

pub record Passing (h : Header) (vectors : List Float) (levels marks links : List ℕ) : Type 0 where
  pub r1 : R1 h
  pub r2 : R2 h
  pub r3 : (id : ℕ) → id < h.params.max_item → R3 h levels id
  pub r4 : (id : ℕ) → id < h.params.max_item → R4 h marks id
  pub r5 : (j : ℕ) → j < h.params.max_item * h.dimension → R5 h vectors j
  pub r6 : (id level : ℕ) → id < h.params.max_item → level ≤ h.params.max_level → R6 h levels links id level
  pub r7 : (id level : ℕ) → id < h.params.max_item → level ≤ h.params.max_level → R7 h links id level
  pub r8 : (id level : ℕ) → id < h.params.max_item → level ≤ h.params.max_level → R8 h levels links id level
  pub r9 : (id level : ℕ) → id < h.params.max_item → level ≤ h.params.max_level → R9 h links id level
