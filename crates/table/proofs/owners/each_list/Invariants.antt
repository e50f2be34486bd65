-- The rule holds of all lists before.
use Rattle.std.proofs.Common.{◌≡◌, ℕ, ◌<◌, ◌≤◌, true}
use Rattle.params.specs.declared.Header.{Header}
use Rattle.table.specs.declared.lists.List.{List}
use mathlib.Core.List as Listed
use Rattle.table.proofs.owners.each_list.Given as goal

-- P holds of the list of an id at a level
abbrev pub At : (List → Type 0) → Header → Listed.List ℕ → ℕ → ℕ → Type 0
At P header links id level = (list : List) × (list.header ≡ header) × (list.links.now ≡ links) × (list.id.0 ≡ id) × (list.level.0 ≡ level) × P list

abbrev pub invariant-loop-level : goal.invariant-loop-level
invariant-loop-level g l = record {
  owners : (id : ℕ) → id < l.id → (level : ℕ) → level ≤ l.header.params.max_level → At (λ list. goal.F-post g l.holds list true) l.header l.links id level;
  levels : (level : ℕ) → level < l.level → At (λ list. goal.F-post g l.holds list true) l.header l.links l.id level;
}

abbrev pub invariant-loop-id : goal.invariant-loop-id
invariant-loop-id g l = (id : ℕ) → id < l.id → (level : ℕ) → level ≤ l.header.params.max_level → At (λ list. goal.F-post g l.holds list true) l.header l.links id level
