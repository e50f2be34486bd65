-- The first broken rule in 01's order, and where: the lowest id concerned (a list's owner), and for R6 to R9 the lowest level within that id.
use Rattle.std.specs.Prelude.{ℕ, ◌+◌, Bool, List, Float, Result}
use Rattle.kinds.specs.declared.Id.{Id}
use Rattle.kinds.specs.declared.Level.{Level}
use Rattle.params.specs.declared.Header.{Header}
use Rattle.table.specs.declared.Broken.{Broken}
use Rattle.table.specs.declared.Broken.TheVariants.{R1, R2, R3, R4, R5, R6, R7, R8, R9}
use Rattle.table.specs.First.{unless, and_then, each}
use Rattle.table.specs.Rules.{r1, r2, r3, r4, r5_row, r6, r7, r8, r9}

abbrev pub Verdict : Type 0
Verdict = Result (Unit {0}) Broken

abbrev pub id_of : ℕ → Id
id_of n = record { 0 = n }

abbrev pub level_of : ℕ → Level
level_of n = record { 0 = n }

abbrev pub verdict1 : Header → Verdict
verdict1 h = unless (r1 h) R1

-- R2 to R5
unfoldable pub verdict2to5 : Header → List Float → List ℕ → List ℕ → Verdict
verdict2to5 h vectors levels marks =
    let n = h.params.max_item in
    and_then (unless (r2 h) R2)
    (and_then (each n (λ id. unless (r3 h levels id) (R3 (id_of id))))
    (and_then (each n (λ id. unless (r4 h marks id) (R4 (id_of id))))
    (each n (λ id. unless (r5_row h vectors id) (R5 (id_of id))))))

-- a rule of all lists, by owner, then by level
abbrev pub each_list : Header → (ℕ → ℕ → Bool) → (ℕ → ℕ → Broken) → Verdict
each_list h rule broken = each h.params.max_item (λ id. each (h.params.max_level + 1) (λ level. unless (rule id level) (broken id level)))

-- R6 to R9
unfoldable pub verdict6to9 : Header → List ℕ → List ℕ → Verdict
verdict6to9 h levels links =
    and_then (each_list h (r6 h levels links) (λ id level. R6 (id_of id) (level_of level)))
    (and_then (each_list h (r7 h links) (λ id level. R7 (id_of id) (level_of level)))
    (and_then (each_list h (r8 h levels links) (λ id level. R8 (id_of id) (level_of level)))
    (each_list h (r9 h links) (λ id level. R9 (id_of id) (level_of level)))))

-- R1 to R9, in 01's order
unfoldable pub verdict_of : Header → List Float → List ℕ → List ℕ → List ℕ → Verdict
verdict_of h vectors levels marks links = and_then (verdict1 h) (and_then (verdict2to5 h vectors levels marks) (verdict6to9 h levels links))
