-- `test_r2_to_r5` meets its contract: one rule after the other. Assumes nothing.
use Rattle.std.proofs.Common.{ℕ, sym, ◌∙◌, rules}
use Rattle.table.specs.declared.Broken.{Broken}
use Rattle.table.specs.declared.Broken.TheVariants.{R3, R4, R5}
use Rattle.table.specs.Rules.{r3, r4, r5_row}
use Rattle.table.specs.Verdict.{id_of, verdict2to5}
use Rattle.table.proofs.places.test_r2_to_r5.Goals as goal

abbrev told3 : ℕ → Broken
told3 id = R3 (id_of id)

abbrev told4 : ℕ → Broken
told4 id = R4 (id_of id)

abbrev told5 : ℕ → Broken
told5 id = R5 (id_of id)

pub returns-in_err-each_id : goal.returns-in_err-each_id
unfolding verdict2to5
returns-in_err-each_id c =
    let a = c.args in
    let levels = c.each_id.ensures (r3 a.header a.levels.now) told3 (λ i b l k. search rules) (λ i e k. search rules) in
    rw (sym c.r2_holds.ensures ∙ c.if-not-r2_holds.false, ← levels, c.in_err-each_id.was) (search rules)

pub returns-in_err-each_id-2 : goal.returns-in_err-each_id-2
unfolding verdict2to5
returns-in_err-each_id-2 c =
    let a = c.args in
    let levels = c.each_id.ensures (r3 a.header a.levels.now) told3 (λ i b l k. search rules) (λ i e k. search rules) in
    let marks = c.each_id-2.ensures (r4 a.header a.marks.now) told4 (λ i b l k. search rules) (λ i e k. search rules) in
    rw (sym c.r2_holds.ensures ∙ c.if-not-r2_holds.false, ← levels, c.in_ok-each_id.was, ← marks, c.in_err-each_id-2.was) (search rules)

pub returns : goal.returns
unfolding verdict2to5
returns c =
    let a = c.args in
    let levels = c.each_id.ensures (r3 a.header a.levels.now) told3 (λ i b l k. search rules) (λ i e k. search rules) in
    let marks = c.each_id-2.ensures (r4 a.header a.marks.now) told4 (λ i b l k. search rules) (λ i e k. search rules) in
    let rows = c.each_id-3.ensures (r5_row a.header a.vectors.now) told5 (λ i b l k. search rules) (λ i e k. search rules) in
    rw (sym c.r2_holds.ensures ∙ c.if-not-r2_holds.false, ← levels, c.in_ok-each_id.was, ← marks, c.in_ok-each_id-2.was, ← rows)
