-- `test_r6_to_r9` meets its contract: one rule after the other. Assumes nothing.
use Rattle.std.proofs.Common.{ℕ, rules}
use Rattle.table.specs.declared.Broken.{Broken}
use Rattle.table.specs.declared.Broken.TheVariants.{R6, R7, R8, R9}
use Rattle.table.specs.Rules.{r6, r7, r8, r9}
use Rattle.table.specs.Verdict.{id_of, level_of, verdict6to9}
use Rattle.table.proofs.owners.test_r6_to_r9.Goals as goal

abbrev told6 : ℕ → ℕ → Broken
told6 id level = R6 (id_of id) (level_of level)

abbrev told7 : ℕ → ℕ → Broken
told7 id level = R7 (id_of id) (level_of level)

abbrev told8 : ℕ → ℕ → Broken
told8 id level = R8 (id_of id) (level_of level)

abbrev told9 : ℕ → ℕ → Broken
told9 id level = R9 (id_of id) (level_of level)

pub returns-in_err-each_list : goal.returns-in_err-each_list
unfolding verdict6to9
returns-in_err-each_list c =
    let a = c.args in
    let counts = c.each_list.ensures (r6 a.header a.levels.now a.links.now) told6 (λ list b p q k. search rules) (λ id level e k. search rules) in
    rw (← counts, c.in_err-each_list.was) (search rules)

pub returns-in_err-each_list-2 : goal.returns-in_err-each_list-2
unfolding verdict6to9
returns-in_err-each_list-2 c =
    let a = c.args in
    let counts = c.each_list.ensures (r6 a.header a.levels.now a.links.now) told6 (λ list b p q k. search rules) (λ id level e k. search rules) in
    let slack = c.each_list-2.ensures (r7 a.header a.links.now) told7 (λ list b p q k. search rules) (λ id level e k. search rules) in
    rw (← counts, c.in_ok-each_list.was, ← slack, c.in_err-each_list-2.was) (search rules)

pub returns-in_err-each_list-3 : goal.returns-in_err-each_list-3
unfolding verdict6to9
returns-in_err-each_list-3 c =
    let a = c.args in
    let counts = c.each_list.ensures (r6 a.header a.levels.now a.links.now) told6 (λ list b p q k. search rules) (λ id level e k. search rules) in
    let slack = c.each_list-2.ensures (r7 a.header a.links.now) told7 (λ list b p q k. search rules) (λ id level e k. search rules) in
    let listed = c.each_list-3.ensures (r8 a.header a.levels.now a.links.now) told8 (λ list b p q k. search rules) (λ id level e k. search rules) in
    rw (← counts, c.in_ok-each_list.was, ← slack, c.in_ok-each_list-2.was, ← listed, c.in_err-each_list-3.was) (search rules)

pub returns : goal.returns
unfolding verdict6to9
returns c =
    let a = c.args in
    let counts = c.each_list.ensures (r6 a.header a.levels.now a.links.now) told6 (λ list b p q k. search rules) (λ id level e k. search rules) in
    let slack = c.each_list-2.ensures (r7 a.header a.links.now) told7 (λ list b p q k. search rules) (λ id level e k. search rules) in
    let listed = c.each_list-3.ensures (r8 a.header a.levels.now a.links.now) told8 (λ list b p q k. search rules) (λ id level e k. search rules) in
    let twice = c.each_list-4.ensures (r9 a.header a.links.now) told9 (λ list b p q k. search rules) (λ id level e k. search rules) in
    rw (← counts, c.in_ok-each_list.was, ← slack, c.in_ok-each_list-2.was, ← listed, c.in_ok-each_list-3.was, ← twice)
