-- `each_id` meets its contract. Assumes nothing.
use Rattle.std.proofs.Common.{true, sym, ◌∙◌, arith}
use Rattle.table.proofs.FirstLaws.{rule_holds, rule_broken}
use Rattle.table.proofs.places.each_id.Goals as goal

pub returns-then-not-holds : goal.returns-then-not-holds
returns-then-not-holds g c rule told says tells =
    let id = c.loop-id.id in
    rule_broken rule told c.args.n id c.broken.result c.loop-id-test.true (λ j l. sym (says j true (omega arith) (c.loop-id.invariant j l)))
    (sym (says id _ c.loop-id-test.true c.holds.ensures) ∙ c.if-not-holds.true)
    (tells _ _ c.broken.ensures)

pub returns : goal.returns
returns g c rule told says tells = rule_holds rule told c.args.n (λ j l. sym (says j true l (c.loop-id.invariant j (omega arith))))
