-- `each_list` meets its contract. Assumes nothing.
use Rattle.std.proofs.Common.{true, refl, sym, ◌∙◌, arith}
use borrow.Author.Count.{below_more}
use Rattle.table.proofs.FirstLaws.{moved, lists_hold, list_breaks}
use Rattle.table.proofs.owners.each_list.Goals as goal
use Rattle.table.proofs.owners.each_list.Goals.{else-loop-level-test, then-loop-level-test+else-not-holds+else-level-level-end}

pub returns-then-not-holds : goal.returns-then-not-holds
returns-then-not-holds g c rule told says tells =
    list_breaks c.args.header rule told c.loop-id.id c.loop-level.level c.broken.result c.loop-id-test.true c.loop-level-test.true
    (λ i l a b. let at = c.loop-level.invariant.owners i a l b in moved rule at.3 at.4 (says at.0 true at.1 at.2 at.5))
    (λ l a. let at = c.loop-level.invariant.levels l a in moved rule at.3 at.4 (says at.0 true at.1 at.2 at.5))
    (sym (says _ _ refl refl c.holds.ensures) ∙ c.if-not-holds.true)
    (tells _ _ _ c.broken.ensures)

pub loop-level-preserved : goal.loop-level-preserved
loop-level-preserved g c = record {
  owners = c.loop-level.invariant.owners;
  levels = below_more _ c.loop-level.level c.loop-level.invariant.levels (_, refl, refl, refl, refl, rw c.if-not-holds.false at c.holds.ensures);
}

pub loop-id-preserved : goal.loop-id-preserved
loop-id-preserved g c =
    below_more _ c.loop-id.id c.loop-level.invariant.owners
    (elim c.loop-level-test.branch [
      | else-loop-level-test w ↦ λ l b. c.loop-level.invariant.levels l (omega arith)
      | then-loop-level-test+else-not-holds+else-level-level-end w ↦ λ l b.
          below_more _ c.loop-level.level c.loop-level.invariant.levels (_, refl, refl, refl, refl, rw w.if-not-holds.false at w.holds.ensures) l (omega arith)
    ])

pub returns : goal.returns
returns g c rule told says tells =
    lists_hold c.args.header rule told (λ i l a b. let at = c.loop-id.invariant i (omega arith) l b in moved rule at.3 at.4 (says at.0 true at.1 at.2 at.5))
