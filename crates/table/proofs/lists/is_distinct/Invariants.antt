-- What is left to test decides the whole.
use Rattle.std.proofs.Common.{◌≡◌, length}
use Rattle.table.specs.Rules.{distinct}
use Rattle.table.proofs.lists.is_distinct.Given as goal

abbrev pub invariant-loop-x : goal.invariant-loop-x
invariant-loop-x l = distinct l.left ≡ distinct l.list

abbrev pub decreases-loop-x : goal.decreases-loop-x
decreases-loop-x l = length l.left
