-- The rule holds of all ids before.
use Rattle.std.proofs.Common.{ℕ, ◌<◌, true}
use Rattle.table.specs.Verdict.{id_of}
use Rattle.table.proofs.places.each_id.Given as goal

abbrev pub invariant-loop-id : goal.invariant-loop-id
invariant-loop-id g l = (id : ℕ) → id < l.id → goal.F-post g l.holds (id_of id) true
