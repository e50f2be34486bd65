-- `is_zero` meets its contract. Assumes nothing.
use Rattle.std.proofs.Common.{sym, ◌∙◌}
use Rattle.table.proofs.Coordinates.{nan_is, zero_bits}
use Rattle.table.proofs.rules.is_zero.Goals as goal

pub returns-then-not-is_nan : goal.returns-then-not-is_nan
returns-then-not-is_nan c = zero_bits c.args.x c.well_formed.0.1 (sym c.is_nan.ensures.value ∙ c.if-not-is_nan.true)

pub returns-else-not-is_nan : goal.returns-else-not-is_nan
returns-else-not-is_nan c = rw c.if-not-is_nan.false (nan_is c.args.x (sym c.is_nan.ensures.value ∙ c.if-not-is_nan.false))
