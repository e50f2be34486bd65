-- The derived comparisons of order numbers, `cmp`, `<` and `<=`, are those of the integers. Assumes nothing.
use Rattle.std.proofs.Common.{◌≡◌, rules}
use Rattle.std.specs.Cmp.Rules.{comparing}
use Rattle.std.specs.Ordering.{int_cmp, partial_lt, partial_le}
use lib.Signed.{lt_z, le_z}
use Rattle.kinds.specs.declared.Order.{Order}
use Rattle.kinds.specs.contracts.OrderOrd.TheImpl.{ghosts as total}
use Rattle.kinds.specs.contracts.OrderPartialOrd.TheImpl.{ghosts}

-- by which a heap's entries are compared
pub cmp_is : (x y : Order) → total.cmp x y ≡ int_cmp x.0 y.0
cmp_is x y = search (comparing, rules)

pub less_is : (x y : Order) → partial_lt ghosts.partial_cmp x y ≡ lt_z x.0 y.0
less_is x y = search (comparing, rules)

pub at_most_is : (x y : Order) → partial_le ghosts.partial_cmp x y ≡ le_z x.0 y.0
at_most_is x y = search (comparing, rules)
