-- Tests one after the other: the first that fails says what is broken.
use Rattle.std.specs.Prelude.{ℕ, zero, suc, ◌+◌, Bool, cond, Result, Ok, Err}

-- whether a test holds, or what is broken
abbrev pub unless : {E : Type 0} → Bool → E → Result (Unit {0}) E
unless holds broken = cond holds (Ok tt) (Err broken)

-- what the first answers, unless it passes
abbrev pub and_then : {E : Type 0} → Result (Unit {0}) E → Result (Unit {0}) E → Result (Unit {0}) E
and_then (Ok _) rest = rest
and_then (Err broken) rest = Err broken

-- the tests of k places from i on
unfoldable pub each_from : {E : Type 0} → (ℕ → Result (Unit {0}) E) → ℕ → ℕ → Result (Unit {0}) E
each_from test zero i = Ok tt
each_from test (suc k) i = and_then (test i) (each_from test k (i + 1))

-- the tests of the places below n, from the lowest on
abbrev pub each : {E : Type 0} → ℕ → (ℕ → Result (Unit {0}) E) → Result (Unit {0}) E
each n test = each_from test n 0
