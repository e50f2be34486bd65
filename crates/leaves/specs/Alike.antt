-- The distance of two vectors that may differ in length: then it is the largest finite f32.
use Rattle.std.specs.Prelude.{cond, List, eqb, Float, length}
use Rattle.metrics.specs.Cut.{largest}
use Rattle.metrics.specs.Distance.{distance_of}
use Rattle.metrics.specs.declared.Metric.{Metric}

abbrev pub distance_or_largest : Metric → List Float → List Float → Float
distance_or_largest metric xs ys = cond (eqb (length xs) (length ys)) (distance_of metric xs ys) largest
