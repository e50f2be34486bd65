-- The distance of two vectors under a metric, and the metrics' numbers.
use Rattle.std.specs.Prelude.{ℕ, cond, List, eqb, Float}
use Rattle.std.specs.Float.{nan}
use Rattle.std.specs.Float.Ieee.{neg}
use Rattle.metrics.specs.Chain.{total, squared, apart, product}
use Rattle.metrics.specs.Cut.{cut}
use Rattle.metrics.specs.declared.Metric.{Metric}
use Rattle.metrics.specs.declared.Metric.TheVariants.{Unknown, Manhattan, DotProduct, Euclidean, CosineSimilarity, Angular}

-- 01: "Metric numbers follow the Rust's order: Unknown 0, Manhattan 1, DotProduct 2, Euclidean 3, CosineSimilarity 4, Angular 5."
abbrev pub number_of : Metric → ℕ
number_of Unknown = 0
number_of Manhattan = 1
number_of DotProduct = 2
number_of Euclidean = 3
number_of CosineSimilarity = 4
number_of Angular = 5

-- the metric that a number stands for, and Unknown where it stands for none
abbrev pub metric_of : ℕ → Metric
metric_of n =
    cond (eqb n 1) Manhattan
    (cond (eqb n 2) DotProduct
    (cond (eqb n 3) Euclidean
    (cond (eqb n 4) CosineSimilarity
    (cond (eqb n 5) Angular
    Unknown))))

-- before the cut; a metric that 01 leaves out has no distance
abbrev pub measured : Metric → List Float → List Float → Float
measured Unknown xs ys = nan
measured Manhattan xs ys = total apart xs ys
measured DotProduct xs ys = neg (total product xs ys)
measured Euclidean xs ys = total squared xs ys
measured CosineSimilarity xs ys = nan
measured Angular xs ys = nan

unfoldable pub distance_of : Metric → List Float → List Float → Float
distance_of metric xs ys = cut (measured metric xs ys)
