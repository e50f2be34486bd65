-- What holds of every distance, whatever the metric and the vectors: it is finite, and it is an f32. Assumes nothing.
use mathlib.Core.Path.{◌≡◌, refl}
use mathlib.Core.Bool.{true, false, not}
use mathlib.Core.List.{List, [], ◌∷◌}
use lib.Dec.{T}
use mathlib.Core.Logic.{◌↔◌}
use lib.Signed.{lt_z}
use lib.Ieee.{Float, nan, inf, fin, binary32, neg, add, fits, is_nan, of_bits, lt, eq}
use lib.Ieee.Bits.{of_bits-fits}
use lib.Ieee.Fits.{nan-fits, neg-fits, add-fits}
use lib.Ieee.Scale.{finite}
use Rattle.std.specs.List.{fold, zip}
use Rattle.kinds.specs.Order.{order_of}
use Rattle.kinds.proofs.Compared.{less_as_floats, equal_as_floats}
use Rattle.metrics.specs.declared.Distance.{Distance}
use Rattle.metrics.specs.declared.Metric.{Metric}
use Rattle.metrics.specs.declared.Metric.TheVariants.{Unknown, Manhattan, DotProduct, Euclidean, CosineSimilarity, Angular}
use Rattle.metrics.specs.Chain.{total, squared, apart, product}
use Rattle.metrics.specs.Cut.{cut, largest}
use Rattle.metrics.specs.Distance.{number_of, metric_of, measured, distance_of}

cut_finite : (x : Float) → T (finite (cut x))
unfolding cut neg of_bits
cut_finite nan = tt
cut_finite (inf false) = tt
cut_finite (inf true) = tt
cut_finite (fin s m e) = tt

pub distance_finite : (metric : Metric) (xs ys : List Float) → T (finite (distance_of metric xs ys))
unfolding distance_of
distance_finite metric xs ys = cut_finite (measured metric xs ys)

cut_fits : (x : Float) → T (fits binary32 x) → T (fits binary32 (cut x))
unfolding cut
cut_fits nan h = of_bits-fits binary32 0x7F7F_FFFF
cut_fits (inf false) h = of_bits-fits binary32 0x7F7F_FFFF
cut_fits (inf true) h = neg-fits binary32 largest (of_bits-fits binary32 0x7F7F_FFFF)
cut_fits (fin s m e) h = h

sum_fits : (term : Float → Float → Float) (sum : Float) (pairs : List (Float × Float)) → T (fits binary32 sum) → T (fits binary32 (fold (λ s p. add binary32 s (term p.0 p.1)) sum pairs))
sum_fits term sum [] h = h
sum_fits term sum (p ∷ pairs) h = sum_fits term (add binary32 sum (term p.0 p.1)) pairs (add-fits binary32 sum (term p.0 p.1))

total_fits : (term : Float → Float → Float) (xs ys : List Float) → T (fits binary32 (total term xs ys))
total_fits term xs ys = sum_fits term (of_bits binary32 0) (zip xs ys) (of_bits-fits binary32 0)

measured_fits : (metric : Metric) (xs ys : List Float) → T (fits binary32 (measured metric xs ys))
measured_fits Unknown xs ys = nan-fits binary32
measured_fits Manhattan xs ys = total_fits apart xs ys
measured_fits DotProduct xs ys = neg-fits binary32 (total product xs ys) (total_fits product xs ys)
measured_fits Euclidean xs ys = total_fits squared xs ys
measured_fits CosineSimilarity xs ys = nan-fits binary32
measured_fits Angular xs ys = nan-fits binary32

pub distance_fits : (metric : Metric) (xs ys : List Float) → T (fits binary32 (distance_of metric xs ys))
unfolding distance_of
distance_fits metric xs ys = cut_fits (measured metric xs ys) (measured_fits metric xs ys)

-- so its bits can be taken
finite_no_nan : (x : Float) → T (finite x) → T (not (is_nan x))
unfolding is_nan
finite_no_nan nan h = h
finite_no_nan (inf s) h = tt
finite_no_nan (fin s m e) h = tt

pub distance_no_nan : (metric : Metric) (xs ys : List Float) (d : Distance) → d ≡ record { value = distance_of metric xs ys } → T (not (is_nan d.value))
distance_no_nan metric xs ys d e = rw e (finite_no_nan (distance_of metric xs ys) (distance_finite metric xs ys))

-- and distances stand in the same order by their order numbers and as the floats that the Rust compares
module _ (metric metric' : Metric) (xs ys xs' ys' : List Float) where
  pub nearer_as_floats : lt_z (order_of (distance_of metric xs ys)) (order_of (distance_of metric' xs' ys')) ≡ lt (distance_of metric xs ys) (distance_of metric' xs' ys')
  nearer_as_floats =
      less_as_floats (distance_of metric xs ys) (distance_of metric' xs' ys')
      (distance_finite metric xs ys) (distance_finite metric' xs' ys') (distance_fits metric xs ys) (distance_fits metric' xs' ys')

  pub level_as_floats : (order_of (distance_of metric xs ys) ≡ order_of (distance_of metric' xs' ys')) ↔ T (eq (distance_of metric xs ys) (distance_of metric' xs' ys'))
  level_as_floats =
      equal_as_floats (distance_of metric xs ys) (distance_of metric' xs' ys')
      (distance_finite metric xs ys) (distance_finite metric' xs' ys') (distance_fits metric xs ys) (distance_fits metric' xs' ys')

-- a metric's number stands for it
pub number_back : (metric : Metric) → metric_of (number_of metric) ≡ metric
number_back Unknown = refl
number_back Manhattan = refl
number_back DotProduct = refl
number_back Euclidean = refl
number_back CosineSimilarity = refl
number_back Angular = refl
