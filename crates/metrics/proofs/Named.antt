-- The distances that 01 names, computed on the definitions that the contracts cite. Assumes nothing.
use mathlib.Core.Path.{◌≡◌, refl}
use Prim.Native.Nat.{ℕ}
use mathlib.Core.List.{[], ◌∷◌}
use lib.Ieee.{binary32, to_bits, of_bits, add, sub, mul, neg}
use Rattle.metrics.specs.declared.Metric.{Metric}
use Rattle.metrics.specs.declared.Metric.TheVariants.{Manhattan, DotProduct, Euclidean}
use Rattle.metrics.specs.Chain.{cleared}
use Rattle.metrics.specs.Cut.{cut}
use Rattle.metrics.specs.Distance.{distance_of}

-- the bits of the distance of (1,2) and (4,-2)
abbrev between : Metric → ℕ
between metric =
    to_bits binary32 (distance_of metric (of_bits binary32 0x3F80_0000 ∷ of_bits binary32 0x4000_0000 ∷ [])
    (of_bits binary32 0x4080_0000 ∷ of_bits binary32 0xC000_0000 ∷ []))

-- "(1,2) and (4,-2): Euclidean 25, Manhattan 7, DotProduct bits 0x80000000."
pub starred : (between Euclidean ≡ 0x41C8_0000) × (between Manhattan ≡ 0x40E0_0000) × (between DotProduct ≡ 0x8000_0000)
unfolding distance_of cleared cut to_bits of_bits add sub mul neg
starred = (refl, refl, refl)
