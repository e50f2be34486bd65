-- 01: "Coordinates are taken in index order, the sum starts at +0.0, each operation rounds once."
use Rattle.std.specs.Prelude.{List, Float, false, fold}
use Rattle.std.specs.List.{zip}
use Rattle.std.specs.Float.{nan, inf, fin, binary32}
use Rattle.std.specs.Float.Ieee.{add, sub, mul, of_bits}

-- A term for each pair of coordinates is added to the sum so far. The pattern of all zero bits is +0.0.
abbrev pub total : (Float → Float → Float) → List Float → List Float → Float
total term xs ys = fold (λ sum p. add binary32 sum (term p.0 p.1)) (of_bits binary32 0) (zip xs ys)

-- "Euclidean: sum of squared differences (squared, by our choice)."
abbrev pub squared : Float → Float → Float
squared x y = mul binary32 (sub binary32 x y) (sub binary32 x y)

-- the same number with the sign bit clear
unfoldable pub cleared : Float → Float
cleared nan = nan
cleared (inf s) = inf false
cleared (fin s m e) = fin false m e

-- "Manhattan: sum of differences with the sign bit cleared."
abbrev pub apart : Float → Float → Float
apart x y = cleared (sub binary32 x y)

-- "DotProduct: sum of products, negated at the end."
abbrev pub product : Float → Float → Float
product x y = mul binary32 x y
