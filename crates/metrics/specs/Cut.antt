-- 01: "Then a NaN or positive infinity becomes the largest finite f32, negative infinity its negative."
use Rattle.std.specs.Prelude.{true, false, Float}
use Rattle.std.specs.Float.{nan, inf, fin, binary32}
use Rattle.std.specs.Float.Ieee.{neg, of_bits}

-- the largest finite f32, by its bits
abbrev pub largest : Float
largest = of_bits binary32 0x7F7F_FFFF

unfoldable pub cut : Float → Float
cut nan = largest
cut (inf false) = largest
cut (inf true) = neg largest
cut (fin s m e) = fin s m e
