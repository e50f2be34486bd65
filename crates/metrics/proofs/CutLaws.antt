-- The NaN that the code writes, and what `to_finite` hands back by its three ways out. Assumes nothing.
use mathlib.Core.Path.{◌≡◌, refl}
use mathlib.Core.Bool.{true, false}
use lib.Ieee.{Float, nan, inf, fin, binary32, neg, eq, of_bits}
use Rattle.std.specs.Float.{float_is_finite}
use Rattle.metrics.specs.Cut.{cut, largest}

pub nan_is : of_bits binary32 0x7FC0_0000 ≡ nan
unfolding of_bits
nan_is = refl

pub cut_kept : (x : Float) → float_is_finite x ≡ true → x ≡ cut x
unfolding cut float_is_finite
cut_kept nan h = cc
cut_kept (inf s) h = cc
cut_kept (fin s m e) h = refl

pub cut_minus : (x : Float) → eq x (of_bits binary32 0xFF80_0000) ≡ true → neg largest ≡ cut x
unfolding cut eq of_bits
cut_minus nan h = cc
cut_minus (inf true) h = refl
cut_minus (inf false) h = cc
cut_minus (fin s m e) h = cc

pub cut_rest : (x : Float) → float_is_finite x ≡ false → eq x (of_bits binary32 0xFF80_0000) ≡ false → largest ≡ cut x
unfolding cut float_is_finite eq of_bits
cut_rest nan h k = refl
cut_rest (inf true) h k = cc
cut_rest (inf false) h k = refl
cut_rest (fin s m e) h k = cc
