-- What `within_bounds` says, as bounds. Assumes nothing.
use mathlib.Core.Path.{◌≡◌, sym, subst}
use Prim.Native.Nat.{ℕ, ◌≤◌}
use mathlib.Core.Bool.{true, ◌&&◌}
use lib.Dec.{T, leb, leb→le}
use lib.Ieee.Fits.{and_l, and_r}
use Rattle.params.specs.declared.Header.{Header}
use Rattle.params.specs.Bounds.{within, within_bounds}

pub record Between (n low high : ℕ) : Type 0 where
  pub from : low ≤ n
  pub to : n ≤ high

pub record Within (h : Header) : Type 0 where
  pub dimension : Between h.dimension 1 256
  pub capacity : Between h.params.max_item 1 4096
  pub neighbors : Between h.params.n_neighbor 1 64
  pub neighbors0 : Between h.params.n_neighbor0 1 64
  pub level : Between h.params.max_level 0 20
  pub build : Between h.params.ef_build 1 512
  pub search : Between h.params.ef_search 1 512

between : (n low high : ℕ) → T (within n low high) → Between n low high
between n low high t = record { from = leb→le low n (and_l (leb low n) (leb n high) t); to = leb→le n high (and_r (leb low n) (leb n high) t) }

pub bounds_hold : (h : Header) → within_bounds h ≡ true → Within h
unfolding within_bounds
bounds_hold h e =
    let a = within h.dimension 1 256 in
    let b = within h.params.max_item 1 4096 in
    let c = within h.params.n_neighbor 1 64 in
    let d = within h.params.n_neighbor0 1 64 in
    let l = within h.params.max_level 0 20 in
    let m = within h.params.ef_build 1 512 in
    let n = within h.params.ef_search 1 512 in
    let t7 : T (a && b && c && d && l && m && n) = subst T (sym e) tt in
    let t6 : T (a && b && c && d && l && m) = and_l (a && b && c && d && l && m) n t7 in
    let t5 : T (a && b && c && d && l) = and_l (a && b && c && d && l) m t6 in
    let t4 : T (a && b && c && d) = and_l (a && b && c && d) l t5 in
    let t3 : T (a && b && c) = and_l (a && b && c) d t4 in
    let t2 : T (a && b) = and_l (a && b) c t3 in
    record {
      dimension = between h.dimension 1 256 (and_l a b t2);
      capacity = between h.params.max_item 1 4096 (and_r a b t2);
      neighbors = between h.params.n_neighbor 1 64 (and_r (a && b) c t3);
      neighbors0 = between h.params.n_neighbor0 1 64 (and_r (a && b && c) d t4);
      level = between h.params.max_level 0 20 (and_r (a && b && c && d) l t5);
      build = between h.params.ef_build 1 512 (and_r (a && b && c && d && l) m t6);
      search = between h.params.ef_search 1 512 (and_r (a && b && c && d && l && m) n t7);
    }
