-- 01: "Bounds, kept as named constants of the parameter type: dimension 1 to 256, capacity 1 to 4,096, both neighbour numbers 1 to 64,
-- `max_level` 0 to 20, both widths 1 to 512."
use Rattle.std.specs.Prelude.{ℕ, Bool, ◌&&◌, leb}
use Rattle.params.specs.declared.Header.{Header}

abbrev pub within : ℕ → ℕ → ℕ → Bool
within n low high = leb low n && leb n high

unfoldable pub within_bounds : Header → Bool
within_bounds h =
    within h.dimension 1 256
    && within h.params.max_item 1 4096
    && within h.params.n_neighbor 1 64
    && within h.params.n_neighbor0 1 64
    && within h.params.max_level 0 20
    && within h.params.ef_build 1 512
    && within h.params.ef_search 1 512
