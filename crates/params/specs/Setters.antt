-- 01: "each setter takes the parameters and hands them back changed"; "a setter takes any number, tests nothing and changes its one field."
use Rattle.std.specs.Prelude.{ℕ, Bool}
use Rattle.params.specs.declared.HNSWParams.{HNSWParams}

abbrev pub with_max_item : ℕ → HNSWParams → HNSWParams
with_max_item x p = record p { max_item = x }

abbrev pub with_n_neighbor : ℕ → HNSWParams → HNSWParams
with_n_neighbor x p = record p { n_neighbor = x }

abbrev pub with_n_neighbor0 : ℕ → HNSWParams → HNSWParams
with_n_neighbor0 x p = record p { n_neighbor0 = x }

abbrev pub with_max_level : ℕ → HNSWParams → HNSWParams
with_max_level x p = record p { max_level = x }

abbrev pub with_ef_build : ℕ → HNSWParams → HNSWParams
with_ef_build x p = record p { ef_build = x }

abbrev pub with_ef_search : ℕ → HNSWParams → HNSWParams
with_ef_search x p = record p { ef_search = x }

abbrev pub with_has_deletion : Bool → HNSWParams → HNSWParams
with_has_deletion x p = record p { has_deletion = x }
