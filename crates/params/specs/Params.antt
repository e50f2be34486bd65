-- The parameters and the header.
use Rattle.std.specs.Prelude.{ℕ, false}
use Rattle.params.specs.declared.HNSWParams.{HNSWParams}
use Rattle.params.specs.declared.Header.{Header}

-- 01: "Parameters start from defaults (32, 64, 20, 500, 16, false; capacity 4,096 where the Rust has 1,000,000)"
abbrev pub defaults : HNSWParams
defaults = record {
  max_item = 4096;
  n_neighbor = 32;
  n_neighbor0 = 64;
  max_level = 20;
  ef_build = 500;
  ef_search = 16;
  has_deletion = false;
}

-- "the header it returns holds these with metric, added and built 0"
abbrev pub begun : ℕ → HNSWParams → Header
begun dimension params = record { dimension = dimension; params = params; metric = 0; added = 0; built = 0 }
