-- A file that is in memory.
use Rattle.std.specs.Prelude.{ℕ, List, [], Some, None}
use Rattle.dotenvy.specs.Dialect.{Dialect}
use Rattle.dotenvy.specs.Iter.{IterState, fresh}
use Rattle.dotenvy.specs.Source.{Told}

-- what a file of these bytes tells before it is read
abbrev pub file_told : List ℕ → Told
file_told bytes = record {
  ahead = Some (record { bytes = bytes; fault = None });
  calls = None;
  references = [];
}

-- an iterator over a file of these bytes, of which nothing was read yet
abbrev pub fresh_file : List ℕ → Dialect → IterState
fresh_file bytes dialect = fresh (file_told bytes) dialect
