-- What the files that were checked leave for later.
use Rattle.std.specs.Prelude.{◌≡◌, true, false}
use Rattle.dotenvy_checker.specs.declared.run.CheckedFiles.{CheckedFiles}
use Rattle.dotenvy_checker.specs.Checks.{names_in}
use Rattle.dotenvy_checker.specs.Findings.{Declared, has_value}
use Rattle.dotenvy_checker.specs.Folders.{is_among}
use Rattle.dotenvy_checker.specs.Schema.{names_of}
use Rattle.dotenvy_checker.specs.Together.{is_declared, settable, with_names}

-- the names that a file declares are kept: for a schema, if there is one, and for the files after
-- it, if they may use them
pub record KeepsNames {A W : Type 0} (declared : Declared) (old new : CheckedFiles A W) : Type 0 where
  pub schema :
      old.compared ≡ true →
      is_among (names_of new.declared) ≡ has_value (is_among (names_of old.declared)) declared
  pub no_schema : old.compared ≡ false → new.declared ≡ old.declared
  pub together :
      old.together ≡ true →
      names_in new.env.names
      ≡ with_names (names_in old.env.names) (settable (is_declared declared))
  pub alone : old.together ≡ false → new.env ≡ old.env
