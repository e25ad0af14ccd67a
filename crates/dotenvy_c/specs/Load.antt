-- What a load tells C, and what it writes.
use Rattle.std.specs.Prelude.{ℕ, ◌≡◌, ◌≤◌, ◌↔◌, false, IsTrue, List, [], ◌∷◌, ◌++◌, length}
use Rattle.std.specs.Prelude.{Some, Result}
use Rattle.std.specs.declared.alloc.Global.{Global}
use Rattle.dotenvy.specs.Error.{Error}
use Rattle.dotenvy.specs.Environment.{Texts}
use Rattle.dotenvy.specs.LoadsRest.{ChangesKeys, LoadsRest}
use Rattle.dotenvy_c.specs.declared.load.Answer.{Answer}
use Rattle.dotenvy_c.specs.declared.load.Loaded.{Loaded}
use Rattle.dotenvy_c.specs.Block.{FitsBlock, block_names, block_of}
use Rattle.dotenvy_c.specs.File.{fresh_file}
use Rattle.dotenvy_c.specs.Options.{dialect_of, rule_asked}
use Rattle.dotenvy_c.specs.Buffer.{written_if}
use Rattle.dotenvy_c.specs.Told.{ToldResult, outcome_told}

-- nothing was written, for the reason that this status names
abbrev pub refusal : ℕ → Answer
refusal status = record {
  status = status;
  fits = false;
  index = 0;
  block_len = 0;
  text_len = 0;
  reserved = 0 ∷ 0 ∷ [];
}

-- a load of a file over the environment of a block, as the options ask, leaves these names and
-- tells this of its result
pub record LoadsFile (options : ℕ) (file block : List ℕ) (names : Texts) (told : ToldResult)
    : Type 0 where
  pub outcome : Result (Unit {0}) (Error Global)
  pub loads :
      LoadsRest (rule_asked options) (fresh_file file (dialect_of options)) (block_names block)
      outcome names
  pub keys : ChangesKeys (block_names block) names
  pub fits_block : FitsBlock names
  pub tells : outcome_told outcome ≡ Some told

-- what is to be written of a load: its block, and the text of its error
pub record IsLoaded (options : ℕ) (file block : List ℕ) (loaded : Loaded) : Type 0 where
  pub names : Texts
  pub told : ToldResult
  pub loads : LoadsFile options file block names told
  pub bytes : loaded.bytes.items ≡ block_of names ++ told.text
  pub block_len : loaded.block_len ≡ length (block_of names)
  pub text_len : loaded.text_len ≡ length told.text
  pub status : loaded.status ≡ told.status
  pub index : loaded.index ≡ told.index

-- the answer to a load: the block of the names that it leaves, and the text of its error, stand in
-- the buffer where they fit, and their lengths are told
pub record AnswersLoad (options : ℕ) (file block : List ℕ) (answer : Answer) (old new : List ℕ)
    : Type 0 where
  pub names : Texts
  pub told : ToldResult
  pub loads : LoadsFile options file block names told
  pub status : answer.status ≡ told.status
  pub index : answer.index ≡ told.index
  pub block_len : answer.block_len ≡ length (block_of names)
  pub text_len : answer.text_len ≡ length told.text
  pub reserved : answer.reserved ≡ 0 ∷ 0 ∷ []
  pub fits : IsTrue answer.fits ↔ (length (block_of names ++ told.text) ≤ length old)
  pub written : new ≡ written_if answer.fits (block_of names ++ told.text) old
