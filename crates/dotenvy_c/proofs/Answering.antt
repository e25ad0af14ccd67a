-- What a load leaves and tells, from what the code does.
use Rattle.std.proofs.Common.{◌≡◌, ℕ, Bool, List, refl, sym}
use Rattle.std.specs.Prelude.{Some, Result, if◌then◌else◌}
use Rattle.std.specs.declared.alloc.Global.{Global}
use Rattle.dotenvy.specs.Environment.{Texts}
use Rattle.dotenvy.specs.Error.{Error}
use Rattle.dotenvy.specs.Iter.{IterState, IsOpen}
use Rattle.dotenvy.specs.LoadsRest.{ChangesKeys, LoadsRest}
use Rattle.dotenvy_c.specs.Block.{FitsBlock, block_names}
use Rattle.dotenvy_c.specs.File.{fresh_file}
use Rattle.dotenvy.specs.Loads.{load_result, override_result}
use Rattle.dotenvy_c.specs.Options.{dialect_of, has_option, rule_asked}
use Rattle.dotenvy_c.specs.Told.{ToldResult, outcome_told}
use Rattle.dotenvy_c.specs.Load.{LoadsFile}

-- a load of a fresh file over the environment of a block
pub loads_file : {options : ℕ} {file block : List ℕ} {start : IterState} {before names : Texts}
    {outcome : Result (Unit {0}) (Error Global)} {told : ToldResult} →
    start ≡ fresh_file file (dialect_of options) → before ≡ block_names block →
    (IsOpen start → LoadsRest (rule_asked options) start before outcome names) → ChangesKeys before names →
    FitsBlock names → Some told ≡ outcome_told outcome → LoadsFile options file block names told
loads_file {options = options} {file = file} {block = block} {start = start} {before = before} {names = names}
    {outcome = outcome} fresh same loads keys fits tells = record {
      outcome = outcome;
      loads = rw (fresh, same) at loads refl;
      keys = rw same at keys;
      fits_block = fits;
      tells = sym tells;
    }

-- the rule that is asked for, by the option that asks for it
pub rule_by : (options : ℕ) (asked : Bool) → asked ≡ has_option options 1 →
    (if asked then override_result else load_result) ≡ rule_asked options
rule_by options asked is = rw is refl
