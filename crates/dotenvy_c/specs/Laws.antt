-- The laws of blocks, and of what C is told.
use Rattle.std.specs.Prelude.{ℕ, ◌≡◌, ◌<◌, List, length}
use Rattle.dotenvy.specs.Dialect.{Dialect}
use Rattle.dotenvy.specs.Entries.{Entry, HasEntries}
use Rattle.dotenvy.specs.Environment.{Texts}
use Rattle.dotenvy.specs.Input.{most_reads}
use Rattle.dotenvy.specs.Items.{items, no_values}
use Rattle.dotenvy.specs.Marks.{without_mark}
use Rattle.dotenvy.specs.Meaning.{values_of}
use Rattle.dotenvy_c.specs.Block.{FitsBlock, block_names, block_of}
use Rattle.dotenvy_c.specs.File.{fresh_file}
use Rattle.dotenvy_c.specs.Items.{TellsItems}
use Rattle.dotenvy_c.specs.Load.{LoadsFile}
use Rattle.dotenvy_c.specs.Options.{dialect_of, rule_asked}
use Rattle.dotenvy_c.specs.Said.{SaysLoad, SayTold}
use Rattle.dotenvy_c.specs.Told.{ToldItem, ToldResult}

-- the block of an environment stands for that environment
abbrev pub BlockReadsBack : Type 0
BlockReadsBack = (names : Texts) → FitsBlock names → block_names (block_of names) ≡ names

-- of a file of fewer than 2^32 bytes the items are told that it has: all, in order, and no others
abbrev pub ItemsAreTold : Type 0
ItemsAreTold =
    (dialect : Dialect) (file : List ℕ) (names : Texts) (entries : List Entry)
    (told : List ToldItem) →
    length file < most_reads → HasEntries dialect file entries →
    TellsItems names (fresh_file file dialect) told →
    SayTold told (items (values_of names) entries)

-- of a file of fewer than 2^32 bytes a load leaves what its specification says, and its result is
-- told
abbrev pub LoadsAreTold : Type 0
LoadsAreTold =
    (options : ℕ) (file block : List ℕ) (names : Texts) (entries : List Entry) (told : ToldResult) →
    length file < most_reads → HasEntries (dialect_of options) (without_mark file) entries →
    LoadsFile options file block names told →
    SaysLoad (rule_asked options (values_of (block_names block)) no_values entries) names told
