-- The items of a file, as C is told of them.
use Rattle.std.specs.Prelude.{ℕ, ◌≡◌, ◌≤◌, ◌+◌, ◌↔◌, ◌⊎◌, false, IsTrue}
use Rattle.std.specs.Prelude.{List, [], ◌∷◌, ◌++◌, length}
use Rattle.std.specs.Prelude.{Some, None}
use Rattle.std.specs.List.{flat_map}
use Rattle.std.specs.declared.alloc.Global.{Global}
use Rattle.dotenvy.specs.Environment.{Texts}
use Rattle.dotenvy.specs.Iter.{IterState}
use Rattle.dotenvy.specs.NextItem.{Item, NextItem}
use Rattle.dotenvy_c.specs.declared.items.Item as rust
use Rattle.dotenvy_c.specs.declared.items.Counts.{Counts}
use Rattle.dotenvy_c.specs.declared.items.Records.{Records}
use Rattle.dotenvy_c.specs.Block.{block_names}
use Rattle.dotenvy_c.specs.File.{fresh_file}
use Rattle.dotenvy_c.specs.Options.{bytes_asked, dialect_of}
use Rattle.dotenvy_c.specs.Places.{lines_at, lines_bytes}
use Rattle.dotenvy_c.specs.Buffer.{written_if}
use Rattle.dotenvy_c.specs.Told.{ToldItem, ToldResult, item_told}
use Rattle.dotenvy_c.specs.Asked.{AreAsked}

-- what C is told of a call of `next_item` from s to t
pub record TellsItem (names : Texts) (s : IterState) (told : ToldItem) (t : IterState)
    : Type 0 where
  pub item : Item Global
  pub next : NextItem names s (Some item) t
  pub tells : item_told item ≡ Some told.0
  pub lines : t.item_lines ≡ told.1

-- calls of `next_item` from s on give these items one after another, and then `None`
abbrev pub TellsItems : Texts → IterState → List ToldItem → Type 0
TellsItems names s [] = (t : IterState) × NextItem {A = Global} names s None t
TellsItems names s (told ∷ later) =
    (t : IterState) × TellsItem names s told t × TellsItems names t later

-- the key and the text of an item, one after the other
abbrev pub item_text : ToldItem → List ℕ
item_text told = told.0.key ++ told.0.text

-- the record of an item whose key begins here, and whose lines have this place in the file
abbrev pub record_at : ℕ → ToldItem → ℕ × ℕ → rust.Item
record_at at told place = record {
  status = told.0.status;
  key_at = at;
  key_len = length told.0.key;
  text_len = length told.0.text;
  index = told.0.index;
  first_line = told.1.0;
  last_line = told.1.1;
  file_at = place.0;
  file_len = place.1;
  reserved = 0 ∷ 0 ∷ [];
}

-- the place of the lines of an item in the file
abbrev pub place_in : List ℕ → ToldItem → ℕ × ℕ
place_in file told = (lines_at file told.1, lines_bytes file told.1)

-- the records of items of a file whose texts begin here
abbrev pub records_from : List ℕ → ℕ → List ToldItem → List rust.Item
records_from file at [] = []
records_from file at (told ∷ later) =
    record_at at told (place_in file told) ∷ records_from file (at + length (item_text told)) later

-- the keys and texts of items
abbrev pub texts_of : List ToldItem → List ℕ
texts_of = flat_map item_text

-- the records of the items of a file under the environment of a block, as the options ask
pub record HasRecords (options : ℕ) (file block : List ℕ) (records : Records) : Type 0 where
  pub given : List ToldItem
  pub tells :
      TellsItems (block_names block) (fresh_file (bytes_asked options file) (dialect_of options))
      given
  pub told : List ToldItem
  pub asked : AreAsked options file given told
  pub items : records.items.items ≡ records_from file 0 told
  pub text : records.text.items ≡ texts_of told

-- no items were written, for the reason that this status names
abbrev pub refused_items : ℕ → Counts
refused_items status = record {
  status = status;
  fits = false;
  items = 0;
  text_len = 0;
  reserved = 0 ∷ 0 ∷ [];
}

-- a call for items is refused, for the reason that this status names, and writes nothing
abbrev pub RefusesItems : ℕ → Counts → List rust.Item → List rust.Item → List ℕ → List ℕ → Type 0
RefusesItems status counts old_items new_items old new =
    (counts ≡ refused_items status) × (new_items ≡ old_items) × (new ≡ old)

-- an item that is on these lines, which have this place, was added to records, as it is told
pub record AddsItem (item : Item Global) (lines place : ℕ × ℕ) (old new : Records)
    : Type 0 where
  pub told : ToldResult
  pub tells : item_told item ≡ Some told
  pub items :
      new.items.items
      ≡ old.items.items ++ record_at (length old.text.items) (told, lines) place ∷ []
  pub text : new.text.items ≡ old.text.items ++ item_text (told, lines)

-- the answer to a call for the items of a file under the environment of a block: their records and
-- their texts stand in the buffers where both fit, and their numbers are told
pub record AnswersItems (options : ℕ) (file block : List ℕ) (counts : Counts)
    (old_items new_items : List rust.Item) (old new : List ℕ) : Type 0 where
  pub given : List ToldItem
  pub tells :
      TellsItems (block_names block) (fresh_file (bytes_asked options file) (dialect_of options))
      given
  pub told : List ToldItem
  pub asked : AreAsked options file given told
  pub status : counts.status ≡ 0
  pub items : counts.items ≡ length told
  pub text_len : counts.text_len ≡ length (texts_of told)
  pub reserved : counts.reserved ≡ 0 ∷ 0 ∷ []
  pub fits :
      IsTrue counts.fits
      ↔ ((length told ≤ length old_items) × (length (texts_of told) ≤ length old))
  pub records : new_items ≡ written_if counts.fits (records_from file 0 told) old_items
  pub texts : new ≡ written_if counts.fits (texts_of told) old

-- the answer to a call for items; or the call is refused, for the reason that this status names
abbrev pub AnswersItemsOr : ℕ → (options : ℕ) (file block : List ℕ) → Counts → List rust.Item →
    List rust.Item → List ℕ → List ℕ → Type 0
AnswersItemsOr status options file block counts old_items new_items old new =
    AnswersItems options file block counts old_items new_items old new
    ⊎ RefusesItems status counts old_items new_items old new
