-- The items that were told so far, and those of a whole file.
use Rattle.std.proofs.Common.{ℕ, ◌≡◌, ◌+◌, List, [], ◌∷◌, ◌++◌, length, refl}
use Rattle.std.proofs.Common.{length-append, append-nil, add_assoc, add-zero, zero-add}
use Rattle.std.specs.Prelude.{Some, None}
use Rattle.std.proofs.lemmas.Grind.{flat_map-append}
use Rattle.std.specs.declared.alloc.Global.{Global}
use Rattle.dotenvy.specs.Environment.{Texts}
use Rattle.dotenvy.specs.Iter.{IterState}
use Rattle.dotenvy.specs.NextItem.{Item, NextItem}
use Rattle.dotenvy_c.specs.declared.items.Records.{Records}
use Rattle.dotenvy_c.specs.Asked.{AreAsked, IsAsked}
use Rattle.dotenvy_c.specs.Block.{block_names}
use Rattle.dotenvy_c.specs.File.{fresh_file}
use Rattle.dotenvy_c.specs.Items.{AddsItem, HasRecords, TellsItem, TellsItems}
use Rattle.dotenvy_c.specs.Items.{place_in, record_at, records_from, item_text, texts_of}
use Rattle.dotenvy_c.specs.Options.{bytes_asked, dialect_of}
use Rattle.dotenvy_c.specs.Places.{StandsOn}
use Rattle.dotenvy_c.specs.Told.{ToldItem, ToldResult, item_told}

-- calls of `next_item` from s on gave these items, and left t
abbrev pub TellsUpTo : Texts → IterState → List ToldItem → IterState → Type 0
TellsUpTo names s [] t = s ≡ t
TellsUpTo names s (told ∷ later) t =
    (next : IterState) × TellsItem names s told next × TellsUpTo names next later t

-- from s to t some items were taken, and these are their records
pub record HasTaken (options : ℕ) (file : List ℕ) (names : Texts) (s t : IterState) (records : Records)
    : Type 0 where
  pub given : List ToldItem
  pub tells : TellsUpTo names s given t
  pub told : List ToldItem
  pub asked : AreAsked options file given told
  pub items : records.items.items ≡ records_from file 0 told
  pub text : records.text.items ≡ texts_of told

-- one item more
tells_more : (names : Texts) (s t u : IterState) (told : List ToldItem) (more : ToldItem) →
    TellsUpTo names s told t → TellsItem names t more u → TellsUpTo names s (told ++ more ∷ []) u
tells_more names s t u [] more before next = (u, rw before next, refl)
tells_more names s t u (first ∷ told) more (x, is, before) next =
    (x, is, tells_more names x t u told more before next)

-- and then none
tells_all : (names : Texts) (s t u : IterState) (told : List ToldItem) → TellsUpTo names s told t →
    NextItem {A = Global} names t None u → TellsItems names s told
tells_all names s t u [] before none = (u, rw before none)
tells_all names s t u (first ∷ told) (x, is, before) none = (x, is, tells_all names x t u told before none)

-- the records with one more
records_more : (file : List ℕ) (at : ℕ) (told : List ToldItem) (more : ToldItem) →
    records_from file at (told ++ more ∷ [])
    ≡ records_from file at told ++ record_at (at + length (texts_of told)) more (place_in file more) ∷ []
records_more file at [] more = rw add-zero refl
records_more file at (first ∷ told) more =
    rw (
      records_more file (at + length (item_text first)) told more,
      length-append (item_text first) (texts_of told),
      add_assoc at (length (item_text first)) (length (texts_of told)),
    ) refl

-- the texts with one more
texts_more : (told : List ToldItem) (more : ToldItem) →
    texts_of (told ++ more ∷ []) ≡ texts_of told ++ item_text more
texts_more told more = simp (flat_map-append, append-nil)

-- the items that are asked for with one more
asked_more : (options : ℕ) (file : List ℕ) (given told : List ToldItem) (item asked : ToldItem) →
    AreAsked options file given told → IsAsked options file item asked →
    AreAsked options file (given ++ item ∷ []) (told ++ asked ∷ [])
asked_more options file [] told item asked none is = (asked, [], rw none refl, is, refl)
asked_more options file (first ∷ given) told item asked (one, later, all, first_is, are) is =
    (one, later ++ asked ∷ [], rw all refl, first_is, asked_more options file given later item asked are is)

-- nothing was taken yet
pub none_taken : (options : ℕ) (file : List ℕ) (names : Texts) (s : IterState) (records : Records) →
    records.items.items ≡ [] → records.text.items ≡ [] → HasTaken options file names s s records
none_taken options file names s records no_items no_text =
    record { given = []; tells = refl; told = []; asked = refl; items = no_items; text = no_text }

-- what is told of an item that is asked for in the place of another: that of the other is told so
pub record IsToldFor (options : ℕ) (file : List ℕ) (lines : ℕ × ℕ) (item : Item Global) (told : ToldResult)
    : Type 0 where
  pub given : ToldResult
  pub tells : item_told item ≡ Some given
  pub asked : IsAsked options file (given, lines) (told, lines)

-- an item was taken, and the one that is asked for in its place was added
pub one_taken : {options : ℕ} {file : List ℕ} {names : Texts} {s t u : IterState} {old new : Records}
    {item asked : Item Global} {lines place : ℕ × ℕ} → HasTaken options file names s t old →
    NextItem names t (Some item) u → u.item_lines ≡ lines → StandsOn file lines place →
    (adds : AddsItem asked lines place old new) → IsToldFor options file lines item adds.told →
    HasTaken options file names s u new
one_taken {options = options} {file = file} {names = names} {s = s} {t = t} {u = u} {item = item} {lines = lines}
    before next on stands adds told =
    let one : ToldItem = (told.given, lines) in
    let more : ToldItem = (adds.told, lines) in record {
      given = before.given ++ one ∷ [];
      tells =
          tells_more names s t u before.given one before.tells
          (record { item = item; next = next; tells = told.tells; lines = on });
      told = before.told ++ more ∷ [];
      asked = asked_more options file before.given before.told one more before.asked told.asked;
      items =
          rw (
            adds.items,
            before.items,
            before.text,
            records_more file 0 before.told more,
            zero-add,
            stands.0,
            stands.1,
          ) refl;
      text = rw (adds.text, before.text, texts_more before.told more) refl;
    }

-- all were taken
pub all_taken : {options : ℕ} {file block : List ℕ} {t u : IterState} {records : Records} →
    HasTaken options file (block_names block) (fresh_file (bytes_asked options file) (dialect_of options)) t records →
    NextItem {A = Global} (block_names block) t None u → HasRecords options file block records
all_taken {options} {file} {block} {t} {u} before none = record {
  given = before.given;
  tells =
      tells_all (block_names block) (fresh_file (bytes_asked options file) (dialect_of options)) t u before.given
      before.tells none;
  told = before.told;
  asked = before.asked;
  items = before.items;
  text = before.text;
}

-- there are as many records as items
pub length-records_from : (file : List ℕ) (at : ℕ) (told : List ToldItem) →
    length (records_from file at told) ≡ length told
length-records_from file at [] = refl
length-records_from file at (first ∷ told) =
    rw (length-records_from file (at + length (item_text first)) told) refl
