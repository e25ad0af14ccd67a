-- What C is told says the items and the loads of the grammar.
use Rattle.std.proofs.Common.{ℕ, ◌≡◌, ◌<◌, List, [], ◌∷◌, length, refl, ap, append-nil}
use Rattle.std.specs.Prelude.{Some, None, Result, Ok, Err}
use Rattle.std.specs.declared.alloc.Global.{Global}
use Rattle.std.specs.declared.io.ErrorKind.TheVariants.{Interrupted}
use Rattle.std.proofs.lemmas.Option.{none-some}
use Rattle.dotenvy.specs.Dialect.{Dialect}
use Rattle.dotenvy.specs.Entries.{Entry, Failure, HasEntries, LineParse as said_line, Io as said_io, Nul as said_nul}
use Rattle.dotenvy.specs.Environment.{Texts}
use Rattle.dotenvy.specs.Error.{Error}
use Rattle.dotenvy.specs.Error.TheVariants.{LineParse, Io, EnvVar, Nul, Memory}
use Rattle.dotenvy.specs.Errors.{IsMemory, IsMemoryErr}
use Rattle.dotenvy.specs.Input.{most_reads}
use Rattle.dotenvy.specs.Items.{items}
use Rattle.dotenvy.specs.Iter.{IterState}
use Rattle.dotenvy.specs.Iteration.{GivesItems, IsReadable, NoneRefused, SayItems}
use Rattle.dotenvy.specs.Source.{Ahead}
use Rattle.dotenvy.specs.Meaning.{values_of}
use Rattle.dotenvy.specs.NextItem.{Item, SaysItem}
use Rattle.dotenvy_items.proofs.Iterations.{items_in_order}
use Rattle.dotenvy_c.specs.File.{file_told, fresh_file}
use Rattle.dotenvy_c.specs.Items.{TellsItems}
use Rattle.dotenvy_c.specs.Said.{SayTold, SaysTold}
use Rattle.dotenvy_c.specs.Told.{ToldItem, ToldResult, error_told, item_told, kind_status}

-- the items that C is told of
given_of : (names : Texts) (s : IterState) (told : List ToldItem) → TellsItems names s told → List (Item Global)
given_of names s [] tells = []
given_of names s (first ∷ later) (t, tells, others) = tells.item ∷ given_of names t later others

-- calls of `next_item` give these
gives : (names : Texts) (s : IterState) (told : List ToldItem) (tells : TellsItems names s told) →
    GivesItems names s (given_of names s told tells)
unfolding given_of
gives names s [] tells = tells
gives names s (first ∷ later) (t, tells, others) = (t, tells.next, gives names t later others)

-- an error that is told is no refused memory
pub not_refused_error : (error : Error Global) (told : ToldResult) → error_told error ≡ Some told → ¬ (IsMemory error)
not_refused_error (Memory e) told tells = λ h. none-some told tells
not_refused_error error told tells = λ h. h

-- nor is an item
not_refused : (item : Item Global) (told : ToldResult) → item_told item ≡ Some told → ¬ (IsMemoryErr item)
not_refused (Ok pair) told tells = λ h. h
not_refused (Err error) told tells = not_refused_error error told tells

-- so none of them is
none_refused : (names : Texts) (s : IterState) (told : List ToldItem) (tells : TellsItems names s told) →
    NoneRefused (given_of names s told tells)
unfolding given_of
none_refused names s [] tells = tt
none_refused names s (first ∷ later) (t, tells, others) =
    (not_refused tells.item first.0 tells.tells, none_refused names t later others)

-- what is told is what is said to be told
pub told_is : {one told : ToldResult} → Some one ≡ Some told → one ≡ told
told_is e = cc

-- an error as it is told says the failure that the error says
pub error_says : (error : Error Global) (told : ToldResult) (said : Failure) → error_told error ≡ Some told →
    SaysItem {A = Global} (Err error) (Err said) → SaysTold told (Err said)
error_says (LineParse line place) told (said_line text index) tells says =
    rw (← (told_is tells)) (refl, refl, says.0, says.1)
error_says (Io fault) told (said_io kind) tells says = rw (← (told_is tells)) (ap kind_status says, refl, refl, refl)
error_says (Nul text) told (said_nul key) tells says = rw (← (told_is tells)) (refl, refl, says, refl)
error_says (EnvVar e) told said tells says = absurd (none-some told tells)
error_says (Memory e) told said tells says = absurd (none-some told tells)
error_says error told said tells says = absurd says

-- an item as it is told says what the item says
item_says : (item : Item Global) (told : ToldResult) (said : Result (List ℕ × List ℕ) Failure) →
    item_told item ≡ Some told → SaysItem item said → SaysTold told said
item_says (Ok pair) told (Ok (key, value)) tells says = rw (← (told_is tells)) (refl, says.0, says.1, refl)
item_says (Err error) told (Err failure) tells says = error_says error told failure tells says
item_says item told said tells says = absurd says

-- all items as they are told say what the items say
say_told : (names : Texts) (s : IterState) (told : List ToldItem) (tells : TellsItems names s told)
    (said : List (Result (List ℕ × List ℕ) Failure)) → SayItems (given_of names s told tells) said → SayTold told said
unfolding given_of
say_told names s [] tells [] says = tt
say_told names s (first ∷ later) (t, tells, rest) (one ∷ others) says =
    (item_says tells.item first.0 one tells.tells says.0, say_told names t later rest others says.1)
say_told names s told tells said says = says

-- the items of a file, as they are told, say what its entries give
pub tells_all_items : (dialect : Dialect) (file : List ℕ) (names : Texts) (entries : List Entry)
    (told : List ToldItem) → length file < most_reads → HasEntries dialect file entries →
    TellsItems names (fresh_file file dialect) told → SayTold told (items (values_of names) entries)
tells_all_items dialect file names entries told few has tells =
    let state = fresh_file file dialect in
    let a : Ahead = record { bytes = file; fault = None } in
    let readable : IsReadable a =
    record { few = few; not_interrupted = λ e. none-some Interrupted e } in
    say_told names state told tells (items (values_of names) entries)
    (rw append-nil at (items_in_order dialect (file_told file) a names entries (given_of names state told tells) refl
    readable has (gives names state told tells) (none_refused names state told tells)))
