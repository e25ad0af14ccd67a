-- What is told of an item that is asked for with its value as it is written.
use Rattle.std.proofs.Common.{◌≡◌, ◌≢◌, ◌∙◌, ℕ, Bool, true, false, List, [], Some, refl, sym, ap}
use Rattle.std.proofs.Common.{inl, inr, Ok, Err, None, map, drop}
use Rattle.std.specs.Prelude.{◌==◌, ◌-◌, ◌+◌, IfOk, IsSome, Option, option_map, string_bytes}
use Rattle.std.specs.declared.alloc.Global.{Global}
use Rattle.std.specs.declared.string.String.{String}
use Rattle.std.specs.declared.io.ErrorKind.{ErrorKind}
use Rattle.std.specs.declared.io.ErrorKind.TheVariants.{InvalidData}
use Rattle.std.specs.IoError.{error_kind}
use Rattle.std.proofs.lemmas.Bool.{cases_Bool}
use Rattle.std.proofs.lemmas.List.{drop-map}
use Rattle.std.proofs.lemmas.Option.{none-some}
use Rattle.dotenvy.specs.Dialect.{Dialect}
use Rattle.dotenvy.specs.Error.{Error}
use Rattle.dotenvy.specs.Error.TheVariants.{LineParse, Io, EnvVar, Nul, Memory}
use Rattle.dotenvy.specs.LogicalLine.{HasText, IsNext}
use Rattle.dotenvy.specs.NextItem.{Item}
use Rattle.dotenvy.specs.PhysicalLines.{line_text, line_texts, physical_lines}
use Rattle.dotenvy_format.proofs.lines.EntriesOnce.{cut_line_texts}
use Rattle.dotenvy_format.proofs.lines.NextLine.{one_next}
use Rattle.dotenvy_editor.specs.Verbatim.{BeginsVerbatim, Finds}
use Rattle.dotenvy_editor.proofs.SlicesAlone.{texts_some}
use Rattle.dotenvy_editor.proofs.VerbatimLines.{empty_begins, pair_gives}
use Rattle.dotenvy_c.specs.Asked.{HasVerbatim, IsAskedItem, LinesSayVerbatim, with_text}
use Rattle.dotenvy_c.specs.Options.{bytes_asked, dialect_of, has_option}
use Rattle.dotenvy_c.specs.Places.{HasLinesAfter}
use Rattle.dotenvy_c.specs.Told.{ToldResult, error_told, item_told, kind_status}
use Rattle.dotenvy_c.proofs.ItemLines.{SayPair}
use Rattle.dotenvy_c.proofs.SaidItems.{told_is}
use Rattle.dotenvy_c.proofs.Telling.{IsToldFor}

-- the texts of the lines that come after some
texts_after : (bytes rest : List ℕ) (count : ℕ) → HasLinesAfter bytes count rest →
    line_texts rest ≡ drop count (line_texts bytes)
texts_after bytes rest count after =
    ap (map line_text) after ∙ sym (drop-map line_text count (physical_lines bytes))

-- where the rest begins with the line of a pair, that line gives a text
pub has_verbatim : (dialect : Dialect) (bytes rest : List ℕ) (lines : ℕ × ℕ) (item : Item Global) →
    HasLinesAfter bytes (lines.0 - 1) rest → IfOk item (λ given. SayPair dialect bytes lines) →
    HasVerbatim dialect rest item
has_verbatim dialect bytes rest lines (Err error) after says = tt
has_verbatim dialect bytes rest lines (Ok pair) after says =
    let texts = texts_after bytes rest (lines.0 - 1) after in
    let gives = pair_gives dialect says.line says.key says.pieces says.says in
    (gives.0, (lines.1 + 1 - lines.0, says.line, rw texts says.is, gives.1))

-- and the text that the rest gives is that of the lines
lines_say : (dialect : Dialect) (bytes rest text : List ℕ) (lines : ℕ × ℕ) →
    HasLinesAfter bytes (lines.0 - 1) rest → SayPair dialect bytes lines → BeginsVerbatim dialect rest text →
    LinesSayVerbatim dialect bytes lines text
lines_say dialect bytes rest text lines after says (count, line, next, gives) =
    let texts = texts_after bytes rest (lines.0 - 1) after in
    let some : rest ≢ [] = λ none. empty_begins dialect none text (count, line, next, gives) in
    let is : IsNext (line_texts rest) (lines.1 + 1 - lines.0) (HasText says.line) = rw texts says.is in
    let one =
    one_next (line_texts rest) count (lines.1 + 1 - lines.0) (HasText line) (HasText says.line) (texts_some rest some)
    (cut_line_texts rest) next is in
    (line, rw (texts, one.0) at next, gives)

-- where a text is to be found, one was
pub found_some : (P : List ℕ → Type 0) (found : Option (String Global)) (text : List ℕ) → P text →
    Finds P (option_map string_bytes found) → IsSome found
found_some P None text is none = absurd (none text is)
found_some P (Some value) text is finds = refl

-- a pair with the value that was found is asked for
pub pair_asked : (asks : Bool) (dialect : Dialect) (bytes : List ℕ) (item : Item Global)
    (pair : String Global × String Global) (found : Option (String Global)) (value : String Global) → asks ≡ true →
    item ≡ Ok pair → found ≡ Some value → Finds (BeginsVerbatim dialect bytes) (option_map string_bytes found) →
    IsAskedItem asks dialect bytes item (Ok (pair.0, value))
pair_asked asks dialect bytes item pair found value asked is some finds =
    let given : Finds (BeginsVerbatim dialect bytes) (Some (string_bytes value)) = rw some at finds in
    rw (asked, is) (given.0, given.1, value, given.2, refl)

-- an error has another status than a pair
kind_told : (kind : ErrorKind) → (kind_status kind == 0) ≡ false
kind_told InvalidData = refl
kind_told kind = refl

error_status : (error : Error Global) (told : ToldResult) → error_told error ≡ Some told → (told.status == 0) ≡ false
error_status (LineParse line place) told tells = ap (λ (t : ToldResult). t.status == 0) (sym (told_is tells))
error_status (Io fault) told tells =
    ap (λ (t : ToldResult). t.status == 0) (sym (told_is tells)) ∙ kind_told (error_kind fault)
error_status (EnvVar error) told tells = absurd (none-some told tells)
error_status (Nul key) told tells = ap (λ (t : ToldResult). t.status == 0) (sym (told_is tells))
error_status (Memory error) told tells = absurd (none-some told tells)

-- the item that is asked for is told as it has to be
pub told_for : (options : ℕ) (file rest : List ℕ) (lines : ℕ × ℕ) (item asked : Item Global) (told : ToldResult) →
    HasLinesAfter (bytes_asked options file) (lines.0 - 1) rest →
    IfOk item (λ given. SayPair (dialect_of options) (bytes_asked options file) lines) →
    IsAskedItem (has_option options 16) (dialect_of options) rest item asked → item_told asked ≡ Some told →
    IsToldFor options file lines item told
told_for options file rest lines item asked told after says is tells =
    elim (cases_Bool (has_option options 16)) [
      | inl asks ↦ at asks item says (rw asks at is)
      | inr none ↦
          let same : asked ≡ item = rw none at is in
          record { given = told; tells = rw same at tells; asked = inl (rw none refl, refl) }
    ]
  where
    at : has_option options 16 ≡ true → (one : Item Global) →
        IfOk one (λ given. SayPair (dialect_of options) (bytes_asked options file) lines) →
        IsAskedItem true (dialect_of options) rest one asked → IsToldFor options file lines one told
    at asks (Err error) says same =
        let told_error : error_told error ≡ Some told = rw same at tells in record {
          given = told;
          tells = told_error;
          asked = inl (rw asks (error_status error told told_error), refl);
        }
    at asks (Ok pair) says (text, begins, value, bytes, same) =
        let one : ToldResult =
        record { status = 0; key = string_bytes pair.0; text = string_bytes pair.1; index = 0 } in
        let new : Some (record one { text = string_bytes value }) ≡ Some told = rw same at tells in record {
          given = one;
          tells = refl;
          asked =
              inr (
                rw asks refl,
                text,
                lines_say (dialect_of options) (bytes_asked options file) rest text lines after says begins,
                ap (λ (t : ToldResult). (t, lines)) (sym (told_is new))
                    ∙ ap (λ cs. with_text cs (one, lines)) bytes,
              );
        }
