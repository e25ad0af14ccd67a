-- What a line assigns, with each name as it is written, and what of bytes their first logical line does.
use Rattle.std.proofs.Common.{◌≡◌, ◌≢◌, ◌∙◌, ℕ, zero, suc, true, false, not, inl, inr, List, [], ◌∷◌}
use Rattle.std.proofs.Common.{◌++◌, Some, None, refl, sym, ap, arith}
use Rattle.std.specs.Prelude.{IsTrue, Option}
use Rattle.std.specs.List.{flat_map}
use Rattle.std.specs.Str.{encode_utf8_all, chars}
use Rattle.dotenvy.specs.Characters.{is_empty_or_comment}
use Rattle.dotenvy.specs.Dialect.{Dialect}
use Rattle.dotenvy.specs.LogicalLine.{Logical, HasText, Skip, IsNext, IsText}
use Rattle.dotenvy.specs.LogicalLine.{line_end, escaped_line_end, comment, input_end, Ending, ending_text, kept_text}
use Rattle.dotenvy.specs.Outcome.{Assigns, Pair, Says, is_nothing, trimmed}
use Rattle.dotenvy.specs.PhysicalLines.{line_texts}
use Rattle.dotenvy.specs.Statement.{IsStatement}
use Rattle.dotenvy.specs.Tokens.{tokens_text}
use Rattle.dotenvy.specs.Value.{Piece}
use Rattle.dotenvy_format.specs.declared.text.Quoting.TheVariants.{Unquoted}
use Rattle.dotenvy_format.proofs.lines.EntriesOnce.{cut_line_texts}
use Rattle.dotenvy_format.proofs.lines.NextLine.{one_next}
use Rattle.dotenvy_format.proofs.statements.Statements.{one_statement}
use Rattle.dotenvy_editor.specs.declared.lines.Kind.{Kind}
use Rattle.dotenvy_editor.specs.declared.lines.Kind.TheVariants.{Text, Open}
use Rattle.dotenvy_editor.specs.declared.lines.Kind.TheVariants.{Broken as not_utf8}
use Rattle.dotenvy_editor.specs.declared.lines.Slice.{Slice}
use Rattle.dotenvy_editor.specs.declared.tail.Reading.TheVariants.{Base}
use Rattle.dotenvy_editor.specs.Slices.{line_count}
use Rattle.dotenvy_editor.specs.TakenSlices.{IsFresh, IsOfKind, LinesState, TakesSlice}
use Rattle.dotenvy_editor.specs.Told.{IsNoValue}
use Rattle.dotenvy_editor.specs.Verbatim.{AssignsVerbatim, BeginsVerbatim, Finds, SaysVerbatim}
use Rattle.dotenvy_editor.specs.Verbatim.{close_verbatim, segment_verbatim}
use Rattle.dotenvy_editor.specs.inside.VerbatimReading.{verbatim}
use Rattle.dotenvy_editor.proofs.SlicesAlone.{texts_some}
use Rattle.dotenvy_editor.proofs.SlicesChained.{nil_left}
use Rattle.dotenvy_editor.proofs.VerbatimPasses.{verbatim_is}

-- What is assigned.
-- a value gives what is read of it
pub value_found : (dialect : Dialect) (assigned : List ℕ) (pieces : List Piece) (found : List ℕ) →
    is_empty_or_comment assigned ≡ false → Assigns dialect assigned pieces →
    found ≡ encode_utf8_all (verbatim dialect (Base Unquoted) assigned) →
    Finds (AssignsVerbatim dialect assigned) (Some found)
value_found dialect assigned pieces found some (inl (empty, none)) is =
    absurd (let f : true ≡ false = sym empty ∙ some in cc)
value_found dialect assigned pieces found some (inr (other, value)) is =
    let text = flat_map segment_verbatim value.segments ++ close_verbatim value.close in
    let gives = verbatim_is dialect assigned text (pieces, value, refl) in
    (text, inr (other, (pieces, value, refl)), is ∙ ap encode_utf8_all gives)

-- a fault gives no text
pub fault_found : (dialect : Dialect) (assigned : List ℕ) → IsNoValue dialect assigned →
    Finds (AssignsVerbatim dialect assigned) None
fault_found dialect assigned (some, none) text (inl (empty, is)) =
    let f : not true ≡ true = rw empty at some in cc
fault_found dialect assigned (some, none) text (inr (other, (pieces, value, gives))) = none pieces value

-- What a line says.
-- a statement gives what it assigns
pub statement_found : (dialect : Dialect) (line key assigned : List ℕ) (found : Option (List ℕ)) →
    IsTrue (not (is_nothing (trimmed line))) → IsStatement (trimmed line) key assigned →
    Finds (AssignsVerbatim dialect assigned) found → Finds (SaysVerbatim dialect line) found
statement_found dialect line key assigned None some is none =
    λ text (other, own, rest, states, assigns).
    none text (rw (one_statement (trimmed line) own rest key assigned states is).1 at assigns)
statement_found dialect line key assigned (Some found) some is (text, assigns, bytes) =
    (text, (some, key, assigned, is, assigns), bytes)

-- a line that says a pair gives a text
pub pair_gives : (dialect : Dialect) (line key : List ℕ) (pieces : List Piece) → Says dialect line (Pair key pieces) →
    (text : List ℕ) × SaysVerbatim dialect line text
pair_gives dialect line key pieces (some, assigned, is, inl (empty, none)) =
    ([], (some, key, assigned, is, inl (empty, refl)))
pair_gives dialect line key pieces (some, assigned, is, inr (other, value)) = (
  flat_map segment_verbatim value.segments ++ close_verbatim value.close,
  (some, key, assigned, is, inr (other, (pieces, value, refl))),
)

-- nothing, and what is no statement, gives none
pub nothing_found : (dialect : Dialect) (line : List ℕ) → IsTrue (is_nothing (trimmed line)) →
    Finds (SaysVerbatim dialect line) None
nothing_found dialect line nothing text says = let f : not true ≡ true = rw nothing at says.0 in cc

pub unstated_found : (dialect : Dialect) (line : List ℕ) →
    ((key assigned : List ℕ) → ¬ (IsStatement (trimmed line) key assigned)) →
    Finds (SaysVerbatim dialect line) None
unstated_found dialect line none text (some, key, assigned, is, assigns) = none key assigned is

-- The first logical line of bytes.
-- the slice that was taken first is the first logical line
record IsFirstTaken (bytes : List ℕ) (logical : Logical) : Type 0 where
  pub some : bytes ≢ []
  pub count : ℕ
  pub is : IsNext (line_texts bytes) count logical

first_taken : {bytes : List ℕ} {slice : Slice} {old new : LinesState} → IsFresh old bytes →
    (takes : TakesSlice old slice new) → IsFirstTaken bytes takes.logical
first_taken {bytes} {slice} {old} {new} fresh takes =
    let cut : bytes ≡ slice.bytes.now ++ new.left = sym fresh.1 ∙ takes.cut in record {
      some = λ none. takes.is_next.0 (nil_left slice.bytes.now new.left (sym cut ∙ none));
      count = line_count slice.bytes.now;
      is = rw (← cut) at takes.is_next.2;
    }

-- another line, or one that says nothing, gives no text
none_begins : (dialect : Dialect) {bytes : List ℕ} {logical : Logical} → IsFirstTaken bytes logical →
    ((line text : List ℕ) → logical ≡ HasText line → ¬ (SaysVerbatim dialect line text)) →
    Finds (BeginsVerbatim dialect bytes) None
none_begins dialect {bytes} {logical} first none text (count, line, next, says) =
    none line text
    (one_next (line_texts bytes) first.count count logical (HasText line) (texts_some bytes first.some)
    (cut_line_texts bytes) first.is next).1 says

-- an empty text says nothing
empty_says : (dialect : Dialect) (text : List ℕ) → ¬ (SaysVerbatim dialect [] text)
empty_says dialect text says = let f : false ≡ true = says.0 in cc

-- a line with a text gives what the text says
says_begins : (dialect : Dialect) (line : List ℕ) {bytes : List ℕ} {logical : Logical} (found : Option (List ℕ)) →
    IsFirstTaken bytes logical → logical ≡ HasText line → Finds (SaysVerbatim dialect line) found →
    Finds (BeginsVerbatim dialect bytes) found
says_begins dialect line None first is none =
    none_begins dialect first (λ other text also says.
    let same : HasText line ≡ HasText other = sym is ∙ also in
    let texts : line ≡ other = cc in none text (rw (sym texts) at says))
says_begins dialect line (Some found) first is (text, says, same) =
    (text, (first.count, line, rw is at first.is, says), same)

-- a comment gives none, and its text is empty
skip_begins : (dialect : Dialect) (line : List ℕ) {bytes : List ℕ} {logical : Logical} (found : Option (List ℕ)) →
    IsFirstTaken bytes logical → logical ≡ Skip → line ≡ [] → Finds (SaysVerbatim dialect line) found →
    Finds (BeginsVerbatim dialect bytes) found
skip_begins dialect line None first is none finds =
    none_begins dialect first (λ other text also says. let same : Skip ≡ HasText other = sym is ∙ also in cc)
skip_begins dialect line (Some found) first is none (text, says, same) =
    absurd (empty_says dialect text (rw none at says))

-- a text, or a comment, that was taken
pub text_begins : (dialect : Dialect) {bytes : List ℕ} {slice : Slice} {old new : LinesState}
    (found : Option (List ℕ)) → IsFresh old bytes → TakesSlice old slice new → slice.kind ≡ Text →
    Finds (SaysVerbatim dialect (chars new.text)) found → Finds (BeginsVerbatim dialect bytes) found
text_begins dialect {slice = slice} {new = new} found fresh takes kind finds =
    elim (rw kind at takes.is_kind) [
      | inl (skips, none) ↦ skip_begins dialect (chars new.text) found (first_taken fresh takes) skips none finds
      | inr is ↦ says_begins dialect (chars new.text) found (first_taken fresh takes) is finds
    ]

-- a line of another kind has no text
other_kind : (kind : Kind) (text line : List ℕ) (logical : Logical) → IsOfKind kind text logical → kind ≢ Text →
    logical ≡ HasText line → ⊥
other_kind Text text line logical is other also = other refl
other_kind Open text line logical is other also = let same = sym is ∙ also in cc
other_kind not_utf8 text line logical is other also = let same = sym is ∙ also in cc

-- such a line was taken
pub other_begins : (dialect : Dialect) {bytes : List ℕ} {slice : Slice} {old new : LinesState} → IsFresh old bytes →
    TakesSlice old slice new → slice.kind ≢ Text → Finds (BeginsVerbatim dialect bytes) None
other_begins dialect {slice = slice} {new = new} fresh takes other =
    none_begins dialect (first_taken fresh takes) (λ line text is says.
    other_kind slice.kind (chars new.text) line takes.logical takes.is_kind other is)

-- without bytes there is no text
nothing_kept : (ending : Ending) (tokens : List ℕ) → [] ≡ tokens ++ ending_text ending → kept_text tokens ending ≡ []
nothing_kept ending (token ∷ tokens) is = absurd (cc)
nothing_kept input_end [] is = refl
nothing_kept line_end [] is = absurd (cc)
nothing_kept escaped_line_end [] is = absurd (cc)
nothing_kept (comment b words) [] is = absurd (cc)

nothing_said : (count : ℕ) (line : List ℕ) → IsText [] count line → line ≡ []
nothing_said (suc k) line is = absurd (let within = is.within in omega (arith, within))
nothing_said zero line is =
    let joins : Some [] ≡ Some is.text = is.joins in
    let none : [] ≡ is.text = cc in
    let whole = is.whole in
    whole.cut ∙ nothing_kept whole.ending (tokens_text whole.tokens) (none ∙ whole.spelled)

pub empty_begins : (dialect : Dialect) {bytes : List ℕ} → bytes ≡ [] → Finds (BeginsVerbatim dialect bytes) None
empty_begins dialect empty text (count, line, next, says) =
    empty_says dialect text (rw (nothing_said count line (rw empty at next.1)) at says)
