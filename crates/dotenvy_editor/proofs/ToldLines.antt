-- What is told of a line that was read.
use Rattle.std.proofs.Common.{◌≡◌, ℕ, inl, inr, Bool, true, false, not, List, [], ◌∷◌, Option, Some, None}
use Rattle.std.proofs.Common.{IsTrue, refl, sym, ◌∙◌, append-nil}
use Rattle.std.specs.Prelude.{◌||◌, is_none}
use Rattle.std.specs.List.{flat_map, list_any}
use Rattle.std.specs.declared.io.ErrorKind.TheVariants.{InvalidData}
use Rattle.dotenvy.specs.Characters.{byte_len}
use Rattle.dotenvy.specs.Dialect.{Dialect}
use Rattle.dotenvy.specs.Entries.{Declares, Entry, Failure, Fails, Gives, LineParse, Io}
use Rattle.dotenvy.specs.LogicalLine.{Broken, HasText, Logical, StaysOpen}
use Rattle.dotenvy.specs.Outcome.{Assigns, Fault, Nothing, Outcome, Pair, Says, is_nothing, trimmed}
use Rattle.dotenvy.specs.Statement.{IsStatement}
use Rattle.dotenvy_format.proofs.statements.Outcomes.{outcome_of, outcome_of-is}
use Rattle.dotenvy_format.proofs.statements.Statements.{one_statement}
use Rattle.dotenvy_editor.specs.declared.lines.Kind.TheVariants as kind
use Rattle.dotenvy_editor.specs.declared.lines.Kind.TheVariants.{Open}
use Rattle.dotenvy_editor.specs.declared.lines.Slice.{Slice as SliceInCode}
use Rattle.dotenvy_editor.specs.declared.telling.Telling.{Telling}
use Rattle.dotenvy_editor.specs.declared.values.Value.{Value}
use Rattle.dotenvy_editor.specs.declared.warning.Warning.{Warning}
use Rattle.dotenvy_editor.specs.Told.{AreNames, IsNoValue, TellsPieces}
use Rattle.dotenvy_editor.specs.Warnings.{changed_after, dollar_in, fails, has_nul, mention_in, mentioned}
use Rattle.dotenvy_editor.specs.Warnings.{removed_in, stop_in, stops_load}
use Rattle.dotenvy_editor.specs.Slices.{Slice}
use Rattle.dotenvy_editor.specs.inside.Noted.{IsSlice, first_noted}
use Rattle.dotenvy_editor.specs.inside.Telling.{TellsMore, TellsOther, is_mention, is_stop, mention_if, names_if}
use Rattle.dotenvy_editor.specs.inside.Telling.{stop_if}
use Rattle.dotenvy_editor.proofs.ReadTexts.{TextLine}

-- where the warnings stay nothing more is told
pub tells_nothing : {A : Type 0} (warnings : List (Warning A)) → TellsMore [] [] [] [] warnings warnings
tells_nothing warnings = record {
  mentions_are = sym (append-nil (flat_map mention_in warnings));
  stops_are = sym (append-nil (flat_map stop_in warnings));
  removed_are = sym (append-nil (flat_map removed_in warnings));
  dollars_are = sym (append-nil (flat_map dollar_in warnings));
}

-- the entries of a statement are those of what it assigns, as the code tells it
pub record StatementEntries (dialect : Dialect) (names : List (List ℕ)) (text key : List ℕ)
    (value : Option Value) : Type 0 where
  pub entries : List Entry
  pub gives : Gives dialect (HasText text) entries
  pub stops : stops_load entries ≡ is_stop value
  pub changed : changed_after names entries ≡ names_if (is_mention value) key names
  pub told : (line : ℕ) → mentioned names line entries ≡ mention_if (is_mention value) key line
  pub is_fault : is_none value ≡ fails entries

-- what is no value isn't assigned
no_value_assigned : (dialect : Dialect) (rest : List ℕ) (pieces : List _) → IsNoValue dialect rest →
    ¬ (Assigns dialect rest pieces)
no_value_assigned dialect rest pieces (some, none) (inl (empty, is)) = let k = rw empty at some in cc
no_value_assigned dialect rest pieces (some, none) (inr (also, is)) = none pieces is

pub statement_entries : (dialect : Dialect) (names : List (List ℕ)) (text key rest : List ℕ) (value : Option Value) →
    IsTrue (not (is_nothing (trimmed text))) → IsStatement (trimmed text) key rest →
    TellsPieces dialect names rest value → StatementEntries dialect names text key value
statement_entries dialect names text key rest (Some value) some is (pieces, assigns, nul, mentions) = record {
  entries = Declares key pieces ∷ [];
  gives = (Pair key pieces, (some, rest, is, assigns), refl);
  stops = or_false (list_any has_nul pieces) ∙ sym nul;
  changed = rw mentions refl;
  told = λ line. rw mentions refl;
  is_fault = refl;
}
  where
    or_false : (b : Bool) → (b || false) ≡ b
    or_false true = refl
    or_false false = refl
statement_entries dialect names text key rest None some is none =
    at (outcome_of dialect text) (outcome_of-is dialect text)
  where
    at : (outcome : Outcome) → Says dialect text outcome → StatementEntries dialect names text key None
    at Nothing says = let k = rw says at some in absurd (cc)
    at (Pair own pieces) (also, other, states, assigns) =
        let one = one_statement (trimmed text) key rest own other is states in
        absurd (no_value_assigned dialect other pieces (rw one.1 at none) assigns)
    at (Fault fault index) says = record {
      entries = Fails (LineParse fault index) ∷ [];
      gives = (Fault fault index, says, refl);
      stops = refl;
      changed = refl;
      told = λ line. refl;
      is_fault = refl;
    }

-- a text that is no statement is a fault
pub fault_entries : (dialect : Dialect) (text : List ℕ) → IsTrue (not (is_nothing (trimmed text))) →
    ((key rest : List ℕ) → ¬ (IsStatement (trimmed text) key rest)) →
    (failure : Failure) × Gives dialect (HasText text) (Fails failure ∷ [])
fault_entries dialect text some none = at (outcome_of dialect text) (outcome_of-is dialect text)
  where
    at : (outcome : Outcome) → Says dialect text outcome →
        (failure : Failure) × Gives dialect (HasText text) (Fails failure ∷ [])
    at Nothing says = let k = rw says at some in absurd (cc)
    at (Pair own pieces) (also, rest, states, assigns) = absurd (none own rest states)
    at (Fault fault index) says = (LineParse fault index, (Fault fault index, says, refl))

-- a line that is a fault is told where a load stops at it
pub other_fault : {A : Type 0} {dialect : Dialect} {names : List (List ℕ)} {logical : Logical} {line : ℕ}
    {old new : Telling A} (failure : Failure) → Gives dialect logical (Fails failure ∷ []) →
    new ≡ record old { stop = first_noted old.stop line } → AreNames old.changed names →
    TellsOther dialect names logical line old new
other_fault {old = old} failure gives is changed = rw is (record {
  entries = Fails failure ∷ [];
  gives = gives;
  changed = changed;
  stop = refl;
  told = tells_nothing old.warnings.items;
})

-- a text that is no statement is told where a load stops at its line
pub fault_told : {A : Type 0} {names : List (List ℕ)} {line : ℕ} {old new : Telling A} (dialect : Dialect)
    (text : List ℕ) (slice : Slice) → TextLine text slice → IsTrue (not (is_nothing (trimmed text))) →
    ((key rest : List ℕ) → ¬ (IsStatement (trimmed text) key rest)) →
    new ≡ record old { stop = first_noted old.stop line } → AreNames old.changed names →
    TellsOther dialect names slice.logical line old new
fault_told dialect text slice line some none is changed = elim line.is [
  | inl (skipped, empty) ↦ let k = rw empty at some in absurd (cc)
  | inr same ↦
      let (failure, gives) = fault_entries dialect text some none in
      rw same (other_fault failure gives is changed)
]

-- an open line, and one that is not UTF-8, is told where a load stops at it
pub open_told : {A : Type 0} {names : List (List ℕ)} {line : ℕ} {old new : Telling A} (dialect : Dialect)
    (code : SliceInCode) (text : List ℕ) (slice : Slice) → code.kind ≡ Open → IsSlice code text slice →
    new ≡ record old { stop = first_noted old.stop line } → AreNames old.changed names →
    TellsOther dialect names slice.logical line old new
open_told dialect code text slice kind (bytes, of_kind) is changed =
    let same : slice.logical ≡ StaysOpen text (byte_len text) = rw kind at of_kind in
    rw same (other_fault (LineParse text (byte_len text)) refl is changed)

pub broken_told : {A : Type 0} {names : List (List ℕ)} {line : ℕ} {old new : Telling A} (dialect : Dialect)
    (code : SliceInCode) (text : List ℕ) (slice : Slice) → code.kind ≡ kind.Broken → IsSlice code text slice →
    new ≡ record old { stop = first_noted old.stop line } → AreNames old.changed names →
    TellsOther dialect names slice.logical line old new
broken_told dialect code text slice kind (bytes, of_kind) is changed =
    let same : slice.logical ≡ Broken = rw kind at of_kind in
    rw same (other_fault (Io InvalidData) refl is changed)

-- a line that says nothing is told where all stays
pub other_nothing : {A : Type 0} {dialect : Dialect} {names : List (List ℕ)} {logical : Logical} {line : ℕ}
    {old new : Telling A} → Gives dialect logical [] → new ≡ old → AreNames old.changed names →
    TellsOther dialect names logical line old new
other_nothing {old = old} gives is changed = rw is (record {
  entries = [];
  gives = gives;
  changed = changed;
  stop = refl;
  told = tells_nothing old.warnings.items;
})

-- a statement of another key is told where what it assigns is
pub other_statement : {A : Type 0} {dialect : Dialect} {names : List (List ℕ)} {text key rest : List ℕ} {line : ℕ}
    {old new : Telling A} (value : Option Value) → IsTrue (not (is_nothing (trimmed text))) →
    IsStatement (trimmed text) key rest → TellsPieces dialect names rest value →
    new.stop ≡ stop_if (is_stop value) old.stop line →
    AreNames new.changed (names_if (is_mention value) key names) →
    TellsMore (mention_if (is_mention value) key line) [] [] [] old.warnings.items new.warnings.items →
    TellsOther dialect names (HasText text) line old new
other_statement {dialect = dialect} {names} {text} {key} {rest} {line} value some is tells stop changed told =
    let e = statement_entries dialect names text key rest value some is tells in record {
      entries = e.entries;
      gives = e.gives;
      changed = rw e.changed changed;
      stop = rw e.stops stop;
      told = rw (e.told line) told;
    }
