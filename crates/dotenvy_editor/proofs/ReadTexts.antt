-- What a line of text is noted as, and whether it is an assignment, by what it says.
use Rattle.std.proofs.Common.{◌≡◌, ℕ, ◌⊎◌, inl, inr, true, not, List, []}
use Rattle.std.proofs.Common.{IsTrue, refl}
use Rattle.std.specs.Prelude.{IfOk, Result, if◌then◌else◌}
use Rattle.std.specs.Str.{chars}
use Rattle.std.proofs.lemmas.Bool.{cases_Bool}
use Rattle.std.proofs.lemmas.Result.{IfOk-weaker}
use Rattle.std.proofs.lemmas.Slice.Eq.{bytes_eq-Decides}
use Rattle.dotenvy.specs.LogicalLine.{HasText, IsOpenEnd, Skip}
use Rattle.dotenvy.specs.Outcome.{is_nothing, trimmed}
use Rattle.dotenvy.specs.Statement.{IsStatement}
use Rattle.dotenvy_format.specs.Characters.{carriage_return}
use Rattle.dotenvy_format.proofs.statements.Statements.{one_statement}
use Rattle.dotenvy_editor.specs.declared.change.Change.{Change}
use Rattle.dotenvy_editor.specs.declared.change.Change.TheVariants.{Set, Unset, Rename}
use Rattle.dotenvy_editor.specs.declared.notes.Last.TheVariants.{Closed}
use Rattle.dotenvy_editor.specs.declared.notes.Notes.{Notes}
use Rattle.dotenvy_editor.specs.declared.lines.Kind.TheVariants.{Text}
use Rattle.dotenvy_editor.specs.declared.lines.Slice.{Slice as SliceInCode}
use Rattle.dotenvy_editor.specs.Assignments.{Assigning, IsUnreadable, StatesKey}
use Rattle.dotenvy_editor.specs.Ends.{QuotesReturn, ends_in}
use Rattle.dotenvy_editor.specs.Slices.{Slice}
use Rattle.dotenvy_editor.specs.inside.Changing.{gives, key_of}
use Rattle.dotenvy_editor.specs.inside.Noted.{GivesNew, IsSlice, NotesLine, fault_last, first_noted}

-- the slice is a line with this text, or a comment that is skipped, of which the text is empty
pub record TextLine (text : List ℕ) (slice : Slice) : Type 0 where
  pub is : ((slice.logical ≡ Skip) × (text ≡ [])) ⊎ (slice.logical ≡ HasText text)

-- the slice that the code has is such a line
pub text_line : (code : SliceInCode) (text : List ℕ) (slice : Slice) → code.kind ≡ Text → IsSlice code text slice →
    TextLine text slice
text_line code text slice kind (bytes, of_kind) = record { is = rw kind at of_kind }

-- such a line isn't open, and can be read
closed : {text : List ℕ} {slice : Slice} → TextLine text slice → ¬ (IsOpenEnd slice.logical)
closed line = elim line.is [
  | inl (skipped, empty) ↦ rw skipped (λ is_open. is_open)
  | inr is ↦ rw is (λ is_open. is_open)
]

readable : {text : List ℕ} {slice : Slice} (key : List ℕ) → TextLine text slice → ¬ (IsUnreadable key slice)
readable key line (cannot, begins) = elim line.is [
  | inl (skipped, empty) ↦ rw skipped at cannot
  | inr is ↦ rw is at cannot
]

-- it assigns a key just where its text states it
pub assigns_stated : {text : List ℕ} {slice : Slice} (key : List ℕ) → TextLine text slice → Assigning key slice →
    StatesKey key text
assigns_stated key line assigns = elim line.is [
  | inl (skipped, empty) ↦ absurd (rw skipped at assigns)
  | inr is ↦ rw is at assigns
]

pub stated_assigns : {text : List ℕ} {slice : Slice} (key : List ℕ) → TextLine text slice → StatesKey key text →
    Assigning key slice
stated_assigns key line states = elim line.is [
  | inl (skipped, empty) ↦ let some = (rw empty at states).0 in cc
  | inr is ↦ rw is states
]

-- its fault quotes a carriage return where its text is no statement and ends in one
quoted_text : {text : List ℕ} {slice : Slice} → TextLine text slice → QuotesReturn slice.logical →
    IsTrue (not (is_nothing (trimmed text)))
    × ((key assigned : List ℕ) → ¬ (IsStatement (trimmed text) key assigned))
    × IsTrue (ends_in carriage_return text)
quoted_text line fault = elim line.is [
  | inl (skipped, empty) ↦ absurd (rw skipped at fault)
  | inr is ↦ rw is at fault
]

text_quoted : {text : List ℕ} {slice : Slice} → TextLine text slice → IsTrue (not (is_nothing (trimmed text))) →
    ((key assigned : List ℕ) → ¬ (IsStatement (trimmed text) key assigned)) → IsTrue (ends_in carriage_return text) →
    QuotesReturn slice.logical
text_quoted line some none ends = elim line.is [
  | inl (skipped, empty) ↦ let k = rw empty at some in cc
  | inr is ↦ rw is (some, none, ends)
]

-- the new key of a rename is assigned just where the text states a key that is it
gives_stated : {text : List ℕ} {slice : Slice} (of : Change) → TextLine text slice → GivesNew of slice →
    (key : List ℕ) × StatesKey key text × (gives of key ≡ true)
gives_stated (Set setting) line is = absurd is
gives_stated (Unset name dialect) line is = absurd is
gives_stated (Rename old new dialect) line is =
    (chars new.now, assigns_stated (chars new.now) line is, (bytes_eq-Decides (chars new.now) (chars new.now)).1 refl)

stated_gives : {text : List ℕ} {slice : Slice} (of : Change) (key : List ℕ) → TextLine text slice →
    StatesKey key text → gives of key ≡ true → GivesNew of slice
stated_gives (Set setting) key line states is = cc
stated_gives (Unset name dialect) key line states is = cc
stated_gives (Rename old new dialect) key line states is =
    stated_assigns (chars new.now) line (rw ((bytes_eq-Decides (chars new.now) key).0 is) states)

-- a text states one key
pub one_key : (text a b : List ℕ) → StatesKey a text → StatesKey b text → a ≡ b
one_key text a b (some, rest, is) (also, other, states) =
    (one_statement (trimmed text) a rest b other is states).0

-- What is noted.
-- a text that is nothing states no key
nothing_states : (text key : List ℕ) → IsTrue (is_nothing (trimmed text)) → ¬ (StatesKey key text)
nothing_states text key nothing (some, rest, is) = let k = rw nothing at some in cc

-- a text that is nothing is noted
pub nothing_noted : (of : Change) (text : List ℕ) (slice : Slice) (line : ℕ) (old : Notes) → TextLine text slice →
    IsTrue (is_nothing (trimmed text)) → NotesLine of slice line old (record old { last = Closed })
nothing_noted of text slice line old is nothing = record {
  unreadable = inr (readable (key_of of) is, refl);
  present = inr (
    λ new. let (key, states, same) = gives_stated of is new in nothing_states text key nothing states,
    refl,
  );
  last = (closed is, λ quotes. let k = rw nothing at (quoted_text is quotes).0 in cc);
}

-- a text that is no statement is noted
pub fault_noted : (of : Change) (text : List ℕ) (slice : Slice) (line : ℕ) (old : Notes) → TextLine text slice →
    IsTrue (not (is_nothing (trimmed text))) →
    ((key assigned : List ℕ) → ¬ (IsStatement (trimmed text) key assigned)) →
    NotesLine of slice line old (record old { last = fault_last text })
fault_noted of text slice line old is some none = record {
  unreadable = inr (readable (key_of of) is, refl);
  present = inr (
    λ new. let (key, (also, rest, states), same) = gives_stated of is new in none key rest states,
    refl,
  );
  last = elim (cases_Bool (ends_in carriage_return text)) [
    | inl ends ↦ rw ends (text_quoted is some none ends)
    | inr not ↦ rw not (closed is, λ quotes. let k = rw not at (quoted_text is quotes).2 in cc)
  ];
}

-- a statement is noted
statement_noted : (of : Change) (text key : List ℕ) (slice : Slice) (line : ℕ) (old new : Notes) →
    TextLine text slice → StatesKey key text →
    new ≡ record old {
      last = Closed;
      present = if gives of key then first_noted old.present line else old.present;
    } → NotesLine of slice line old new
statement_noted of text key slice line old new is states noted = rw noted (record {
  unreadable = inr (readable (key_of of) is, refl);
  present = elim (cases_Bool (gives of key)) [
    | inl given ↦ rw given (inl (stated_gives of key is states given, refl))
    | inr other ↦ rw other (inr (
      λ given.
          let (own, also, same) = gives_stated of is given in
          let one = one_key text own key also states in
          let k = rw one at same in cc,
      refl,
    ))
  ];
  last = (closed is, λ quotes. (quoted_text is quotes).1 key states.1 states.2);
})

-- a statement is noted, if there was memory
pub noted_if_ok : {X Y : Type 0} (result : Result X Y) (of : Change) (text key : List ℕ) (code : SliceInCode)
    (old new : Notes) → code.kind ≡ Text → StatesKey key text →
    IfOk result (λ found. new ≡ record old {
      last = Closed;
      present = if gives of key then first_noted old.present code.first else old.present;
    }) → IfOk result (λ found. (line : Slice) → IsSlice code text line → NotesLine of line code.first old new)
noted_if_ok result of text key code old new kind states noted =
    IfOk-weaker result _ _ (λ found same line is.
    statement_noted of text key line code.first old new (text_line code text line kind is) states same) noted
