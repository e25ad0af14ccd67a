-- Each fault that is told is an error.
use Rattle.std.proofs.Common.{◌≡◌, ℕ, Bool, true, false, List, [], ◌∷◌, cond, refl, rules}
use Rattle.std.specs.Prelude.{Option, Some, None}
use Rattle.dotenvy_format.specs.declared.dialect.Dialect.{Dialect}
use Rattle.dotenvy_format.specs.declared.text.Quoting.{Quoting}
use Rattle.dotenvy_format.specs.declared.text.Quoting.TheVariants.{Unquoted, DoubleQuoted}
use Rattle.dotenvy_format.specs.declared.walk.LineMode.{LineMode}
use Rattle.dotenvy_format.specs.declared.walk.LineMode.TheVariants as mode
use Rattle.dotenvy_findings.specs.declared.cursor.Cursor.{Cursor}
use Rattle.dotenvy_findings.specs.declared.finding.LineFault.{LineFault}
use Rattle.dotenvy_findings.specs.declared.kind.Kind.{Kind}
use Rattle.dotenvy_findings.specs.declared.kind.Kind.TheVariants as kind
use Rattle.dotenvy_findings.specs.declared.open.OpenCursor.{OpenCursor}
use Rattle.dotenvy_findings.specs.declared.open.Suspect.{Suspect}
use Rattle.dotenvy_findings.specs.declared.place.Place.{Place}
use Rattle.dotenvy_findings.specs.declared.state.Before.TheVariants.{Text}
use Rattle.dotenvy_findings.specs.declared.state.State.{State}
use Rattle.dotenvy_findings.specs.declared.state.State.TheVariants.{Bare, Braced, Comment}
use Rattle.dotenvy_findings.specs.declared.state.State.TheVariants.{CommentQuote, Dollar}
use Rattle.dotenvy_findings.specs.declared.state.State.TheVariants.{Double, Escaped, Failed}
use Rattle.dotenvy_findings.specs.declared.state.State.TheVariants.{Outside, Single, Tail}
use Rattle.dotenvy_findings.specs.Causes.{after_word, behind_exported, behind_name, export_fault}
use Rattle.dotenvy_findings.specs.Causes.{kind_or, left_kind, line_kind, skip_white, start_fault}
use Rattle.dotenvy_findings.specs.Causes.{statement_fault, tail_kind, whole_kind, word_fault}
use Rattle.dotenvy_findings.specs.Cursors.{cursor_after, fault_in, state_after, swallowed_by}
use Rattle.dotenvy_findings.specs.Cursors.{swallowed_kind, told_state, unless_swallowed}
use Rattle.dotenvy_findings.specs.Kinds.{is_fault}
use Rattle.dotenvy_findings.specs.LineTexts.{closed_fault, fault_or, line_fault, open_fault_or}
use Rattle.dotenvy_findings.specs.LineTexts.{open_line_fault, single_place, suspect_before}
use Rattle.dotenvy_findings.specs.LineTexts.{value_place, value_text, walked, walked_line}
use Rattle.dotenvy_findings.specs.Opens.{apostrophe_kind, open_after, open_begun, open_in, open_or}
use Rattle.dotenvy_findings.specs.Opens.{opened_kind, suspect_or}
use Rattle.dotenvy_findings.specs.Readings.{begun, fault_of, value_end}
use Rattle.dotenvy_findings.specs.States.{after_name, after_outside, after_part, escape_kind, inside}
use Rattle.dotenvy_findings.specs.States.{next_state}

-- what a test of both says, it says of the one that is chosen
pub chosen : {A : Type 0} (test : A → Bool) (says b : Bool) (x y : A) → test x ≡ says → test y ≡ says →
    test (cond b x y) ≡ says
chosen test says true x y first second = first
chosen test says false x y first second = second

-- the kind is a fault, if there is one
abbrev is_fault_or_none : Option Kind → Bool
is_fault_or_none None = true
is_fault_or_none (Some k) = is_fault k

-- what is found is a fault, if there is something
abbrev finds_fault_or_none : {A : Type 0} → Option (Kind × A) → Bool
finds_fault_or_none None = true
finds_fault_or_none (Some found) = is_fault found.0

-- the kind of a state of failure is a fault
abbrev fails_by_fault : State → Bool
fails_by_fault (Failed k) = is_fault k
fails_by_fault state = true

-- the kind of a suspect quote is a fault, if there is one
abbrev suspects_fault : Option Suspect → Bool
suspects_fault None = true
suspects_fault (Some suspect) = is_fault suspect.kind

left_kind_faults : (left : List ℕ) (ended : Option ℕ) → is_fault_or_none (left_kind left ended) ≡ true
left_kind_faults left ended = search (rules, chosen is_fault_or_none true)

whole_kind_faults : (value left : List ℕ) → is_fault (whole_kind value left) ≡ true
whole_kind_faults value left = search (rules, chosen is_fault true)

kind_or_faults : (first : Option Kind) (other : Kind) → is_fault_or_none first ≡ true → is_fault other ≡ true →
    is_fault (kind_or first other) ≡ true
kind_or_faults None other first second = second
kind_or_faults (Some k) other first second = first

tail_kind_faults : (value left : List ℕ) (ended : Option ℕ) → is_fault (tail_kind value left ended) ≡ true
tail_kind_faults value left ended =
    let whole = kind_or_faults (left_kind left ended) (whole_kind value left) (left_kind_faults left ended)
    (whole_kind_faults value left) in
    search (rules, chosen is_fault true, whole)

inside_faults : (quoting : Quoting) → fails_by_fault (inside quoting) ≡ true
inside_faults Unquoted = refl
inside_faults DoubleQuoted = refl

after_outside_faults : (c : ℕ) → fails_by_fault (after_outside c) ≡ true
after_outside_faults c = search (rules, chosen fails_by_fault true)

after_part_faults : (quoting : Quoting) (c : ℕ) → fails_by_fault (after_part quoting c) ≡ true
after_part_faults Unquoted c = after_outside_faults c
after_part_faults DoubleQuoted c = search (rules, chosen fails_by_fault true)

escape_kind_faults : (quoting : Quoting) (c : ℕ) → is_fault (escape_kind quoting c) ≡ true
escape_kind_faults Unquoted c = search (rules, chosen is_fault true)
escape_kind_faults DoubleQuoted c = search (rules, chosen is_fault true)

after_name_faults : (dialect : Dialect) (quoting : Quoting) (c : ℕ) →
    fails_by_fault (after_name dialect quoting c) ≡ true
after_name_faults dialect quoting c =
    chosen fails_by_fault true _ _ _ (after_part_faults quoting c) (inside_faults quoting)

-- a fault by which the reading of a value fails is an error
next_state_faults : (dialect : Dialect) (state : State) (c : ℕ) → fails_by_fault state ≡ true →
    fails_by_fault (next_state dialect state c) ≡ true
next_state_faults dialect (Outside before) c h = after_outside_faults c
next_state_faults dialect (Escaped quoting) c h =
    search (rules, chosen fails_by_fault true, inside_faults quoting, escape_kind_faults quoting c)
next_state_faults dialect Single c h = search (rules, chosen fails_by_fault true)
next_state_faults dialect Double c h = after_part_faults DoubleQuoted c
next_state_faults dialect (Dollar quoting) c h =
    search (rules, chosen fails_by_fault true, after_name_faults dialect quoting c)
next_state_faults dialect (Bare quoting) c h =
    search (rules, chosen fails_by_fault true, after_name_faults dialect quoting c)
next_state_faults dialect (Braced quoting) c h = search (rules, chosen fails_by_fault true, inside_faults quoting)
next_state_faults dialect Tail c h = search (rules, chosen fails_by_fault true)
next_state_faults dialect Comment c h = search (rules, chosen fails_by_fault true)
next_state_faults dialect CommentQuote c h = refl
next_state_faults dialect (Failed k) c h = h

told_state_faults : (ended : Option ℕ) (state next : State) (value left : List ℕ) → fails_by_fault next ≡ true →
    fails_by_fault (told_state ended state next value left) ≡ true
told_state_faults ended Tail (Failed k) value left h = tail_kind_faults value left ended
told_state_faults ended state next value left h = h

swallowed_kind_faults : (state next : State) (c : ℕ) → is_fault_or_none (swallowed_kind state next c) ≡ true
swallowed_kind_faults (Dollar DoubleQuoted) Double c = search (rules, chosen is_fault_or_none true)
swallowed_kind_faults (Bare DoubleQuoted) Double c = search (rules, chosen is_fault_or_none true)
swallowed_kind_faults (Dollar Unquoted) (Outside Text) c = search (rules, chosen is_fault_or_none true)
swallowed_kind_faults (Bare Unquoted) (Outside Text) c = search (rules, chosen is_fault_or_none true)
swallowed_kind_faults state next c = refl

swallowed_by_faults : (k : Option Kind) (cursor : Cursor) → is_fault_or_none k ≡ true →
    finds_fault_or_none cursor.swallowed ≡ true → finds_fault_or_none (swallowed_by k cursor) ≡ true
swallowed_by_faults None cursor h before = before
swallowed_by_faults (Some kind.QuoteAfterName) cursor h before = refl
swallowed_by_faults (Some k) cursor h before = h

-- all that a cursor has found is a fault
record HasFaults (cursor : Cursor) : Type 0 where
  fails : fails_by_fault cursor.state ≡ true
  swallows : finds_fault_or_none cursor.swallowed ≡ true

value_end_faults : (value rest : List ℕ) (cursor : Cursor) → HasFaults cursor →
    HasFaults (value_end value rest cursor)
value_end_faults value [] cursor h = h
value_end_faults value (c ∷ cs) cursor h =
    let next = state_after cursor c value (c ∷ cs) in
    value_end_faults value cs (cursor_after cursor c value (c ∷ cs)) record {
      fails =
          told_state_faults cursor.ended cursor.state (next_state cursor.dialect cursor.state c) value (c ∷ cs)
          (next_state_faults cursor.dialect cursor.state c h.fails);
      swallows =
          swallowed_by_faults (swallowed_kind cursor.state next c) cursor (swallowed_kind_faults cursor.state next c)
          h.swallows;
    }

unless_swallowed_faults : (swallowed : Option (Kind × Place)) (k : Kind) (place : Place) →
    finds_fault_or_none swallowed ≡ true → is_fault k ≡ true → is_fault (unless_swallowed swallowed k place).0 ≡ true
unless_swallowed_faults None k place before h = h
unless_swallowed_faults (Some found) k place before h = before

fault_in_faults : (cursor : Cursor) (state : State) → finds_fault_or_none cursor.swallowed ≡ true →
    fails_by_fault state ≡ true → is_fault (fault_in cursor state).0 ≡ true
fault_in_faults cursor (Failed k) before h =
    search (
      rules,
      chosen (λ (found : Kind × Place). is_fault found.0) true,
      h,
      λ (place : Place). unless_swallowed_faults cursor.swallowed k place before h,
    )
fault_in_faults cursor (Braced quoting) before h = refl
fault_in_faults cursor (Dollar DoubleQuoted) before h = refl
fault_in_faults cursor (Bare DoubleQuoted) before h = refl
fault_in_faults cursor Double before h = unless_swallowed_faults cursor.swallowed _ _ before refl
fault_in_faults cursor (Escaped DoubleQuoted) before h = unless_swallowed_faults cursor.swallowed _ _ before refl
fault_in_faults cursor Single before h = unless_swallowed_faults cursor.swallowed _ _ before refl
fault_in_faults cursor state before h = refl

fault_of_faults : (dialect : Dialect) (start : Place) (value : List ℕ) →
    is_fault (fault_of dialect start value).0 ≡ true
fault_of_faults dialect start value =
    let ends = value_end_faults value value (begun dialect start) record { fails = refl; swallows = refl } in
    let cursor = value_end value value (begun dialect start) in
    fault_in_faults cursor cursor.state ends.swallows ends.fails

line_kind_faults : (text : List ℕ) → is_fault_or_none (line_kind text) ≡ true
line_kind_faults text = search (rules, chosen is_fault_or_none true)

behind_name_faults : (text after behind : List ℕ) → finds_fault_or_none (behind_name text after behind) ≡ true
behind_name_faults text after [] = refl
behind_name_faults text after (c ∷ behind) = search (rules, chosen (finds_fault_or_none {A = ℕ}) true)

behind_exported_faults : (text after : List ℕ) → finds_fault_or_none (behind_exported text after) ≡ true
behind_exported_faults text after =
    search (rules, chosen (finds_fault_or_none {A = ℕ}) true, behind_name_faults text after (skip_white after))

export_faults : (text behind : List ℕ) → finds_fault_or_none (export_fault text behind) ≡ true
export_faults text [] = behind_exported_faults text []
export_faults text (c ∷ behind) =
    search (rules, chosen (finds_fault_or_none {A = ℕ}) true, behind_exported_faults text (after_word (c ∷ behind)))

word_faults : (text start after behind : List ℕ) → finds_fault_or_none (word_fault text start after behind) ≡ true
word_faults text start after behind =
    search (
      rules,
      chosen (finds_fault_or_none {A = ℕ}) true,
      behind_name_faults text after (skip_white after),
      export_faults text behind,
    )

start_faults : (text start : List ℕ) (k : Option Kind) → is_fault_or_none k ≡ true →
    finds_fault_or_none (start_fault text start k) ≡ true
start_faults text start (Some k) h = h
start_faults text start None h =
    search (
      rules,
      chosen (finds_fault_or_none {A = ℕ}) true,
      chosen (λ (found : Kind × ℕ). is_fault found.0) true,
      word_faults text start (after_word start) (skip_white (after_word start)),
    )

fault_or_faults : (dialect : Dialect) (start : Place) (text : List ℕ) (found : Option (Kind × ℕ)) →
    finds_fault_or_none found ≡ true → is_fault (fault_or dialect start text found).0 ≡ true
fault_or_faults dialect start text (Some found) h = h
fault_or_faults dialect start text None h = fault_of_faults dialect (value_place start text) (value_text text)

line_faults : (dialect : Dialect) (start : Place) (text : List ℕ) →
    is_fault (line_fault dialect start text).0 ≡ true
line_faults dialect start text =
    fault_or_faults dialect start text (statement_fault text)
    (start_faults text (skip_white text) (line_kind (skip_white text)) (line_kind_faults (skip_white text)))

apostrophe_faults : (single : Option Place) (place : Place) → is_fault (apostrophe_kind single place).0 ≡ true
apostrophe_faults None place = refl
apostrophe_faults (Some start) place = refl

opened_faults : (cursor : OpenCursor) (quote : ℕ) → is_fault (opened_kind cursor quote).0 ≡ true
opened_faults cursor quote =
    search (
      rules,
      chosen (λ (found : Kind × Place). is_fault found.0) true,
      apostrophe_faults cursor.single cursor.place,
    )

suspect_or_faults : (before : Option Suspect) (is_suspect : Bool) (next : Suspect) → suspects_fault before ≡ true →
    is_fault next.kind ≡ true → suspects_fault (suspect_or before is_suspect next) ≡ true
suspect_or_faults (Some suspect) is_suspect next before h = before
suspect_or_faults None true next before h = h
suspect_or_faults None false next before h = refl

-- each quote that a walk has met is a fault
record MeetsFaults (cursor : OpenCursor) : Type 0 where
  opens : is_fault cursor.opened.0 ≡ true
  suspects : suspects_fault cursor.suspect ≡ true

walked_faults : (text : List ℕ) (cursor : OpenCursor) → MeetsFaults cursor → MeetsFaults (walked text cursor)
walked_faults [] cursor h = h
walked_faults (c ∷ cs) cursor h = walked_faults cs (open_after cursor c cs) record {
  opens = chosen (λ (found : Kind × Place). is_fault found.0) true _ _ _ (opened_faults cursor c) h.opens;
  suspects = suspect_or_faults cursor.suspect _ _ h.suspects h.opens;
}

walked_line_faults : (start : Place) (text : List ℕ) → MeetsFaults (walked_line start text)
walked_line_faults start text =
    walked_faults text (open_begun start (single_place (value_text text) (value_place start text)))
    record { opens = refl; suspects = refl }

suspect_before_faults : (found : Kind × Place) (suspect : Option Suspect) → is_fault found.0 ≡ true →
    suspects_fault suspect ≡ true → is_fault (suspect_before found suspect).kind ≡ true
suspect_before_faults found None h suspects = h
suspect_before_faults found (Some suspect) h suspects =
    chosen (λ (told : LineFault). is_fault told.kind) true _ _ _ suspects h

pub closed_fault_is_fault : (dialect : Dialect) (start : Place) (text : List ℕ) →
    is_fault (closed_fault dialect start text).kind ≡ true
closed_fault_is_fault dialect start text =
    suspect_before_faults (line_fault dialect start text) (walked_line start text).suspect
    (line_faults dialect start text) (walked_line_faults start text).suspects

open_in_faults : (cursor : OpenCursor) (start : Place) (m : LineMode) → MeetsFaults cursor →
    is_fault (open_in cursor start m).kind ≡ true
open_in_faults cursor start mode.Outside h = refl
open_in_faults cursor start mode.Escaping h = refl
open_in_faults cursor start (mode.Inside quote) h = h.opens
open_in_faults cursor start (mode.InsideEscaping quote) h = h.opens
open_in_faults cursor start mode.AfterBlank h = refl

open_or_faults : (cursor : OpenCursor) (start : Place) (suspect : Option Suspect) → MeetsFaults cursor →
    suspects_fault suspect ≡ true → is_fault (open_or cursor start suspect).kind ≡ true
open_or_faults cursor start (Some suspect) h suspects = suspects
open_or_faults cursor start None h suspects = open_in_faults cursor start cursor.mode h

open_fault_or_faults : (start : Place) (text : List ℕ) (k : Option Kind) → is_fault_or_none k ≡ true →
    is_fault (open_fault_or start text k).kind ≡ true
open_fault_or_faults start text (Some k) h = h
open_fault_or_faults start text None h =
    let cursor = walked_line start text in
    let meets = walked_line_faults start text in
    open_or_faults cursor start cursor.suspect meets meets.suspects

pub open_fault_is_fault : (start : Place) (text : List ℕ) → is_fault (open_line_fault start text).kind ≡ true
open_fault_is_fault start text =
    open_fault_or_faults start text (line_kind (skip_white text)) (line_kind_faults (skip_white text))
