-- Nothing that is told of a declaration is an error.
use Rattle.std.proofs.Common.{◌≡◌, ℕ, Bool, true, false, List, [], ◌∷◌, ◌++◌, ◌∙◌, refl, rules}
use Rattle.std.specs.Prelude.{Option, Some, None, bytes_eq, encode_utf8_all}
use Rattle.std.specs.List.{list_any}
use Rattle.std.specs.Str.{chars}
use Rattle.std.proofs.lemmas.List.Folds.{list_any-append}
use Rattle.dotenvy_format.specs.declared.dialect.Dialect.{Dialect}
use Rattle.dotenvy_format.specs.declared.text.Quoting.{Quoting}
use Rattle.dotenvy_format.specs.declared.text.Quoting.TheVariants.{Unquoted}
use Rattle.dotenvy_findings.specs.declared.kind.Kind.{Kind}
use Rattle.dotenvy_findings.specs.declared.kind.Kind.TheVariants as kind
use Rattle.dotenvy_findings.specs.declared.open.Suspect.{Suspect}
use Rattle.dotenvy_findings.specs.declared.place.Place.{Place}
use Rattle.dotenvy_findings.specs.declared.state.Before.{Before}
use Rattle.dotenvy_findings.specs.declared.state.Before.TheVariants.{Quote, Start, Text}
use Rattle.dotenvy_findings.specs.declared.state.State.{State}
use Rattle.dotenvy_findings.specs.declared.state.State.TheVariants.{Bare, Comment}
use Rattle.dotenvy_findings.specs.declared.state.State.TheVariants.{CommentQuote, Dollar}
use Rattle.dotenvy_findings.specs.declared.state.State.TheVariants.{Escaped}
use Rattle.dotenvy_findings.specs.declared.state.State.TheVariants.{Outside}
use Rattle.dotenvy_findings.specs.Characters.{first_of}
use Rattle.dotenvy_findings.specs.Kinds.{is_fault}
use Rattle.dotenvy_findings.specs.LineTexts.{closed_kind, empty_kind, line_marks, own_marks, suspect_told}
use Rattle.dotenvy_findings.specs.LineTexts.{told_once, value_place, value_text, walked_line, with_found}
use Rattle.dotenvy_findings.specs.Marks.{bare_kind, character_kind, look_alike, or_kind, outside_kind, plain_kind}
use Rattle.dotenvy_findings.specs.Marks.{start_kind, unless_nul}
use Rattle.dotenvy_findings.specs.Names.{after_letters, braced_kind, form_kind, form_or_blank, is_empty_text}
use Rattle.dotenvy_findings.specs.Names.{unknown_kind, written_kind}
use Rattle.dotenvy_findings.specs.Readings.{Asked, Known, ReadingState, Told, ended_in, is_braced, not_read, read_all}
use Rattle.dotenvy_findings.specs.Readings.{text_behind, told_character, told_kind, unless_quoted, value_marks}
use Rattle.dotenvy_findings.specs.Readings.{with_character, with_ended, with_known, with_name}
use Rattle.dotenvy_findings.specs.Readings.{with_step, with_told, with_written}
use Rattle.dotenvy_findings.proofs.FaultKinds.{chosen}

-- there is a kind, and it is a fault
abbrev is_some_fault : Option Kind → Bool
is_some_fault None = false
is_some_fault (Some k) = is_fault k

-- something is found, and it is a fault
abbrev finds_fault : Option (Kind × Place) → Bool
finds_fault None = false
finds_fault (Some found) = is_fault found.0

-- a fault is told
abbrev tells_fault : List Told → Bool
tells_fault marks = list_any (λ (told : Told). is_fault told.kind) marks

look_alike_warns : (before : Option ℕ) (c : ℕ) → is_some_fault (look_alike before c) ≡ false
look_alike_warns before c = search (rules, chosen is_some_fault false)

start_kind_warns : (c : ℕ) (follows : Option ℕ) → is_some_fault (start_kind c follows) ≡ false
start_kind_warns c None = search (rules, chosen is_some_fault false)
start_kind_warns c (Some d) = search (rules, chosen is_some_fault false)

or_kind_warns : (first second : Option Kind) → is_some_fault first ≡ false → is_some_fault second ≡ false →
    is_some_fault (or_kind first second) ≡ false
or_kind_warns None second h hs = hs
or_kind_warns (Some k) second h hs = h

plain_kind_warns : (what : Before) (before : Option ℕ) (c : ℕ) (follows : Option ℕ) →
    is_some_fault (plain_kind what before c follows) ≡ false
plain_kind_warns Start before c follows =
    or_kind_warns (start_kind c follows) (look_alike before c) (start_kind_warns c follows) (look_alike_warns before c)
plain_kind_warns Text before c follows = search (rules, chosen is_some_fault false, look_alike_warns before c)
plain_kind_warns Quote before c follows = search (rules, chosen is_some_fault false, look_alike_warns before c)

outside_kind_warns : (what : Before) (before : Option ℕ) (c : ℕ) (follows : Option ℕ) →
    is_some_fault (outside_kind what before c follows) ≡ false
outside_kind_warns what before c follows =
    search (rules, chosen is_some_fault false, plain_kind_warns what before c follows)

unless_nul_warns : (c : ℕ) (other : Option Kind) → is_some_fault other ≡ false →
    is_some_fault (unless_nul c other) ≡ false
unless_nul_warns c other h = search (rules, chosen is_some_fault false)

character_kind_warns : (state : State) (before : Option ℕ) (c : ℕ) (rest : List ℕ) →
    is_some_fault (character_kind state before c rest) ≡ false
character_kind_warns (Outside what) before c rest =
    unless_nul_warns c (outside_kind what before c (first_of rest)) (outside_kind_warns what before c (first_of rest))
character_kind_warns Comment before c rest = refl
character_kind_warns CommentQuote before c rest = search (rules, chosen is_some_fault false)
character_kind_warns state before c rest = unless_nul_warns c None refl

unless_quoted_warns : (is_quoted : Bool) (k : Option Kind) → is_some_fault k ≡ false →
    is_some_fault (unless_quoted is_quoted k) ≡ false
unless_quoted_warns true (Some kind.DroppedQuotes) h = refl
unless_quoted_warns false (Some kind.DroppedQuotes) h = refl
unless_quoted_warns is_quoted other h = h

bare_kind_warns : (quoting : Quoting) (is_empty : Bool) (follows : Option ℕ) →
    is_some_fault (bare_kind quoting is_empty follows) ≡ false
bare_kind_warns quoting is_empty None = search (rules, chosen is_some_fault false)
bare_kind_warns quoting is_empty (Some c) = search (rules, chosen is_some_fault false)

form_kind_warns : (text : List ℕ) → is_some_fault (form_kind text) ≡ false
form_kind_warns [] = refl
form_kind_warns (c ∷ cs) = search (rules, chosen is_some_fault false)

form_or_blank_warns : (form : Option Kind) (name : List ℕ) → is_some_fault form ≡ false →
    is_some_fault (form_or_blank form name) ≡ false
form_or_blank_warns (Some k) name h = h
form_or_blank_warns None name h = search (rules, chosen is_some_fault false)

braced_kind_warns : (name : List ℕ) → is_some_fault (braced_kind name) ≡ false
braced_kind_warns [] = refl
braced_kind_warns (c ∷ cs) =
    form_or_blank_warns (form_kind (after_letters (c ∷ cs))) (c ∷ cs) (form_kind_warns (after_letters (c ∷ cs)))

written_kind_warns : (state : State) (name : List ℕ) (follows : Option ℕ) →
    is_some_fault (written_kind state name follows) ≡ false
written_kind_warns (Dollar quoting) name follows = bare_kind_warns quoting (is_empty_text name) follows
written_kind_warns (Bare quoting) name follows = bare_kind_warns quoting (is_empty_text name) follows
written_kind_warns state name follows = braced_kind_warns name

unknown_kind_warns : (braced own : Bool) → is_fault (unknown_kind braced own) ≡ false
unknown_kind_warns braced own = search (rules, chosen is_fault false)

with_told_warns : (told : Told) (marks : List Told) → is_fault told.kind ≡ false → tells_fault marks ≡ false →
    tells_fault (with_told told marks) ≡ false
with_told_warns told marks h before =
    let more : tells_fault (marks ++ told ∷ []) ≡ false =
    list_any-append (λ (t : Told). is_fault t.kind) marks (told ∷ []) ∙ rw (before, h) refl in
    search (rules, chosen tells_fault false, before, more)

with_known_warns : (known : Known) (key name : List ℕ) (reading : ReadingState) →
    tells_fault reading.marks ≡ false → tells_fault (with_known known key name reading).marks ≡ false
with_known_warns known key name reading before =
    let own = bytes_eq name key in
    let k = unknown_kind (is_braced reading.cursor.state) own in
    search (
      rules,
      chosen (λ (r : ReadingState). tells_fault r.marks) false,
      before,
      with_told_warns (record { kind = k; place = reading.cursor.opener; name = name }) reading.marks
          (unknown_kind_warns (is_braced reading.cursor.state) own) before,
    )

with_written_warns : (known : Known) (key : List ℕ) (k : Option Kind) (reading : ReadingState) →
    is_some_fault k ≡ false → tells_fault reading.marks ≡ false →
    tells_fault (with_written known key k reading).marks ≡ false
with_written_warns known key (Some k) reading h before = with_told_warns _ reading.marks h before
with_written_warns known key None reading h before =
    with_known_warns known key (encode_utf8_all reading.name) reading before

with_name_warns : (known : Known) (key : List ℕ) (follows : Option ℕ) (reading : ReadingState) →
    tells_fault reading.marks ≡ false → tells_fault (with_name known key follows reading).marks ≡ false
with_name_warns known key follows reading before =
    let k = written_kind reading.cursor.state reading.name follows in
    search (
      rules,
      chosen (λ (r : ReadingState). tells_fault r.marks) false,
      before,
      with_written_warns known key k reading (written_kind_warns reading.cursor.state reading.name follows) before,
    )

with_ended_warns : (known : Known) (key : List ℕ) (c : ℕ) (reading : ReadingState) →
    tells_fault reading.marks ≡ false → tells_fault (with_ended known key c reading).marks ≡ false
with_ended_warns known key c reading before =
    search (
      rules,
      chosen (λ (r : ReadingState). tells_fault r.marks) false,
      before,
      with_name_warns known key (text_behind reading.cursor c) reading before,
    )

with_character_warns : (k : Option Kind) (reading : ReadingState) → is_some_fault k ≡ false →
    tells_fault reading.marks ≡ false → tells_fault (with_character k reading).marks ≡ false
with_character_warns None reading h before = before
with_character_warns (Some k) reading h before = with_told_warns _ reading.marks h before

told_character_warns : (c : ℕ) (value rest : List ℕ) (reading : ReadingState) →
    tells_fault reading.marks ≡ false → tells_fault (told_character c value rest reading).marks ≡ false
told_character_warns c value rest reading before =
    let cursor = reading.cursor in
    with_character_warns (told_kind cursor c value rest) reading
    (unless_quoted_warns _ (character_kind cursor.state cursor.before c rest)
    (character_kind_warns cursor.state cursor.before c rest)) before

read_all_warns : (asked : Asked) (rest : List ℕ) (reading : ReadingState) → tells_fault reading.marks ≡ false →
    tells_fault (read_all asked rest reading).marks ≡ false
read_all_warns asked [] reading before = before
read_all_warns asked (c ∷ cs) reading before =
    let ended = with_ended asked.known asked.key c reading in
    read_all_warns asked cs (with_step asked c (c ∷ cs) cs reading)
    (told_character_warns c asked.value cs ended (with_ended_warns asked.known asked.key c reading before))

ended_in_warns : (known : Known) (key : List ℕ) (state : State) (reading : ReadingState) →
    tells_fault reading.marks ≡ false → tells_fault (ended_in known key state reading).marks ≡ false
ended_in_warns known key (Dollar Unquoted) reading before = with_name_warns known key None reading before
ended_in_warns known key (Bare Unquoted) reading before = with_name_warns known key None reading before
ended_in_warns known key (Escaped Unquoted) reading before =
    with_told_warns (record { kind = kind.DroppedBackslash; place = reading.cursor.opener; name = [] }) reading.marks
    refl before
ended_in_warns known key state reading before = before

value_marks_warn : (asked : Asked) (dialect : Dialect) (start : Place) →
    tells_fault (value_marks asked dialect start) ≡ false
value_marks_warn asked dialect start =
    let reading = read_all asked asked.value (not_read dialect start) in
    ended_in_warns asked.known asked.key reading.cursor.state reading
    (read_all_warns asked asked.value (not_read dialect start) refl)

empty_kind_warns : (start : Place) (text key : List ℕ) → finds_fault (empty_kind start text key) ≡ false
empty_kind_warns start text key = search (rules, chosen finds_fault false)

told_once_warns : (found : Option (Kind × Place)) → finds_fault found ≡ false → tells_fault (told_once found) ≡ false
told_once_warns None h = refl
told_once_warns (Some found) h = rw h refl

own_marks_warn : (known : Known) (key : List ℕ) (dialect : Dialect) (start : Place) (text : List ℕ) →
    tells_fault (own_marks known key dialect start text) ≡ false
own_marks_warn known key dialect start text =
    let empty = empty_kind start text (chars key) in
    search (
      rules,
      chosen tells_fault false,
      told_once_warns empty (empty_kind_warns start text (chars key)),
      value_marks_warn (record { known = known; key = key; value = value_text text }) dialect (value_place start text),
    )

closed_kind_warns : (k : Kind) → is_fault (closed_kind k) ≡ false
closed_kind_warns kind.OpenQuoteInComment = refl
closed_kind_warns k = refl

suspect_told_warns : (suspect : Option Suspect) → finds_fault (suspect_told suspect) ≡ false
suspect_told_warns None = refl
suspect_told_warns (Some suspect) = closed_kind_warns suspect.kind

with_found_warns : (found : Option (Kind × Place)) (marks : List Told) → finds_fault found ≡ false →
    tells_fault marks ≡ false → tells_fault (with_found found marks) ≡ false
with_found_warns None marks h before = before
with_found_warns (Some found) marks h before = with_told_warns _ marks h before

pub marks_are_warnings : (known : Known) (key : List ℕ) (dialect : Dialect) (start : Place) (text : List ℕ) →
    list_any (λ (told : Told). is_fault told.kind) (line_marks known key dialect start text) ≡ false
marks_are_warnings known key dialect start text =
    let suspect = (walked_line start text).suspect in
    with_found_warns (suspect_told suspect) (own_marks known key dialect start text) (suspect_told_warns suspect)
    (own_marks_warn known key dialect start text)
