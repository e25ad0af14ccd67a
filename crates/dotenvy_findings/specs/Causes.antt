-- Why a line is no statement: a kind, and what is left of the line at its place.
use Rattle.dotenvy_findings.specs.Characters.{first_of, is_letter}
use Rattle.dotenvy_findings.specs.declared.kind.Kind.TheVariants.{OpenSingleQuote}
use Rattle.std.specs.Prelude.{is_some}
use Rattle.dotenvy_format.specs.Characters.{single_quote}
use Rattle.std.specs.Prelude.{ℕ, Bool, false, not, ◌||◌, ◌&&◌, ◌==◌, ◌-◌, nat_eq, List, [], ◌∷◌}
use Rattle.std.specs.Prelude.{length, take}
use Rattle.std.specs.Prelude.{Option, Some, None, codes, if◌then◌else◌}
use Rattle.std.specs.Char.{is_whitespace}
use Rattle.std.specs.List.{list_any, starts_with}
use Rattle.dotenvy_format.specs.Characters.{begins_key, begins_passing, begins_with, continues_key}
use Rattle.dotenvy_format.specs.Characters.{dollar}
use Rattle.dotenvy_format.specs.Characters.{equals_sign, full_stop, is_name_character, is_quote}
use Rattle.dotenvy_format.specs.declared.dialect.Dialect.TheVariants.{V15}
use Rattle.dotenvy_findings.specs.Characters.{begins_declaration, is_typographic}
use Rattle.dotenvy_findings.specs.declared.kind.Kind.{Kind}
use Rattle.dotenvy_findings.specs.declared.kind.Kind.TheVariants.{Array, Colon, CommandWithSpace}
use Rattle.dotenvy_findings.specs.declared.kind.Kind.TheVariants.{ExportOption}
use Rattle.dotenvy_findings.specs.declared.kind.Kind.TheVariants.{ExportWithoutValue}
use Rattle.dotenvy_findings.specs.declared.kind.Kind.TheVariants.{LineContinuation, Merge}
use Rattle.dotenvy_findings.specs.declared.kind.Kind.TheVariants.{NameCharacter, NameStart}
use Rattle.dotenvy_findings.specs.declared.kind.Kind.TheVariants.{NoEqualsSign, NoName}
use Rattle.dotenvy_findings.specs.declared.kind.Kind.TheVariants.{OtherComment, OtherFault}
use Rattle.dotenvy_findings.specs.declared.kind.Kind.TheVariants.{OtherWord, Section, Semicolon}
use Rattle.dotenvy_findings.specs.declared.kind.Kind.TheVariants.{SeveralOnLine}
use Rattle.dotenvy_findings.specs.declared.kind.Kind.TheVariants.{SlashComment, SpaceInValue}
use Rattle.dotenvy_findings.specs.declared.kind.Kind.TheVariants.{TextAfterQuote}
use Rattle.dotenvy_findings.specs.declared.kind.Kind.TheVariants.{TypographicQuotes, UnquotedKey}

-- the text without white space at its start
abbrev pub skip_white : List ℕ → List ℕ
skip_white [] = []
skip_white (c ∷ cs) = if is_whitespace c then skip_white cs else c ∷ cs

-- the text without characters of keys at its start
abbrev pub skip_keys : List ℕ → List ℕ
skip_keys [] = []
skip_keys (c ∷ cs) = if continues_key c then skip_keys cs else c ∷ cs

-- the text without a key at its start
abbrev pub after_word : List ℕ → List ℕ
after_word text = if begins_passing begins_key text then skip_keys text else text

-- a line of a merge that was not finished
abbrev pub is_merge : List ℕ → Bool
is_merge text =
    starts_with nat_eq text (codes "<<<<<<<") || starts_with nat_eq text (codes "=======")
    || starts_with nat_eq text (codes ">>>>>>>") || starts_with nat_eq text (codes "|||||||")

-- a comment of another language
abbrev pub is_other_comment : List ℕ → Bool
is_other_comment text =
    starts_with nat_eq text (codes "//") || starts_with nat_eq text (codes "--")
    || starts_with nat_eq text (codes ";")

-- what a line is that begins with no name
abbrev pub line_kind : List ℕ → Option Kind
line_kind text =
    if is_merge text then Some Merge else
    if starts_with nat_eq text (codes "-----") then Some UnquotedKey else
    if is_other_comment text then Some OtherComment else
    if begins_with 91 text then Some Section else
    if begins_with equals_sign text then Some NoName else None

-- this kind, and how many characters of the text stand before what is left of it
abbrev pub at : Kind → List ℕ → List ℕ → Kind × ℕ
at kind text rest = (kind, length text - length rest)

-- the word is this one
abbrev pub is_text : List ℕ → List ℕ → Bool
is_text word text = length word == length text && starts_with nat_eq word text

-- a word that declares a name in another language
abbrev pub is_other_word : List ℕ → Bool
is_other_word word =
    is_text word (codes "set") || is_text word (codes "SET") || is_text word (codes "setx")
    || is_text word (codes "setenv") || is_text word (codes "declare")
    || is_text word (codes "typeset") || is_text word (codes "let")
    || is_text word (codes "local") || is_text word (codes "readonly")
    || is_text word (codes "const") || is_text word (codes "var") || is_text word (codes "env")
    || is_text word (codes "ENV")

-- a character with which a name was meant to begin
abbrev pub is_like_name : ℕ → Bool
is_like_name c = is_name_character V15 c || c == 45 || c == full_stop

-- the fault of a line that begins with no name
abbrev pub no_word : List ℕ → List ℕ → Kind × ℕ
no_word text start =
    if begins_passing is_like_name start && list_any (λ c. c == equals_sign) start
    then at NameStart text start else at OtherFault text start

-- the fault behind a name, where this follows it and is this without white space, or `None` if an
-- equals sign follows
abbrev pub behind_name : List ℕ → List ℕ → List ℕ → Option (Kind × ℕ)
behind_name text after [] = Some (at NoEqualsSign text after)
behind_name text after (c ∷ behind) =
    if c == equals_sign then None else
    if c == 58 then Some (at Colon text (c ∷ behind)) else
    if length (c ∷ behind) == length after then Some (at NameCharacter text after)
    else Some (at NoEqualsSign text after)

-- the fault behind a name, or `None` if an equals sign follows
abbrev pub behind_word : List ℕ → List ℕ → Option (Kind × ℕ)
behind_word text after = behind_name text after (skip_white after)

-- the fault behind `export` and a name
abbrev pub behind_exported : List ℕ → List ℕ → Option (Kind × ℕ)
behind_exported text after =
    if length (skip_white after) == 0 then Some (at ExportWithoutValue text (skip_white text))
    else behind_word text after

-- the fault of a line that begins with `export` and then goes on so, or `None` if its statement is
-- whole
abbrev pub export_fault : List ℕ → List ℕ → Option (Kind × ℕ)
export_fault text [] = behind_exported text []
export_fault text (c ∷ behind) =
    if c == 45 then Some (at ExportOption text (c ∷ behind)) else
    if length (after_word (c ∷ behind)) == length (c ∷ behind)
    then Some (at NameStart text (c ∷ behind))
    else behind_exported text (after_word (c ∷ behind))

-- the fault of a line that begins with this word, behind which this follows, without white space
abbrev pub word_fault : List ℕ → List ℕ → List ℕ → List ℕ → Option (Kind × ℕ)
word_fault text start after behind =
    let word = take (length start - length after) start in
    if begins_with equals_sign behind then None else
    if not (length behind == 0) && length behind == length after then behind_word text after else
    if is_text word (codes "export") then export_fault text behind else
    if not (length behind == 0) && is_other_word word then Some (at OtherWord text start)
    else behind_word text after

-- the fault of a line that begins so, without white space
abbrev pub start_fault : List ℕ → List ℕ → Option Kind → Option (Kind × ℕ)
start_fault text start (Some kind) = Some (at kind text start)
start_fault text start None =
    if length (after_word start) == length start then Some (no_word text start)
    else word_fault text start (after_word start) (skip_white (after_word start))

-- the fault of a line that is no statement, or `None` if what is assigned has it
abbrev pub statement_fault : List ℕ → Option (Kind × ℕ)
statement_fault text = start_fault text (skip_white text) (line_kind (skip_white text))

-- the text behind the first equals sign
abbrev pub after_equals : List ℕ → List ℕ
after_equals [] = []
after_equals (c ∷ cs) = if c == equals_sign then cs else after_equals cs

-- a dollar and an opening parenthesis are in the text
abbrev pub has_command : List ℕ → Bool
has_command [] = false
has_command (c ∷ cs) = (c == dollar && begins_with 40 cs) || has_command cs

-- the character is a semicolon
abbrev pub is_semicolon : Option ℕ → Bool
is_semicolon None = false
is_semicolon (Some c) = c == 59

-- what is told of the end of a value by what is left of it, and the character before the blanks
abbrev pub left_kind : List ℕ → Option ℕ → Option Kind
left_kind left ended =
    if starts_with nat_eq left (codes "//") then Some SlashComment else
    if starts_with nat_eq left (codes ";") || is_semicolon ended then Some Semicolon else
    if starts_with nat_eq left (codes "\\\n") || is_text left (codes "\\")
    then Some LineContinuation else
    if begins_declaration left then Some SeveralOnLine else None

-- the first single quote of what is left is within a word, where this stands before it; a quote
-- behind nothing is none
abbrev pub closes_in_word_after : Option ℕ → List ℕ → Bool
closes_in_word_after before [] = false
closes_in_word_after before (c ∷ cs) =
    if c == single_quote && is_some before then is_letter before && is_letter (first_of cs)
    else closes_in_word_after (Some c) cs

-- the first single quote behind the first character is within a word
abbrev pub closes_in_word : List ℕ → Bool
closes_in_word value = closes_in_word_after None value

-- what is told of a value with a space by the whole of it
abbrev pub whole_kind : List ℕ → List ℕ → Kind
whole_kind value left =
    if begins_with 40 value then Array else
    if begins_with single_quote value && closes_in_word value then OpenSingleQuote else
    if begins_passing is_quote value then TextAfterQuote else
    if begins_passing is_typographic value then TypographicQuotes else
    if has_command (take (length value - length left) value) then CommandWithSpace
    else SpaceInValue

-- this kind, if there is one, else the other
abbrev pub kind_or : Option Kind → Kind → Kind
kind_or (Some kind) other = kind
kind_or None other = other

-- why nothing may follow the blanks behind a value: what is left of it, and the character before
-- the blanks
abbrev pub tail_kind : List ℕ → List ℕ → Option ℕ → Kind
tail_kind value left ended =
    if starts_with nat_eq value (codes "-----BEGIN") then UnquotedKey
    else kind_or (left_kind left ended) (whole_kind value left)
