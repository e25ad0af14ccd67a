-- The forms of a value that the readers of Python, Node and Ruby give alike.
use Rattle.std.specs.Prelude.{ℕ, Bool, true, false, not, ◌&&◌, ◌||◌, ◌==◌, List, [], ◌∷◌, ◌++◌}
use Rattle.std.specs.Prelude.{Option, Some, None, if◌then◌else◌}
use Rattle.std.specs.Char.{is_whitespace}
use Rattle.std.specs.List.{list_any}
use Rattle.dotenvy.specs.Characters.{begins_with, line_feed, carriage_return, space, hash, backslash}
use Rattle.dotenvy.specs.Characters.{dollar, left_brace, right_brace, single_quote, double_quote}
use Rattle.dotenvy.specs.Written.{needs_backslash}
use Rattle.dotenvy_editor.specs.declared.refusal.Unportable.{Unportable}
use Rattle.dotenvy_editor.specs.declared.refusal.Unportable.TheVariants.{CarriageReturn, Apostrophe}
use Rattle.dotenvy_editor.specs.declared.refusal.Unportable.TheVariants.{LineFeed, Backslashes}
use Rattle.dotenvy_editor.specs.declared.refusal.Unportable.TheVariants.{LastBackslash, Substitution}
use Rattle.dotenvy_editor.specs.Assignments.{Spot}
use Rattle.dotenvy_editor.specs.Ends.{ends_in}
use Rattle.dotenvy_editor.specs.Forms.{any_after, comment_of, has, is_word, is_nil, where_true}
use Rattle.dotenvy_editor.specs.Forms.{in_single_quotes, on_one_line}

-- there are two backslashes in a row
abbrev pub has_backslashes : List ℕ → Bool
has_backslashes value = any_after backslash (begins_with backslash) value

-- the text begins with `{`, and has a `}`
abbrev pub begins_with_braces : List ℕ → Bool
begins_with_braces text = begins_with left_brace text && has right_brace text

-- there is `${`, and a later `}`
abbrev pub has_braced_name : List ℕ → Bool
has_braced_name value = any_after dollar begins_with_braces value

-- why the value in single quotes isn't read alike, if it isn't
abbrev pub single_refusal : List ℕ → Option Unportable
single_refusal value =
    if has single_quote value then Some Apostrophe
    else if has line_feed value then Some LineFeed
    else if has_backslashes value then Some Backslashes
    else if ends_in backslash value then Some LastBackslash
    else if has_braced_name value then Some Substitution
    else None

-- why no form of the value is read alike, if none is: it can't be in double quotes either
abbrev pub value_refusal : List ℕ → Option Unportable
value_refusal value =
    if has carriage_return value then Some CarriageReturn
    else if list_any needs_backslash value then single_refusal value
    else None

-- the value may be in single quotes
abbrev pub fits_single : Option Unportable → Bool
fits_single None = true
fits_single (Some refusal) = false

-- the forms of a value before this comment: plain, but not empty before a comment; and in quotes
-- that the comment lacks
abbrev pub portable_forms : List ℕ → List ℕ → List (List ℕ)
portable_forms value comment =
    where_true (is_word value && not (is_nil value && not (is_nil comment))) value
    ++ (where_true (fits_single (single_refusal value) && not (has single_quote comment))
    (in_single_quotes value)
    ++ where_true (not (list_any needs_backslash value) && not (has double_quote comment))
    (on_one_line value))

-- white space other than a space
abbrev pub is_other_white : ℕ → Bool
is_other_white c = is_whitespace c && not (c == space)

-- the text is a line feed, or a carriage return and a line feed
abbrev pub is_line_end : List ℕ → Bool
is_line_end [] = false
is_line_end (c ∷ []) = c == line_feed
is_line_end (c ∷ d ∷ []) = c == carriage_return && d == line_feed
is_line_end (c ∷ d ∷ e ∷ cs) = false

-- the text without a line feed at its end, and a carriage return before that
abbrev pub without_end : List ℕ → List ℕ
without_end [] = []
without_end (c ∷ cs) = if is_line_end (c ∷ cs) then [] else c ∷ without_end cs

-- the text before its first `#`
abbrev pub before_comment : List ℕ → List ℕ
before_comment [] = []
before_comment (c ∷ cs) = if c == hash then [] else c ∷ before_comment cs

-- white space other than spaces is in front of the value, or after it up to a comment or the end of
-- the line; or a carriage return alone is this end
abbrev pub has_white_space : Spot → Bool
has_white_space spot =
    list_any is_other_white spot.front
    || (list_any is_other_white (before_comment (without_end spot.rest))
    || ends_in carriage_return spot.rest)

-- the forms of a value in this spot: none where it has white space other than spaces
abbrev pub spot_forms : List ℕ → Spot → List (List ℕ)
spot_forms value spot =
    if has_white_space spot then [] else portable_forms value (comment_of spot.rest)
