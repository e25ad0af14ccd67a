-- What a line assigns with each name in it as it is written: nothing is substituted.
use Rattle.std.specs.Prelude.{ℕ, ◌≡◌, ◌⊎◌, not, List, [], ◌∷◌, ◌++◌, IsTrue}
use Rattle.std.specs.Prelude.{Option, Some, None}
use Rattle.std.specs.List.{flat_map}
use Rattle.std.specs.Str.{encode_utf8_all}
use Rattle.dotenvy.specs.Dialect.{Dialect}
use Rattle.dotenvy.specs.Characters.{is_empty_or_comment}
use Rattle.dotenvy.specs.LogicalLine.{HasText, IsNext}
use Rattle.dotenvy.specs.Outcome.{is_nothing, trimmed}
use Rattle.dotenvy.specs.PhysicalLines.{line_texts}
use Rattle.dotenvy.specs.Statement.{IsStatement}
use Rattle.dotenvy.specs.Value.{Piece, Part, plain, escape, braced, bare, bare_before, Segment}
use Rattle.dotenvy.specs.Value.{unquoted_part, single, double, Close, no_close, lone_backslash}
use Rattle.dotenvy.specs.Value.{bare_name, tail, part_text, close_text, escape_meaning, IsValue}

-- what a part gives: an escape gives what it means, and all else itself, a name with its dollar and braces
abbrev pub part_verbatim : Part → List ℕ
part_verbatim (plain c) = part_text (plain c)
part_verbatim (escape c) = escape_meaning c ∷ []
part_verbatim (braced name) = part_text (braced name)
part_verbatim (bare name c) = part_text (bare name c)
part_verbatim (bare_before name) = part_text (bare_before name)

-- what a segment gives: the text in its quotes
abbrev pub segment_verbatim : Segment → List ℕ
segment_verbatim (unquoted_part p) = part_verbatim p
segment_verbatim (single inner) = inner
segment_verbatim (double inner) = flat_map part_verbatim inner

-- what the end of a value gives: a name as it is written, or nothing
abbrev pub close_verbatim : Close → List ℕ
close_verbatim no_close = []
close_verbatim lone_backslash = []
close_verbatim (bare_name name) = close_text (bare_name name)
close_verbatim (tail blank blanks comment) = []

-- the value gives this text with each name in it as it is written
abbrev pub IsVerbatim : Dialect → List ℕ → List ℕ → Type 0
IsVerbatim dialect value text =
    (pieces : List Piece) × (is : IsValue dialect value pieces)
    × (text ≡ flat_map segment_verbatim is.segments ++ close_verbatim is.close)

-- what is assigned gives this text: nothing or a comment gives none, a value its own
abbrev pub AssignsVerbatim : Dialect → List ℕ → List ℕ → Type 0
AssignsVerbatim dialect assigned text =
    (IsTrue (is_empty_or_comment assigned) × (text ≡ []))
    ⊎ (IsTrue (not (is_empty_or_comment assigned)) × IsVerbatim dialect assigned text)

-- the line is a statement, and what it assigns gives this text
abbrev pub SaysVerbatim : Dialect → List ℕ → List ℕ → Type 0
SaysVerbatim dialect line text =
    IsTrue (not (is_nothing (trimmed line)))
    × (key assigned : List ℕ) × IsStatement (trimmed line) key assigned
    × AssignsVerbatim dialect assigned text

-- the first logical line of the bytes is a statement, and what it assigns gives this text
abbrev pub BeginsVerbatim : Dialect → List ℕ → List ℕ → Type 0
BeginsVerbatim dialect bytes text =
    (count : ℕ) × (line : List ℕ) × IsNext (line_texts bytes) count (HasText line)
    × SaysVerbatim dialect line text

-- the bytes of a text of which P holds were found; or P holds of none
abbrev pub Finds : (List ℕ → Type 0) → Option (List ℕ) → Type 0
Finds P None = (text : List ℕ) → ¬ (P text)
Finds P (Some found) = (text : List ℕ) × P text × (found ≡ encode_utf8_all text)
