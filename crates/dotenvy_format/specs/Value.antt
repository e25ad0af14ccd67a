-- Values: what may be assigned to a key, and the pieces that it means.
use Rattle.std.specs.Prelude.{◌≡◌, ℕ, Bool, true, false, not, ◌&&◌, ◌||◌, ◌==◌, List, [], ◌∷◌, ◌++◌}
use Rattle.std.specs.Prelude.{IsTrue, if◌then◌else◌}
use Rattle.std.specs.List.{flat_map, list_all}
use Rattle.dotenvy_format.specs.declared.dialect.Dialect.{Dialect}
use Rattle.dotenvy_format.specs.declared.dialect.Dialect.TheVariants.{V15, Next}
-- where a part is: outside quotes (Unquoted), or between double quotes (DoubleQuoted)
use Rattle.dotenvy_format.specs.declared.text.Quoting.{Quoting}
use Rattle.dotenvy_format.specs.declared.text.Quoting.TheVariants.{Unquoted, DoubleQuoted}
use Rattle.dotenvy_format.specs.Characters.{is_space_or_tab, is_name_character, is_empty_or_comment}
use Rattle.dotenvy_format.specs.Characters.{begins_passing, line_feed, letter_n, space}
use Rattle.dotenvy_format.specs.Characters.{single_quote, double_quote, dollar, backslash}
use Rattle.dotenvy_format.specs.Characters.{left_brace, right_brace}

-- a piece of what a value means: a text; a name, which is replaced by what it stands for, and the character that ends
-- it, if one does; or a last backslash, which means nothing
pub data Piece : Type 0 where
  Text : List ℕ → Piece
  Name : List ℕ → List ℕ → Piece
  LastBackslash : Piece

-- a part: a character; a backslash and a character; `${name}`; `$name` and the character that ends it; or `$name` alone
pub data Part : Type 0 where
  plain : ℕ → Part
  escape : ℕ → Part
  braced : List ℕ → Part
  bare : List ℕ → ℕ → Part
  bare_before : List ℕ → Part

-- a segment of a value: a part outside quotes; a text in single quotes; or parts in double quotes
pub data Segment : Type 0 where
  unquoted_part : Part → Segment
  single : List ℕ → Segment
  double : List Part → Segment

-- the end of a value: nothing; a backslash; `$name`; or a space or tab, more of these, and perhaps a comment
pub data Close : Type 0 where
  no_close : Close
  lone_backslash : Close
  bare_name : List ℕ → Close
  tail : ℕ → List ℕ → List ℕ → Close

-- the text of a part
abbrev pub part_text : Part → List ℕ
part_text (plain c) = c ∷ []
part_text (escape c) = backslash ∷ c ∷ []
part_text (braced name) = dollar ∷ left_brace ∷ (name ++ right_brace ∷ [])
part_text (bare name c) = dollar ∷ (name ++ c ∷ [])
part_text (bare_before name) = dollar ∷ name

-- the text of a row of parts
abbrev pub parts_text : List Part → List ℕ
parts_text parts = flat_map part_text parts

-- the text of a segment
abbrev pub segment_text : Segment → List ℕ
segment_text (unquoted_part p) = part_text p
segment_text (single inner) = single_quote ∷ (inner ++ single_quote ∷ [])
segment_text (double inner) = double_quote ∷ (parts_text inner ++ double_quote ∷ [])

-- the text of a row of segments
abbrev pub segments_text : List Segment → List ℕ
segments_text segments = flat_map segment_text segments

-- the text of the end of a value
abbrev pub close_text : Close → List ℕ
close_text no_close = []
close_text lone_backslash = backslash ∷ []
close_text (bare_name name) = dollar ∷ name
close_text (tail blank blanks comment) = blank ∷ (blanks ++ comment)

-- what a backslash and this character mean: a line feed for `n`, otherwise the character itself
abbrev pub escape_meaning : ℕ → ℕ
escape_meaning c = if c == letter_n then line_feed else c

-- the pieces that a part means
abbrev pub part_pieces : Part → List Piece
part_pieces (plain c) = Text (c ∷ []) ∷ []
part_pieces (escape c) = Text (escape_meaning c ∷ []) ∷ []
part_pieces (braced name) = Name name [] ∷ []
part_pieces (bare name c) = Name name (c ∷ []) ∷ []
part_pieces (bare_before name) = Name name [] ∷ []

-- the pieces that a segment means
abbrev pub segment_pieces : Segment → List Piece
segment_pieces (unquoted_part p) = part_pieces p
segment_pieces (single inner) = Text inner ∷ []
segment_pieces (double inner) = flat_map part_pieces inner

-- the pieces that the end of a value means: a last backslash, a name, or nothing
abbrev pub close_pieces : Close → List Piece
close_pieces no_close = []
close_pieces lone_backslash = LastBackslash ∷ []
close_pieces (bare_name name) = Name name [] ∷ []
close_pieces (tail blank blanks comment) = []

-- a character that means itself inside double quotes
abbrev pub is_plain_inside : ℕ → Bool
is_plain_inside c = not ((c == backslash || c == double_quote) || c == dollar)

-- a character that means itself outside quotes
abbrev pub is_plain_outside : ℕ → Bool
is_plain_outside c =
    not
    ((((c == backslash || c == single_quote) || c == double_quote) || c == dollar)
    || is_space_or_tab c)

-- a character that may follow a backslash: a backslash, a quote, a dollar, a space or `n`
abbrev pub is_escape : ℕ → Bool
is_escape c =
    ((((c == backslash || c == single_quote) || c == double_quote) || c == dollar) || c == space)
    || c == letter_n

-- a character that means itself, outside quotes or inside double quotes
abbrev pub is_plain : Quoting → ℕ → Bool
is_plain DoubleQuoted c = is_plain_inside c
is_plain Unquoted c = is_plain_outside c

-- a bare name may be right before the closing double quote, in this dialect
abbrev pub closes_after_name : Dialect → Quoting → Bool
closes_after_name V15 quoting = false
closes_after_name Next Unquoted = false
closes_after_name Next DoubleQuoted = true

-- this character ends a bare name and is not its text: it begins another name, or closes the quotes
abbrev pub is_left_by_name : Dialect → Quoting → ℕ → Bool
is_left_by_name dialect quoting c =
    c == dollar || (closes_after_name dialect quoting && c == double_quote)

-- the text begins with a character that ends a bare name and is not its text
abbrev pub is_before_left : Dialect → Quoting → List ℕ → Bool
is_before_left dialect quoting text = begins_passing (is_left_by_name dialect quoting) text

-- this character ends the bare name and means itself; after an empty name, `{` would begin a braced name instead
abbrev pub ends_name : Dialect → Quoting → List ℕ → ℕ → Bool
ends_name dialect quoting [] c =
    not ((is_name_character dialect c || is_left_by_name dialect quoting c) || c == left_brace)
ends_name dialect quoting (d ∷ name) c =
    not (is_name_character dialect c || is_left_by_name dialect quoting c)

-- this may be a part here, before this text
abbrev pub IsPart : Dialect → Quoting → Part → List ℕ → Type 0
IsPart dialect quoting (plain c) after = IsTrue (is_plain quoting c)
IsPart dialect quoting (escape c) after = IsTrue (is_escape c)
IsPart dialect quoting (braced name) after = IsTrue (list_all (λ c. not (c == right_brace)) name)
IsPart dialect quoting (bare name c) after =
    IsTrue (list_all (is_name_character dialect) name) × IsTrue (ends_name dialect quoting name c)
IsPart dialect quoting (bare_before name) after =
    IsTrue (list_all (is_name_character dialect) name)
    × IsTrue (is_before_left dialect quoting after)

-- these may be parts in a row here, before this text
abbrev pub AreParts : Dialect → Quoting → List Part → List ℕ → Type 0
AreParts dialect quoting [] after = Unit {0}
AreParts dialect quoting (p ∷ parts) after =
    IsPart dialect quoting p (parts_text parts ++ after) × AreParts dialect quoting parts after

-- this may be a segment before this text
abbrev pub IsSegment : Dialect → Segment → List ℕ → Type 0
IsSegment dialect (unquoted_part p) after = IsPart dialect Unquoted p after
IsSegment dialect (single inner) after = IsTrue (list_all (λ c. not (c == single_quote)) inner)
IsSegment dialect (double inner) after = AreParts dialect DoubleQuoted inner (double_quote ∷ after)

-- these may be segments in a row, before this text
abbrev pub AreSegments : Dialect → List Segment → List ℕ → Type 0
AreSegments dialect [] after = Unit {0}
AreSegments dialect (s ∷ segments) after =
    IsSegment dialect s (segments_text segments ++ after) × AreSegments dialect segments after

-- a value may end so
abbrev pub IsClose : Dialect → Close → Type 0
IsClose dialect no_close = Unit {0}
IsClose dialect lone_backslash = Unit {0}
IsClose dialect (bare_name name) = IsTrue (list_all (is_name_character dialect) name)
IsClose dialect (tail blank blanks comment) =
    IsTrue (is_space_or_tab blank && list_all is_space_or_tab blanks)
    × IsTrue (is_empty_or_comment comment)

-- the text is a value: a row of segments and an end, which mean these pieces
pub record IsValue (dialect : Dialect) (value : List ℕ) (pieces : List Piece) : Type 0 where
  pub segments : List Segment
  pub close : Close
  pub are_segments : AreSegments dialect segments (close_text close)
  pub is_close : IsClose dialect close
  pub spelled : value ≡ segments_text segments ++ close_text close
  pub means : pieces ≡ flat_map segment_pieces segments ++ close_pieces close
