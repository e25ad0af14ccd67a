-- What the functions that read a value piece by piece return, said by its characters.
use Rattle.std.specs.Prelude.{ℕ, zero, suc, ◌≡◌, ◌+◌, ◌<◌, Bool, true, false, not, ◌==◌, List, [], ◌∷◌, ◌++◌}
use Rattle.std.specs.Prelude.{length, Option, Some, None, MatchOption, if◌then◌else◌}
use Rattle.std.specs.Prelude.{◌-◌, ◌^◌, ◌≤◌, min}
use denote.Ref.{Bor}
use Rattle.std.specs.Str.{chars, encode_utf8_all, IsUtf8}
use Rattle.std.specs.List.{list_all}
use Rattle.dotenvy_format.specs.declared.dialect.Dialect.{Dialect}
use Rattle.dotenvy_format.specs.declared.text.Quoting.{Quoting}
use Rattle.dotenvy_format.specs.declared.text.Quoting.TheVariants.{Unquoted, DoubleQuoted}
use Rattle.dotenvy_format.specs.declared.value.Kind.{Kind}
use Rattle.dotenvy_format.specs.declared.value.Kind.TheVariants.{Backslash, SingleQuote}
use Rattle.dotenvy_format.specs.declared.value.Kind.TheVariants.{DoubleQuote, Dollar, SpaceOrTab}
use Rattle.dotenvy_format.specs.declared.value.Kind.TheVariants.{Plain}
use Rattle.dotenvy_format.specs.declared.value.Piece.{Piece as CodePiece}
use Rattle.dotenvy_format.specs.declared.value.Piece.TheVariants.{Text as GivesText, Name as GivesName}
use Rattle.dotenvy_format.specs.declared.value.Piece.TheVariants.{LastBackslash as GivesBackslash}
use Rattle.dotenvy_format.specs.declared.value.Piece.TheVariants.{EmptyNames as GivesEmptyNames}
use Rattle.dotenvy_format.specs.declared.value.Given.{Given}
use Rattle.dotenvy_format.specs.declared.value.TextPart.{TextPart}
use Rattle.dotenvy_format.specs.declared.texts.Texts.{Texts}
use Rattle.dotenvy_format.specs.declared.value.NextPiece.{NextPiece}
use Rattle.dotenvy_format.specs.declared.value.NextPiece.TheVariants.{Piece as GivesNext, End, Unfinished, Fault}
use Rattle.dotenvy_format.specs.Characters.{single_quote, double_quote, dollar, backslash, is_space_or_tab}
use Rattle.dotenvy_format.specs.Characters.{begins_passing}
use Rattle.dotenvy_format.specs.Value.{Piece, Text, Name}
use Rattle.dotenvy_format.specs.Value.{LastBackslash, is_escape, escape_meaning}
use Rattle.dotenvy_format.specs.Items.{LookUp, meaning, text_of}
use Rattle.dotenvy_format.specs.inside.ReadValue.{ValueMode, base, given, read_value, value_reach}

-- the other quoting, which a double quote changes to
abbrev pub other_quoting : Quoting → Quoting
other_quoting Unquoted = DoubleQuoted
other_quoting DoubleQuoted = Unquoted

-- the text has no character
abbrev pub is_empty : List ℕ → Bool
is_empty [] = true
is_empty (c ∷ cs) = false

-- what a character begins, outside quotes or in double quotes
abbrev pub kind_of : Quoting → ℕ → Kind
kind_of Unquoted c =
    if c == backslash then Backslash else
    if c == single_quote then SingleQuote else
    if c == double_quote then DoubleQuote else
    if c == dollar then Dollar else
    if is_space_or_tab c then SpaceOrTab else Plain
kind_of DoubleQuoted c =
    if c == backslash then Backslash else
    if c == double_quote then DoubleQuote else
    if c == dollar then Dollar else Plain

-- the result is what a backslash and this character mean, or `None` if that is no escape
abbrev pub Escapes : ℕ → Option (Bor (List ℕ)) → Type 0
Escapes c result =
    MatchOption result (is_escape c ≡ false)
    (λ text. (is_escape c ≡ true) × (text.now ≡ encode_utf8_all (escape_meaning c ∷ [])))

-- a list, so many times in a row
abbrev pub times : ℕ → List ℕ → List ℕ
times zero xs = []
times (suc n) xs = xs ++ times n xs

-- the empty name, so many times
abbrev pub empty_names : ℕ → List Piece
empty_names zero = []
empty_names (suc n) = Name [] [] ∷ empty_names n

-- the bytes that a piece, as the code returns it, means
abbrev pub piece_bytes : LookUp → CodePiece → List ℕ
piece_bytes look_up (GivesText text) = text.now
piece_bytes look_up (GivesName name after) =
    encode_utf8_all (text_of look_up (chars name.now)) ++ after.now
piece_bytes look_up (GivesEmptyNames more) = times (suc more) (encode_utf8_all (text_of look_up []))
piece_bytes look_up GivesBackslash = []

-- the pieces that are no text
abbrev pub without_texts : List Piece → List Piece
without_texts [] = []
without_texts (Text text ∷ pieces) = without_texts pieces
without_texts (Name name after ∷ pieces) = Name name after ∷ without_texts pieces
without_texts (LastBackslash ∷ pieces) = LastBackslash ∷ without_texts pieces

-- a piece, as the code returns it, as those that are no text, if it isn't one
abbrev pub named_piece : CodePiece → List Piece
named_piece (GivesText text) = []
named_piece (GivesName name after) = Name (chars name.now) (chars after.now) ∷ []
named_piece (GivesEmptyNames more) = empty_names (suc more)
named_piece GivesBackslash = LastBackslash ∷ []

-- reading the text from mode m gives these pieces first, and then goes on with the rest from mode n
pub record IsReadTo (dialect : Dialect) (m : ValueMode) (text : List ℕ) (pieces : List Piece)
    (n : ValueMode) (rest : List ℕ) : Type 0 where
  pub front : List ℕ
  pub spelled : text ≡ front ++ rest
  pub reads : read_value dialect text m ≡ given pieces (read_value dialect rest n)
  pub counts : value_reach dialect text m ≡ length front + value_reach dialect rest n

-- the code's piece means what the pieces that are read mean, whatever names stand for; it has their names and
-- backslash, and the value goes on where it says
pub record GivesPiece (dialect : Dialect) (m : ValueMode) (text : List ℕ) (next : Given)
    : Type 0 where
  pub pieces : List Piece
  pub is_read :
      IsReadTo dialect m text pieces (base next.quoting) (chars next.rest.now)
  pub follows : IsUtf8 next.rest.now
  pub means : (look_up : LookUp) →
      piece_bytes look_up next.piece ≡ encode_utf8_all (meaning look_up pieces)
  pub names : without_texts pieces ≡ named_piece next.piece

-- a part of the code means this text, and the value goes on where it says
abbrev pub MeansText : (dialect : Dialect) → ValueMode → List ℕ → TextPart → Type 0
MeansText dialect m text part =
    GivesPiece dialect m text
    (record { piece = GivesText part.meant; rest = part.rest; quoting = part.quoting })

-- the text is no value: it can be completed up to what is left, and no further
pub record StopsAt (dialect : Dialect) (m : ValueMode) (text left : List ℕ) : Type 0 where
  pub front : List ℕ
  pub spelled : text ≡ front ++ left
  pub reads : read_value dialect text m ≡ None
  pub counts : value_reach dialect text m ≡ length front

-- what comes next is this: the end of the value, a piece, the end of a text that lacks the end of its value, or a fault
abbrev pub NextPieceIs : (dialect : Dialect) (m : ValueMode) (text : List ℕ) → NextPiece → Type 0
NextPieceIs dialect m text End = read_value dialect text m ≡ Some []
NextPieceIs dialect m text (GivesNext next) = GivesPiece dialect m text next
NextPieceIs dialect m text Unfinished = StopsAt dialect m text []
NextPieceIs dialect m text (Fault left) = StopsAt dialect m text (chars left.now)

-- a part that means a text, as a piece
abbrev pub piece_of : TextPart → NextPiece
piece_of part =
    GivesNext (record { piece = GivesText part.meant; rest = part.rest; quoting = part.quoting })

-- a character of this kind, and what follows it, begin with a part that means a text
abbrev pub begins_text_by : Kind → List ℕ → Bool
begins_text_by Backslash cs = begins_passing is_escape cs
begins_text_by SingleQuote cs = not (list_all (λ c. not (c == single_quote)) cs)
begins_text_by DoubleQuote cs = true
begins_text_by Dollar cs = false
begins_text_by SpaceOrTab cs = false
begins_text_by Plain cs = true

-- what is left of a value begins with a part that means a text
abbrev pub begins_text : Quoting → List ℕ → Bool
begins_text quoting [] = false
begins_text quoting (c ∷ cs) = begins_text_by (kind_of quoting c) cs

-- texts are read from the start, which mean these bytes, whatever names stand for; then the value goes on
pub record ReadsTexts (dialect : Dialect) (start : Quoting) (text meant : List ℕ) (quoting : Quoting)
    (rest : List ℕ) : Type 0 where
  pub pieces : List Piece
  pub is_read : IsReadTo dialect (base start) text pieces (base quoting) rest
  pub means : (look_up : LookUp) → encode_utf8_all (meaning look_up pieces) ≡ meant

-- texts are read, up to where none begins; they mean so many bytes, or more than can be counted
pub record MeasuresTexts (start : Quoting) (text : List ℕ) (texts : Texts) : Type 0 where
  pub meant : List ℕ
  pub len : texts.len ≡ min (length meant) (2 ^ 64 - 1)
  pub follows : IsUtf8 texts.rest.now
  pub reads : (dialect : Dialect) →
      ReadsTexts dialect start text meant texts.quoting (chars texts.rest.now)
  pub ends : begins_text texts.quoting (chars texts.rest.now) ≡ false

-- what texts at the start mean fits after so many bytes
abbrev pub HasTextRoom : Quoting → List ℕ → ℕ → ℕ → Type 0
HasTextRoom start text len capacity =
    (dialect : Dialect) × ((meant : List ℕ) (quoting : Quoting) (rest : List ℕ) →
    ReadsTexts dialect start text meant quoting rest → len + length meant ≤ capacity)

-- texts are read, up to where none begins; what they mean is appended
pub record PushesTexts (start : Quoting) (text old new : List ℕ) (left : Bor (List ℕ) × Quoting)
    : Type 0 where
  pub meant : List ℕ
  pub bytes : new ≡ old ++ meant
  pub follows : IsUtf8 left.0.now
  pub reads : (dialect : Dialect) →
      ReadsTexts dialect start text meant left.1 (chars left.0.now)
  pub ends : begins_text left.1 (chars left.0.now) ≡ false

-- after a piece, fewer characters are left than in the text
abbrev pub IsShorter : List ℕ → NextPiece → Type 0
IsShorter text End = Unit {0}
IsShorter text (GivesNext next) = length (chars next.rest.now) < length text
IsShorter text Unfinished = Unit {0}
IsShorter text (Fault left) = Unit {0}
