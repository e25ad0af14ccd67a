-- A value read from left to right, character by character. The tests are `elim`, since `if` would compute both cases.
use Rattle.std.specs.Prelude.{ℕ, suc, Bool, true, false, ◌==◌, List, [], ◌∷◌, ◌++◌, Option, Some, None}
use Rattle.dotenvy_format.specs.declared.dialect.Dialect.{Dialect}
use Rattle.dotenvy_format.specs.Characters.{is_space_or_tab, is_name_character, single_quote}
use Rattle.dotenvy_format.specs.Characters.{double_quote, dollar, backslash, left_brace}
use Rattle.dotenvy_format.specs.Characters.{right_brace, hash}
use Rattle.dotenvy_format.specs.declared.text.Quoting.{Quoting}
use Rattle.dotenvy_format.specs.declared.text.Quoting.TheVariants.{Unquoted, DoubleQuoted}
use Rattle.dotenvy_format.specs.Value.{Piece, Text, Name, LastBackslash}
use Rattle.dotenvy_format.specs.Value.{escape_meaning, is_escape, is_left_by_name}

-- the mode: what reading is in the middle of
pub data ValueMode : Type 0 where
  base : Quoting → ValueMode
  escaping : Quoting → ValueMode
  in_single : List ℕ → ValueMode
  naming : Quoting → List ℕ → ValueMode
  bracing : Quoting → List ℕ → ValueMode
  in_tail : ValueMode
  in_comment : ValueMode

-- the pieces that were read, or `None` where the text is no value
abbrev pub ValueReading : Type 0
ValueReading = Option (List Piece)

-- the mode that a character leads to, and the pieces that it completes; or `None` if no value goes on so
abbrev pub ValueStep : Type 0
ValueStep = Option (ValueMode × List Piece)

-- these pieces, and then those that are read
abbrev pub given : List Piece → ValueReading → ValueReading
given pieces None = None
given pieces (Some more) = Some (pieces ++ more)

-- the character is `{`, right after the dollar
abbrev pub is_brace_first : List ℕ → ℕ → Bool
is_brace_first [] c = c == left_brace
is_brace_first (d ∷ name) c = false

-- the pieces that the end of the text completes, or `None` if the value lacks its end
abbrev pub value_at_end : ValueMode → ValueReading
value_at_end (base Unquoted) = Some []
value_at_end (escaping Unquoted) = Some (LastBackslash ∷ [])
value_at_end (naming Unquoted name) = Some (Name name [] ∷ [])
value_at_end in_tail = Some []
value_at_end in_comment = Some []
value_at_end (base DoubleQuoted) = None
value_at_end (escaping DoubleQuoted) = None
value_at_end (naming DoubleQuoted name) = None
value_at_end (bracing q name) = None
value_at_end (in_single inner) = None

-- where a character leads outside quotes; its tests are: backslash, single quote, double quote, dollar, space or tab
abbrev pub goes_outside : (b s d o t : Bool) → ℕ → ValueStep
goes_outside true s d o t c = Some (escaping Unquoted, [])
goes_outside false true d o t c = Some (in_single [], [])
goes_outside false false true o t c = Some (base DoubleQuoted, [])
goes_outside false false false true t c = Some (naming Unquoted [], [])
goes_outside false false false false true c = Some (in_tail, [])
goes_outside false false false false false c = Some (base Unquoted, Text (c ∷ []) ∷ [])

-- where a character leads in double quotes; its tests are: backslash, double quote, dollar
abbrev pub goes_inside : (b d o : Bool) → ℕ → ValueStep
goes_inside true d o c = Some (escaping DoubleQuoted, [])
goes_inside false true o c = Some (base Unquoted, [])
goes_inside false false true c = Some (naming DoubleQuoted [], [])
goes_inside false false false c = Some (base DoubleQuoted, Text (c ∷ []) ∷ [])

-- where a character leads if a part may begin here
abbrev pub goes_base : Quoting → ℕ → ValueStep
goes_base Unquoted c =
    goes_outside (c == backslash) (c == single_quote) (c == double_quote) (c == dollar)
    (is_space_or_tab c) c
goes_base DoubleQuoted c = goes_inside (c == backslash) (c == double_quote) (c == dollar) c

-- these pieces, and then those that a step completes
abbrev pub with_pieces : List Piece → ValueStep → ValueStep
with_pieces pieces None = None
with_pieces pieces (Some (m, more)) = Some (m, pieces ++ more)

-- where a character leads from each mode
abbrev pub value_goes : (dialect : Dialect) → ValueMode → ℕ → ValueStep
value_goes dialect (base q) c = goes_base q c
value_goes dialect (escaping q) c =
    elim (is_escape c) [ true ↦ Some (base q, Text (escape_meaning c ∷ []) ∷ []) | false ↦ None ]
value_goes dialect (in_single inner) c =
    elim (c == single_quote) [
      | true ↦ Some (base Unquoted, Text inner ∷ [])
      | false ↦ Some (in_single (inner ++ c ∷ []), [])
    ]
value_goes dialect (naming q name) c =
    elim (is_name_character dialect c) [
      | true ↦ Some (naming q (name ++ c ∷ []), [])
      | false ↦
          elim (is_left_by_name dialect q c) [
            | true ↦ with_pieces (Name name [] ∷ []) (goes_base q c)
            | false ↦
                elim (is_brace_first name c) [
                  | true ↦ Some (bracing q [], [])
                  | false ↦ Some (base q, Name name (c ∷ []) ∷ [])
                ]
          ]
    ]
value_goes dialect (bracing q name) c =
    elim (c == right_brace) [
      | true ↦ Some (base q, Name name [] ∷ [])
      | false ↦ Some (bracing q (name ++ c ∷ []), [])
    ]
value_goes dialect in_tail c =
    elim (is_space_or_tab c) [
      | true ↦ Some (in_tail, [])
      | false ↦ elim (c == hash) [ true ↦ Some (in_comment, []) | false ↦ None ]
    ]
value_goes dialect in_comment c = Some (in_comment, [])

-- what is read after a step: the pieces that the step completes, and then those from its mode on
abbrev pub read_after : ValueStep → (ValueMode → ValueReading) → ValueReading
read_after None next = None
read_after (Some (m, pieces)) next = given pieces (next m)

-- the pieces of the text, read from this mode
abbrev pub read_value : (dialect : Dialect) → List ℕ → ValueMode → ValueReading
read_value dialect [] mode = value_at_end mode
read_value dialect (c ∷ cs) mode =
    read_after (value_goes dialect mode c) (λ m. read_value dialect cs m)

-- one character more than from the next mode, or none if no value goes on with it
abbrev pub value_reach_after : ValueStep → (ValueMode → ℕ) → ℕ
value_reach_after None next = 0
value_reach_after (Some (m, pieces)) next = suc (next m)

-- the number of characters up to the first that no value goes on with
abbrev pub value_reach : (dialect : Dialect) → List ℕ → ValueMode → ℕ
value_reach dialect [] m = 0
value_reach dialect (c ∷ cs) m =
    value_reach_after (value_goes dialect m c) (λ n. value_reach dialect cs n)
