-- What pieces mean, and the items of entries: keys with their values, under one environment.
use Rattle.std.specs.Prelude.{ℕ, List, [], ◌∷◌, ◌++◌, Option, Some, None, Result, Ok, Err}
use Rattle.std.specs.Prelude.{unwrap_or, bytes_eq, if◌then◌else◌}
use Rattle.std.specs.Option.{option_or}
use Rattle.dotenvy_format.specs.Value.{Piece, Text, Name, LastBackslash}
use Rattle.dotenvy_format.specs.Entries.{Failure, Entry, Declares, Fails}

-- what names stand for: the text of each name that has one
abbrev pub LookUp : Type 0
LookUp = List ℕ → Option (List ℕ)

-- every name is absent
abbrev pub no_values : LookUp
no_values name = None

-- what a name stands for in a value: its text, or the empty text where it has none
abbrev pub text_of : LookUp → List ℕ → List ℕ
text_of look_up name = unwrap_or (look_up name) []

-- the pieces joined, with each name replaced by what it stands for, and no last backslash
abbrev pub meaning : LookUp → List Piece → List ℕ
meaning look_up [] = []
meaning look_up (Text text ∷ pieces) = text ++ meaning look_up pieces
meaning look_up (Name name after ∷ pieces) =
    text_of look_up name ++ (after ++ meaning look_up pieces)
meaning look_up (LastBackslash ∷ pieces) = meaning look_up pieces

-- the look-up in a list of pairs, where the first pair with a key counts
abbrev pub first_value : List (List ℕ × List ℕ) → LookUp
first_value [] name = None
first_value ((key, value) ∷ pairs) name =
    if bytes_eq key name then Some value else first_value pairs name

-- the text that the first look-up has for a name, or else the text that the second has
abbrev pub or_else : LookUp → LookUp → LookUp
or_else first second name = option_or (first name) (second name)

-- the look-up with one name changed
abbrev pub with_value : LookUp → List ℕ → List ℕ → LookUp
with_value look_up key value name = if bytes_eq key name then Some value else look_up name

-- the items of entries; a name means its value in the environment, or else that of the last earlier declaration
abbrev pub items_from : LookUp → LookUp → List Entry → List (Result (List ℕ × List ℕ) Failure)
items_from env earlier [] = []
items_from env earlier (Declares key pieces ∷ entries) =
    let value = meaning (or_else env earlier) pieces in
    Ok (key, value) ∷ items_from env (with_value earlier key value) entries
items_from env earlier (Fails failure ∷ entries) = Err failure ∷ items_from env earlier entries

-- the items of entries under one environment, from the first entry on
abbrev pub items : LookUp → List Entry → List (Result (List ℕ × List ℕ) Failure)
items env entries = items_from env no_values entries
