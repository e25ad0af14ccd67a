-- How the code parses a line up to what is assigned, by characters.
use Rattle.std.specs.Prelude.{ℕ, Bool, cond, if◌then◌else◌, List, [], ◌∷◌, ◌==◌, bytes_eq, codes}
use Rattle.std.specs.Prelude.{Option, Some, None, ok_or, Result, Ok, Err}
use denote.Ref.{Bor}
use Rattle.std.specs.Str.{chars, skip_leading_whitespace}
use Rattle.dotenvy_format.specs.declared.statement.Statement.{Statement}
use Rattle.dotenvy_format.specs.Characters.{begins_key, continues_key, equals_sign, begins_passing}

-- the word that may be a prefix
abbrev pub export : List ℕ
export = codes "export"

-- a key and what follows it or is assigned to it, or what is left of the text at the fault
abbrev pub Parsed : Type 0
Parsed = Result (List ℕ × List ℕ) (List ℕ)

infixl 10 ◌>>=◌
-- parsing goes on with the key and what follows it, unless there was a fault
abbrev pub ◌>>=◌ : Parsed → (List ℕ × List ℕ → Parsed) → Parsed
(Ok found) >>= next = next found
(Err left) >>= next = Err left

-- the longest first part of the text whose characters pass the test
abbrev pub passing_front : (ℕ → Bool) → List ℕ → List ℕ
passing_front passes [] = []
passing_front passes (c ∷ cs) = cond (passes c) (c ∷ passing_front passes cs) []

-- what follows `run` in the text
abbrev pub after_passing : (ℕ → Bool) → List ℕ → List ℕ
after_passing passes [] = []
after_passing passes (c ∷ cs) = cond (passes c) (after_passing passes cs) (c ∷ cs)

-- the key that the text begins with, and what follows it, without white space at its start
abbrev pub split_key : List ℕ → Parsed
split_key text =
    if begins_passing begins_key text
    then Ok (passing_front continues_key text, skip_leading_whitespace (after_passing continues_key text))
    else Err text

-- the key and what is assigned to it, if what is left begins with `=`
abbrev pub assigned : List ℕ → List ℕ → Option (List ℕ × List ℕ)
assigned key [] = None
assigned key (c ∷ cs) = if c == equals_sign then Some (key, skip_leading_whitespace cs) else None

-- after a key that is no prefix there has to be `=`
abbrev pub after_key : List ℕ → List ℕ → Parsed
after_key key left = ok_or (assigned key left) left

-- after a prefix there has to be a key, and `=`
abbrev pub after_prefix : List ℕ → Parsed
after_prefix left = do
  cut ← split_key left
  after_key cut.0 cut.1

-- after the first word: `=`, or else a key and `=`, if the word is `export`
abbrev pub after_first_key : List ℕ → List ℕ → Parsed
after_first_key key left =
    elim (assigned key left) [
      | Some statement ↦ Ok statement
      | None ↦ if bytes_eq key export then after_prefix left else Err left
    ]

-- the statement of a text that has no white space at its start
abbrev pub trimmed_statement : List ℕ → Parsed
trimmed_statement text = do
  cut ← split_key text
  after_first_key cut.0 cut.1

-- the statement of a line that has no white space at its end
abbrev pub parse : List ℕ → Parsed
parse line = trimmed_statement (skip_leading_whitespace line)

-- the code's statement, by its characters
abbrev pub assignment_of : Statement → List ℕ × List ℕ
assignment_of statement = (chars statement.key.now, chars statement.rest.now)

-- the code's statement, or what is left, by its characters
abbrev pub parsed_of : Result Statement (Bor (List ℕ)) → Parsed
parsed_of (Ok statement) = Ok (assignment_of statement)
parsed_of (Err left) = Err (chars left.now)

-- the code's key and what follows it, or what is left, by its characters
abbrev pub cut_of : Result (Bor (List ℕ) × Bor (List ℕ)) (Bor (List ℕ)) → Parsed
cut_of (Ok cut) = Ok (chars cut.0.now, chars cut.1.now)
cut_of (Err left) = Err (chars left.now)
