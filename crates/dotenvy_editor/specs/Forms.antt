-- The forms of a value, the tails after it, and the lines that are tried for a setting, in order.
use Rattle.std.specs.Prelude.{ℕ, Bool, true, false, not, ◌&&◌, ◌||◌, ◌==◌, List, [], ◌∷◌, ◌++◌, map}
use Rattle.std.specs.Prelude.{codes, if◌then◌else◌}
use Rattle.std.specs.Char.{is_ascii_alphabetic, is_ascii_digit}
use Rattle.std.specs.List.{flat_map, list_all, list_any}
use Rattle.dotenvy.specs.Characters.{space, hash, line_feed, carriage_return, letter_n, backslash}
use Rattle.dotenvy.specs.Characters.{double_quote, single_quote, underscore}
use Rattle.dotenvy.specs.Written.{needs_backslash, written_character}
use Rattle.dotenvy_editor.specs.declared.forms.Form.{Form}
use Rattle.dotenvy_editor.specs.declared.forms.Form.TheVariants.{Plain, Single, Double, OneLine}
use Rattle.dotenvy_editor.specs.Assignments.{Spot}

-- the character is in the text
abbrev pub has : ℕ → List ℕ → Bool
has c text = list_any (λ d. d == c) text

-- what follows one of these characters passes the test
abbrev pub any_after : ℕ → (List ℕ → Bool) → List ℕ → Bool
any_after c passes [] = false
any_after c passes (d ∷ ds) = (d == c && passes ds) || any_after c passes ds

-- a character of a plain word
abbrev pub is_plain : ℕ → Bool
is_plain c =
    (is_ascii_alphabetic c || is_ascii_digit c)
    || (c == underscore || list_any (λ d. d == c) (codes "./:@%+,=-"))

-- the value is a plain word, or empty
abbrev pub is_word : List ℕ → Bool
is_word value = list_all is_plain value

-- the value in single quotes
abbrev pub in_single_quotes : List ℕ → List ℕ
in_single_quotes value = single_quote ∷ (value ++ single_quote ∷ [])

-- the value in double quotes, with a backslash before each character that needs one
abbrev pub in_double_quotes : List ℕ → List ℕ
in_double_quotes value = double_quote ∷ (flat_map written_character value ++ double_quote ∷ [])

-- how a character is written in double quotes on one line
abbrev pub one_line_character : ℕ → List ℕ
one_line_character c = if c == line_feed then backslash ∷ letter_n ∷ [] else written_character c

-- the value in double quotes, on one line
abbrev pub on_one_line : List ℕ → List ℕ
on_one_line value = double_quote ∷ (flat_map one_line_character value ++ double_quote ∷ [])

-- the value in a form
abbrev pub form_text : Form → List ℕ → List ℕ
form_text Plain value = value
form_text Single value = in_single_quotes value
form_text Double value = in_double_quotes value
form_text OneLine value = on_one_line value

-- a form where the test holds, or none
abbrev pub where_true : Bool → List ℕ → List (List ℕ)
where_true holds form = if holds then form ∷ [] else []

-- what follows an opening quote is the quoted part, and the quote that closes it ends the text
abbrev pub closes : ℕ → List ℕ → Bool
closes quote [] = false
closes quote (c ∷ []) = c == quote
closes quote (c ∷ d ∷ cs) =
    if c == quote then false
    else if c == backslash then closes quote cs else closes quote (d ∷ cs)

-- the value in these quotes
abbrev pub in_quotes : ℕ → List ℕ → List ℕ
in_quotes quote value =
    if quote == single_quote then in_single_quotes value else in_double_quotes value

-- these are quotes in which the value needs no escape
abbrev pub fits_quotes : ℕ → List ℕ → Bool
fits_quotes quote value =
    if quote == single_quote then not (has single_quote value)
    else quote == double_quote && not (list_any needs_backslash value)

-- the form with the quotes of the old value, where the new value needs no escape in them; or none
abbrev pub old_forms : List ℕ → List ℕ → List (List ℕ)
old_forms [] value = []
old_forms (quote ∷ after) value =
    where_true (closes quote after && fits_quotes quote value) (in_quotes quote value)

-- the forms that any value may have: plain, in single quotes, in double quotes
abbrev pub plain_forms : List ℕ → List (List ℕ)
plain_forms value =
    where_true (is_word value) value
    ++ (where_true (not (has single_quote value)) (in_single_quotes value)
    ++ in_double_quotes value ∷ [])

-- the text from its first `#` on, or nothing
abbrev pub comment_of : List ℕ → List ℕ
comment_of [] = []
comment_of (c ∷ cs) = if c == hash then c ∷ cs else comment_of cs

-- the end of a line, a carriage return before it included
abbrev pub end_of : List ℕ → List ℕ
end_of [] = []
end_of (c ∷ []) = if c == line_feed || c == carriage_return then c ∷ [] else []
end_of (c ∷ d ∷ []) =
    if c == carriage_return && d == line_feed then c ∷ d ∷ [] else end_of (d ∷ [])
end_of (c ∷ d ∷ e ∷ cs) = end_of (d ∷ e ∷ cs)

-- there is a line feed before the end of the line
abbrev pub is_long : List ℕ → Bool
is_long [] = false
is_long (c ∷ []) = false
is_long (c ∷ d ∷ cs) = c == line_feed || is_long (d ∷ cs)

-- the text has no character
abbrev pub is_nil : List ℕ → Bool
is_nil [] = true
is_nil (c ∷ cs) = false

-- the tails that may follow a form, in order: as it is; one blank and the comment; the end alone
abbrev pub tails : List ℕ → List (List ℕ)
tails rest =
    rest
    ∷ (where_true (not (is_nil (comment_of rest) || is_long rest)) (space ∷ comment_of rest)
    ++ where_true (is_nil (comment_of rest)) (end_of rest))

-- the lines that are tried in a spot with this form, in order
abbrev pub form_lines : Spot → List ℕ → List (List ℕ)
form_lines spot form = map (λ rest. spot.front ++ (form ++ rest)) (tails spot.rest)

-- the lines that are tried in a spot with these forms, in order
abbrev pub candidates : Spot → List (List ℕ) → List (List ℕ)
candidates spot forms = flat_map (form_lines spot) forms
