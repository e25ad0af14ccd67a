-- The words before the first name of an option that asks for a text.
use Rattle.std.proofs.Common.{◌≡◌, ◌≢◌, ◌+◌, ℕ, Bool, false, not, List, [], ◌∷◌, Some, None, arith}
use Rattle.std.proofs.Common.{length, map, refl, string_bytes, sym, take, ◌∙◌}
use Rattle.std.proofs.lemmas.List.{length-map, take-map, take_all}
use Rattle.std.proofs.lemmas.List.Folds.{length-prefix_len}
use Rattle.std.specs.List.{position_from, position_or_len}
use Rattle.std.specs.declared.string.String.{String}
use Rattle.clap.specs.Words.{Text}
use Rattle.clap.specs.declared.error.kind.ErrorKind.{ErrorKind}
use Rattle.clap.specs.declared.error.kind.ErrorKind.TheVariants as kind
use Rattle.dotenvy_words.specs.Asked.{before_text, names_text}
use Rattle.dotenvy_words.specs.Found.{texts}

-- the place of the first word is that of its text
place_map : {X Y : Type 0} (test : Y → Bool) (f : X → Y) (words : List X) →
    position_or_len test (map f words) ≡ position_or_len (λ word. test (f word)) words
place_map test f [] = refl
place_map test f (word ∷ words) = grind (arith, place_map test f words)

-- a first word that is found is at the first place at which the test passes
found_at : {X : Type 0} (test : X → Bool) (words : List X) (start place : ℕ) →
    position_from test start words ≡ Some place → place ≡ start + position_or_len test words
found_at test [] start place is = cc
found_at test (word ∷ words) start place is = grind (arith, found_at test words (start + 1) place)

-- where none is found, that place is the end
found_none : {X : Type 0} (test : X → Bool) (words : List X) (start : ℕ) →
    position_from test start words ≡ None → position_or_len test words ≡ length words
found_none test [] start is = refl
found_none test (word ∷ words) start is = grind (arith, found_none test words (start + 1))

-- the words before the one that is found are as many as its place says
pub as_many_before : {X : Type 0} (test : X → Bool) (words : List X) (place : ℕ) →
    Some place ≡ position_from test 0 words → place ≡ length (take place words)
as_many_before test words place is =
    let at = found_at test words 0 place (sym is) in
    let same : place ≡ position_or_len test words = omega (arith, at) in
    rw same (sym (length-prefix_len (λ word. not (test word)) words))

-- the words before the one that is found are those before the name
pub before_found : {A : Type 0} (kind : ErrorKind) (words : List (String A)) (place : ℕ) →
    Some place ≡ position_from (λ word. names_text kind (string_bytes word)) 0 words →
    texts (take place words) ≡ before_text kind (texts words)
before_found kind words place is =
    let at = found_at (λ word. names_text kind (string_bytes word)) words 0 place (sym is) in
    let same : place ≡ position_or_len (λ word. names_text kind (string_bytes word)) words = omega (arith, at) in
    rw (place_map (names_text kind) string_bytes words, ← same) (sym (take-map string_bytes place words))

-- where no name is found, these are all words
pub all_before : {A : Type 0} (kind : ErrorKind) (words : List (String A)) →
    None ≡ position_from (λ word. names_text kind (string_bytes word)) 0 words →
    texts words ≡ before_text kind (texts words)
all_before kind words is =
    let at = found_none (λ word. names_text kind (string_bytes word)) words 0 (sym is) in
    let end : position_or_len (names_text kind) (texts words) ≡ length (texts words) =
    place_map (names_text kind) string_bytes words ∙ at ∙ sym (length-map words string_bytes) in
    rw end (sym (take_all (length (texts words)) (texts words) (omega arith)))

-- no word is a name where a kind has no text
no_name : (found : ErrorKind) → found ≢ kind.DisplayHelp → found ≢ kind.DisplayVersion → (word : Text) →
    names_text found word ≡ false
no_name kind.DisplayHelp not_help not_version word = absurd (not_help refl)
no_name kind.DisplayVersion not_help not_version word = absurd (not_version refl)
no_name other not_help not_version word = refl

-- nor is one among words
none_named : (found : ErrorKind) → found ≢ kind.DisplayHelp → found ≢ kind.DisplayVersion → (words : List Text) →
    position_or_len (names_text found) words ≡ length words
none_named found not_help not_version [] = refl
none_named found not_help not_version (word ∷ words) =
    let rest = none_named found not_help not_version words in
    rw (no_name found not_help not_version word) (omega (arith, rest))

-- of a kind that has no text, all words are before a name
pub all_unnamed : (found : ErrorKind) → found ≢ kind.DisplayHelp → found ≢ kind.DisplayVersion →
    (words : List Text) → before_text found words ≡ words
all_unnamed found not_help not_version words =
    rw (none_named found not_help not_version words) (take_all (length words) words (omega arith))
