-- What the slices of a line are to the parser of statements over its characters.
use Rattle.std.proofs.Common.{◌≡◌, ℕ, Bool, true, not, List, [], ◌∷◌, ◌++◌, refl, sym, ap, ◌∙◌, arith}
use Rattle.std.specs.Prelude.{bytes_eq, Ok}
use Rattle.std.specs.List.{list_all}
use Rattle.std.specs.Str.{chars, IsUtf8, trim_start, trim_end, skip_leading_whitespace}
use Rattle.std.specs.Str.{drop_trailing_whitespace, encode_utf8_all, all_scalars}
use Rattle.std.proofs.lemmas.Str.{chars-encodes, scalars-chars, encodes-chars}
use Rattle.std.proofs.lemmas.Bool.Decides.{same_from_decides, Decides-like}
use Rattle.std.proofs.lemmas.Slice.Eq.{bytes_eq-Decides}
use Rattle.dotenvy_format.specs.Characters.{begins_key, continues_key, begins_passing}
use lib.Utf8.{encode}
use Rattle.dotenvy_format.specs.inside.Slices.{IsSpan}
use Rattle.dotenvy_format.proofs.bytes.Slices.{no_characters}
use Rattle.dotenvy_format.specs.inside.ParseStatement.{export, passing_front, after_passing, split_key}

-- characters that pass the test, before a text that begins with none, are the run, and that text is left
pub run_is : (passes : ℕ → Bool) (front rest : List ℕ) → list_all passes front ≡ true →
    not (begins_passing passes rest) ≡ true →
    (passing_front passes (front ++ rest) ≡ front) × (after_passing passes (front ++ rest) ≡ rest)
run_is passes [] rest h longest = grind arith
run_is passes (c ∷ front) rest h longest = grind (arith, run_is passes front rest)

-- a text that begins a key, cut where its characters of a key end, is split there
pub span_splits : {text key left : List ℕ} → begins_passing begins_key text ≡ true →
    IsSpan continues_key text key left → split_key text ≡ Ok (key, skip_leading_whitespace left)
span_splits {text} {key} {left} begins span =
    grind (arith, run_is continues_key key left span.pass span.longest)

-- a text of Unicode scalar values has such alone without the white space at its front
scalars-skip : (cs : List ℕ) → all_scalars cs ≡ true → all_scalars (skip_leading_whitespace cs) ≡ true
scalars-skip [] h = refl
scalars-skip (c ∷ cs) h =
    grind (arith, scalars-skip cs)

-- a text without its leading white space has its characters without theirs
pub chars_trimmed : (text : List ℕ) → IsUtf8 text → chars (trim_start text) ≡ skip_leading_whitespace (chars text)
unfolding trim_start
chars_trimmed text u = chars-encodes _ (scalars-skip (chars text) (scalars-chars text u))

-- the same of a text that is equal to it
pub chars-trim_start : (text trimmed : List ℕ) → IsUtf8 text → trimmed ≡ trim_start text →
    chars trimmed ≡ skip_leading_whitespace (chars text)
chars-trim_start text trimmed u h = rw h (chars_trimmed text u)

-- a text of Unicode scalar values has such alone without the white space at its end
scalars-drop : (cs : List ℕ) → all_scalars cs ≡ true → all_scalars (drop_trailing_whitespace cs) ≡ true
scalars-drop [] h = refl
scalars-drop (c ∷ cs) h =
    grind (arith, scalars-drop cs)

-- a text without its trailing white space has its characters without theirs
pub chars-trim_end : (text trimmed : List ℕ) → IsUtf8 text → trimmed ≡ trim_end text →
    chars trimmed ≡ drop_trailing_whitespace (chars text)
unfolding trim_end
chars-trim_end text trimmed u h = rw h (chars-encodes _ (scalars-drop (chars text) (scalars-chars text u)))

-- the key is `export` by its bytes where it is by its characters
pub eq_export : (key : List ℕ) → IsUtf8 key → bytes_eq key export ≡ bytes_eq (chars key) export
unfolding chars encode
eq_export key u =
    let characters : chars export ≡ export = refl in
    let bytes : encode_utf8_all export ≡ export = refl in
    same_from_decides _ _ (bytes_eq-Decides key export) (Decides-like _
    (λ is. sym (encodes-chars key u) ∙ ap encode_utf8_all is ∙ bytes) (λ is. ap chars is ∙ characters)
    (bytes_eq-Decides (chars key) export))

-- what the code's proofs use: the first character of a slice, its white space, and where a key is cut
pub ruleset slice_laws = (no_characters, chars_trimmed, span_splits, eq_export)
