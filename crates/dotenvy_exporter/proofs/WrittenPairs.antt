-- What is written for a target, pair by pair.
use Rattle.std.proofs.Common.{◌≡◌, ℕ, List, [], ◌∷◌, ◌++◌, refl, sym, ap, map, ◌∙◌}
use Rattle.std.specs.Prelude.{encode_utf8_all}
use Rattle.std.specs.List.{flat_map}
use Rattle.std.specs.Str.{chars, IsUtf8}
use Rattle.std.proofs.lemmas.List.{append-nil}
use Rattle.std.proofs.lemmas.Str.{encodes-append, encodes-chars}
use Rattle.dotenvy_exporter.specs.declared.lines.Form.{Form}
use Rattle.dotenvy_exporter.specs.declared.target.Target.{Target}
use Rattle.json.specs.Token.{key, string}
use Rattle.dotenvy_exporter.specs.Json.{member}
use Rattle.dotenvy_exporter.specs.Lines.{line_in, lines_bytes}
use Rattle.dotenvy_exporter.specs.Targets.{first_refusal, refusal, refused_or}
use Rattle.dotenvy_exporter.specs.Texts.{Pair}

-- the pairs of entries
abbrev pub texts : List (List ℕ × List ℕ) → List Pair
texts entries = map (λ p. (chars p.0, chars p.1)) entries

-- texts of pairs one after another are that of the first, and then those of the others
one_first : (line : Pair → List ℕ) (pair : Pair) (pairs : List Pair) →
    encode_utf8_all (flat_map line (pair ∷ pairs))
    ≡ encode_utf8_all (flat_map line (pair ∷ [])) ++ encode_utf8_all (flat_map line pairs)
one_first line pair pairs =
    encodes-append (line pair) (flat_map line pairs)
    ∙ ap (λ own. encode_utf8_all own ++ encode_utf8_all (flat_map line pairs)) (sym (append-nil (line pair)))

-- the lines of entries, the texts of the first of which the code holds, are its line, and then those of the others
pub lines_next : {key value key' value' : List ℕ} {rest entries : List (List ℕ × List ℕ)} (form : Form) →
    key' ≡ key → value' ≡ value → entries ≡ (key, value) ∷ rest →
    lines_bytes form (texts entries)
    ≡ lines_bytes form ((chars key', chars value') ∷ []) ++ lines_bytes form (texts rest)
lines_next {key} {value} {rest = rest} form k v first =
    rw (first, k, v) (one_first (line_in form) (chars key, chars value) (texts rest))

-- the members of entries, the texts of the first of which the code holds, are its own, and then those of the others
pub members_next : {name value name' value' : List ℕ} {rest entries : List (List ℕ × List ℕ)} →
    name' ≡ name → value' ≡ value → entries ≡ (name, value) ∷ rest → IsUtf8 name' → IsUtf8 value' →
    flat_map member (texts entries) ≡ key name' ∷ string value' ∷ flat_map member (texts rest)
members_next {name' = name'} {value' = value'} n v first name_utf8 value_utf8 =
    rw (first, ← n, ← v, encodes-chars name' name_utf8, encodes-chars value' value_utf8) refl

-- a target can't be given entries, the first of which it can be given, if it can't be given the others
pub refused_next : {key value key' value' : List ℕ} {rest entries : List (List ℕ × List ℕ)} (t : Target) →
    key' ≡ key → value' ≡ value → entries ≡ (key, value) ∷ rest →
    first_refusal t (texts entries)
    ≡ refused_or (chars key') (refusal t (chars key', chars value')) (first_refusal t (texts rest))
refused_next t k v first = rw (first, k, v) refl
