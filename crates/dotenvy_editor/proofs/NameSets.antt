-- Names that are kept as texts, by their characters.
use Rattle.std.proofs.Common.{◌≡◌, ℕ, true, List, [], ◌∷◌, map, refl, sym, ◌∙◌, ap, arith}
use Rattle.std.specs.Prelude.{bytes_eq, encode_utf8_all, string_bytes, chars}
use Rattle.std.specs.List.{list_any}
use Rattle.std.specs.Str.{IsUtf8}
use Rattle.std.specs.HashSet.{HashSet, Updates}
use Rattle.std.specs.String.{string_eq}
use Rattle.std.specs.declared.string.String.{String}
use Rattle.std.proofs.lemmas.Bool.Decides.{same_from_decides, Decides-like}
use Rattle.std.proofs.lemmas.Map.Text.{hash_set_updates_text}
use Rattle.std.proofs.lemmas.Slice.Eq.{bytes_eq-Decides}
use Rattle.std.proofs.lemmas.Str.{encodes-chars, chars_from_encodes, IsUtf8-string_bytes}
use Rattle.dotenvy_editor.specs.Told.{AreNames}
use Rattle.dotenvy_editor.specs.Warnings.{is_among}

-- texts, by their characters
abbrev pub names_of : {A : Type 0} → List (String A) → List (List ℕ)
names_of texts = map (λ text. chars (string_bytes text)) texts

-- a text is that with these characters by its bytes where it is by its characters
same_text : (text name : List ℕ) → IsUtf8 text → bytes_eq text (encode_utf8_all name) ≡ bytes_eq (chars text) name
same_text text name u =
    same_from_decides _ _ (bytes_eq-Decides text (encode_utf8_all name)) (Decides-like _
    (λ is. sym (encodes-chars text u) ∙ ap encode_utf8_all is) (λ is. sym (chars_from_encodes name text u (sym is)))
    (bytes_eq-Decides (chars text) name))

-- the test of bytes may be turned round
bytes_eq-sym : (xs ys : List ℕ) → bytes_eq xs ys ≡ bytes_eq ys xs
bytes_eq-sym xs ys =
    same_from_decides _ _ (bytes_eq-Decides xs ys) (Decides-like _ sym sym (bytes_eq-Decides ys xs))

-- a name is among texts where its bytes are
pub among-texts : {A : Type 0} (name : List ℕ) (texts : List (String A)) →
    is_among (names_of texts) name ≡ list_any (λ text. bytes_eq (encode_utf8_all name) (string_bytes text)) texts
among-texts name [] = refl
among-texts name (text ∷ texts) =
    rw (
      ← same_text (string_bytes text) name (IsUtf8-string_bytes text),
      bytes_eq-sym (string_bytes text) (encode_utf8_all name),
      among-texts name texts,
    )

-- a name that is among some is among them with it
pub names_kept : (found names : List (List ℕ)) (name : List ℕ) → is_among found name ≡ true → AreNames found names →
    AreNames found (name ∷ names)
names_kept found names name h are = λ other.
    let same = are other in grind (arith, bytes_eq-Decides name other, h, same)

-- where a text was added to a set, its name is added
pub names_added : {A S : Type 0} (s n : HashSet (String A) S) (text : String A) (name : List ℕ)
    (names : List (List ℕ)) → string_bytes text ≡ name → IsUtf8 name → Updates string_eq s n text true →
    AreNames (names_of s.keys) names → AreNames (names_of n.keys) (chars name ∷ names)
names_added s n text name names e u updates are = λ other.
    let found = hash_set_updates_text (string_bytes text) s n true updates (encode_utf8_all other) in
    let before = are other in
    let old = among-texts other s.keys in
    let new = among-texts other n.keys in
    let same = same_text name other u in
    grind (arith, found, before, old, new, same, e)

-- a text is among texts by its bytes just where it is by its characters
pub text_among : {A : Type 0} (text : List ℕ) (texts : List (String A)) → IsUtf8 text →
    list_any (λ other. bytes_eq text (string_bytes other)) texts ≡ is_among (names_of texts) (chars text)
text_among text texts u = sym (rw (encodes-chars text u) at (among-texts (chars text) texts))
