-- Dollars in a row after a dollar: each but the last has an empty name.
use Rattle.std.proofs.Common.{◌≡◌, ℕ, zero, suc, ◌+◌, ◌≤◌, List, [], ◌∷◌, ◌++◌, refl, arith, drop}
use Rattle.std.specs.Prelude.{◌==◌}
use Rattle.std.specs.List.{prefix_len}
use Rattle.std.specs.Str.{chars, encode_utf8_all, IsUtf8}
use Rattle.std.proofs.lemmas.Str.{encode_ascii, encodes-append}
use denote.Ref.{Bor}
use Rattle.dotenvy_format.specs.declared.dialect.Dialect.{Dialect}
use Rattle.dotenvy_format.specs.declared.text.Quoting.{Quoting}
use Rattle.dotenvy_format.specs.declared.value.Piece.TheVariants.{EmptyNames}
use Rattle.dotenvy_format.specs.Characters.{dollar}
use Rattle.dotenvy_format.specs.Items.{LookUp, meaning, text_of}
use Rattle.dotenvy_format.specs.inside.ReadValue.{base, naming}
use Rattle.dotenvy_format.specs.inside.NextPiece.{IsReadTo, GivesPiece, times, empty_names, without_texts}
use Rattle.dotenvy_format.proofs.bytes.AsciiRows.{row, row_dropped, cut_row}
use Rattle.dotenvy_format.proofs.bytes.Slices.{begins_with_first}
use Rattle.dotenvy_format.proofs.values.Readings.{read_then, name_begun, name_left}

-- after a dollar, dollars and one more are read as an empty name for each, up to the last one
row_read : (dialect : Dialect) (q : Quoting) (n : ℕ) (cs : List ℕ) →
    IsReadTo dialect (naming q []) (row dollar (suc n) ++ cs) (empty_names (suc n)) (base q) (dollar ∷ cs)
row_read dialect q zero cs = name_left (dollar ∷ cs) refl
row_read dialect q (suc n) cs =
    read_then (name_left (dollar ∷ (row dollar (suc n) ++ cs)) refl) (read_then name_begun (row_read dialect q n cs))

-- empty names mean what the empty name stands for, so many times
pub names_meant : (look_up : LookUp) (n : ℕ) →
    times n (encode_utf8_all (text_of look_up [])) ≡ encode_utf8_all (meaning look_up (empty_names n))
names_meant look_up zero = refl
names_meant look_up (suc n) = rw (encodes-append, names_meant look_up n) refl

-- empty names are no texts
names_alone : (n : ℕ) → without_texts (empty_names n) ≡ empty_names n
names_alone zero = refl
names_alone (suc n) = rw (names_alone n) refl

-- after a dollar, dollars in a row give an empty name for each, and the last one is left
pub gives_dollars : {dialect : Dialect} {q : Quoting} (text : List ℕ) (n : ℕ) {rest : Bor (List ℕ)} → IsUtf8 text
    → suc n ≤ prefix_len (λ b. b == dollar) text → rest.now ≡ drop n text
    → GivesPiece dialect (naming q []) (chars text) (record { piece = EmptyNames n; rest = rest; quoting = q })
gives_dollars {dialect = dialect} {q = q} text n utf8 most r =
    let cut = cut_row dollar (suc n) text (omega arith) utf8 most in
    let front = cut_row dollar n text (omega arith) utf8 (omega (arith, most)) in
    let one : n + 1 ≡ suc n = omega arith in
    let last = rw one at (row_dropped dollar n 1 text (omega (arith, most))) in
    let first = begins_with_first (drop n text) (drop (suc n) text) dollar front.rest
    (rw (encode_ascii dollar (omega arith)) last) in
    record {
      pieces = empty_names (suc n);
      is_read = rw (r, cut.characters, first.characters) (row_read dialect q n (chars (drop (suc n) text)));
      follows = rw r front.rest;
      means = λ look_up. names_meant look_up (suc n);
      names = names_alone (suc n);
    }
