-- Texts of a value that are read one after another.
use Rattle.std.proofs.Common.{◌≡◌, ℕ, ◌+◌, ◌-◌, List, [], ◌∷◌, ◌++◌, refl, arith, length, length-append, append_assoc}
use Rattle.std.specs.Prelude.{◌^◌, min}
use Rattle.std.specs.Str.{chars, encode_utf8_all}
use Rattle.std.proofs.lemmas.Str.{encodes-append}
use Rattle.dotenvy_format.specs.declared.dialect.Dialect.{Dialect}
use Rattle.dotenvy_format.specs.declared.text.Quoting.{Quoting}
use Rattle.dotenvy_format.specs.declared.value.TextPart.{TextPart}
use Rattle.dotenvy_format.specs.Value.{Piece, Text, Name, LastBackslash}
use Rattle.dotenvy_format.specs.Items.{LookUp, meaning}
use Rattle.dotenvy_format.specs.inside.ReadValue.{base}
use Rattle.dotenvy_format.specs.inside.NextPiece.{MeansText, ReadsTexts}
use Rattle.dotenvy_format.proofs.values.Readings.{none_read, read_then}

-- one piece more adds its bytes to the meaning
pub one_more : (look_up : LookUp) (p q : List Piece) →
    encode_utf8_all (meaning look_up (p ++ q))
    ≡ encode_utf8_all (meaning look_up p) ++ encode_utf8_all (meaning look_up q)
one_more look_up [] q = refl
one_more look_up (Text text ∷ p) q = simp (encodes-append, one_more look_up p q, append_assoc)
one_more look_up (Name name after ∷ p) q = simp (encodes-append, one_more look_up p q, append_assoc)
one_more look_up (LastBackslash ∷ p) q = one_more look_up p q

-- no text is read yet
pub nothing_read : (dialect : Dialect) (start : Quoting) (text : List ℕ) → ReadsTexts dialect start text [] start text
nothing_read dialect start text = record {
  pieces = [];
  is_read = none_read dialect (base start) text;
  means = λ look_up. refl;
}

-- one more is read
pub part_read : {dialect : Dialect} {start quoting : Quoting} {text meant rest : List ℕ} {part : TextPart}
    → ReadsTexts dialect start text meant quoting rest → MeansText dialect (base quoting) rest part
    → ReadsTexts dialect start text (meant ++ part.meant.now) part.quoting (chars part.rest.now)
part_read before part = record {
  pieces = before.pieces ++ part.pieces;
  is_read = read_then before.is_read part.is_read;
  means = λ look_up.
      rw (one_more look_up before.pieces part.pieces, before.means look_up, ← part.means look_up) refl;
}

-- its bytes are counted with those before
pub counted_on : {len sum : ℕ} (meant more : List ℕ) → len ≡ min (length meant) (2 ^ 64 - 1)
    → sum ≡ min (len + length more) (2 ^ 64 - 1) → sum ≡ min (length (meant ++ more)) (2 ^ 64 - 1)
counted_on meant more l s = omega (arith, l, s, length-append meant more)
