-- Backslashes in a row after a backslash: each two of them mean one.
use Rattle.std.proofs.Common.{◌≡◌, ℕ, zero, suc, ◌+◌, ◌-◌, ◌≤◌, List, [], ◌∷◌, ◌++◌, refl, ap, arith}
use Rattle.std.proofs.Common.{take, drop, length, length-append, append_assoc}
use Rattle.std.specs.Prelude.{◌==◌}
use Rattle.std.specs.List.{prefix_len}
use Rattle.std.specs.Str.{chars, IsUtf8, IsCharBoundary}
use Rattle.std.proofs.Math.Seq.{take-append_seam}
use Rattle.std.proofs.lemmas.Str.{encodes-append, encodes-chars, IsCharBoundary-at_seam}
use denote.Ref.{Bor}
use Rattle.dotenvy_format.specs.declared.dialect.Dialect.{Dialect}
use Rattle.dotenvy_format.specs.declared.text.Quoting.{Quoting}
use Rattle.dotenvy_format.specs.declared.value.Piece.TheVariants.{Text as CodeText}
use Rattle.dotenvy_format.specs.Characters.{backslash}
use Rattle.dotenvy_format.specs.Value.{Text, is_plain}
use Rattle.dotenvy_format.specs.inside.ReadValue.{base, escaping}
use Rattle.dotenvy_format.specs.inside.NextPiece.{IsReadTo, GivesPiece}
use Rattle.dotenvy_format.specs.inside.Slices.{IsSpan}
use Rattle.dotenvy_format.proofs.bytes.AsciiRows.{row, row_bytes, row_dropped, cut_row}
use Rattle.dotenvy_format.proofs.values.Readings.{read_then, escape_begun, escape_read, plain_run, each_text}
use Rattle.dotenvy_format.proofs.values.NextPiece.{gives_texts}

-- after a backslash, an odd number of backslashes is read as half of them, and one, each as its own text
row_read : (dialect : Dialect) (q : Quoting) (half : ℕ) (cs : List ℕ) →
    IsReadTo dialect (escaping q) (row backslash (half + half + 1) ++ cs) (each_text (row backslash (half + 1)))
    (base q) cs
row_read dialect q zero cs = escape_read refl
row_read dialect q (suc half) cs =
    let two : suc half + suc half + 1 ≡ suc (suc (half + half + 1)) = omega arith in
    let one : suc half + 1 ≡ suc (half + 1) = omega arith in
    rw (two, one) (read_then (escape_read refl) (read_then escape_begun (row_read dialect q half cs)))

-- texts of the characters of two texts are those of the first, and then those of the second
each_text-append : (xs ys : List ℕ) → each_text (xs ++ ys) ≡ each_text xs ++ each_text ys
each_text-append [] ys = refl
each_text-append (x ∷ xs) ys = ap (λ texts. Text (x ∷ []) ∷ texts) (each_text-append xs ys)

-- the last backslashes of a row, with the text right after them, end where that text does
pub row_with_text : (text : List ℕ) (half : ℕ) (plain : List ℕ) {last behind rest : List ℕ}
    → half + half + 1 ≤ prefix_len (λ b. b == backslash) text → last ≡ drop half text
    → behind ≡ drop (half + half + 1) text → behind ≡ plain ++ rest → IsUtf8 rest
    → IsCharBoundary last (length last - length rest)
    × (take (length last - length rest) last ≡ row backslash (half + 1) ++ plain)
row_with_text text half plain {last} {behind} {rest} most l b parts utf8 =
    let front = row backslash (half + 1) ++ plain in
    let sum : half + (half + 1) ≡ half + half + 1 = omega arith in
    let whole : last ≡ front ++ rest =
    rw (l, row_dropped backslash half (half + 1) text (omega arith), sum, ← b, parts, append_assoc) refl in
    let len : length last - length rest ≡ length front = omega (arith, ap length whole, length-append front rest) in
    rw len (IsCharBoundary-at_seam last front rest whole utf8, rw whole (take-append_seam front rest))

-- after a backslash, an odd number of backslashes gives half of them, and one, with the text right after them
pub gives_backslashes : {dialect : Dialect} {q : Quoting} (text : List ℕ) (half : ℕ) {plain : List ℕ}
    {meant rest : Bor (List ℕ)} → IsUtf8 text → half + half + 1 ≤ prefix_len (λ b. b == backslash) text
    → IsUtf8 plain → IsUtf8 rest.now
    → IsSpan (is_plain q) (chars (drop (half + half + 1) text)) (chars plain) (chars rest.now)
    → meant.now ≡ row backslash (half + 1) ++ plain
    → GivesPiece dialect (escaping q) (chars text) (record { piece = CodeText meant; rest = rest; quoting = q })
gives_backslashes {dialect = dialect} {q = q} text half {plain = plain} utf8 most own follows span m =
    let cut = cut_row backslash (half + half + 1) text (omega arith) utf8 most in
    let bytes = row_bytes backslash (half + 1) (omega arith) in
    gives_texts (row backslash (half + 1) ++ chars plain) follows
    (rw (m, encodes-append (row backslash (half + 1)) (chars plain), bytes, encodes-chars plain own) refl)
    (rw (cut.characters, span.spelled, each_text-append (row backslash (half + 1)) (chars plain))
    (read_then (row_read dialect q half _) (plain_run dialect q (chars plain) _ span.pass)))
