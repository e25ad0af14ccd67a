-- What names stand for, by bytes and by characters, and what the passes over a value count.
use Rattle.std.proofs.Common.{◌≡◌, ℕ, zero, suc, ◌+◌, ◌*◌, ◌≤◌, List, [], ◌++◌, Option, Some, None, refl}
use Rattle.std.proofs.Common.{◌∙◌, ap, arith, length, length-append, append_assoc, unwrap_or}
use Rattle.std.specs.Prelude.{◌^◌, ◌-◌, min}
use denote.Ref.{Bor}
use Rattle.std.specs.Option.{option_or, option_copied}
use Rattle.std.specs.FinMap as fin
use Rattle.std.specs.Str.{chars, encode_utf8_all, IsUtf8}
use Rattle.std.proofs.lemmas.List.{append-nil}
use Rattle.std.proofs.lemmas.Str.{chars-nil, encodes-chars}
use Rattle.std.proofs.Math.Nat.{mul-suc}
use Rattle.dotenvy_format.specs.declared.text.Quoting.TheVariants.{Unquoted}
use Rattle.dotenvy_format.specs.declared.dialect.Dialect.{Dialect}
use Rattle.dotenvy_format.specs.Characters.{byte_len}
use Rattle.dotenvy_format.specs.Value.{Piece}
use Rattle.dotenvy_format.specs.Items.{LookUp, meaning, text_of}
use Rattle.dotenvy_base.specs.Environment.{Texts}
use Rattle.dotenvy_items.specs.Remembered.{Remembered, recalled}
use Rattle.dotenvy_format.specs.inside.ReadValue.{ValueMode, base, given, read_value}
use Rattle.dotenvy_format.specs.declared.value.TextPart.{TextPart}
use Rattle.dotenvy_format.specs.declared.value.Given.{Given}
use Rattle.dotenvy_format.specs.declared.value.NextPiece.{NextPiece}
use Rattle.dotenvy_format.specs.declared.value.NextPiece.TheVariants.{Piece as GivesNext, End, Unfinished, Fault}
use Rattle.dotenvy_format.specs.inside.NextPiece.{IsReadTo, MeansText, NextPieceIs, StopsAt, times}
use Rattle.dotenvy_items.specs.Meaning.{names_of}
use Rattle.dotenvy_items.specs.inside.ValuePasses.{saturated, Appends, HasRoom, MeansAlone, StandsFor}
use Rattle.dotenvy_items.specs.declared.meaning.Known.{Known}
use Rattle.dotenvy_format.proofs.values.Values.{given-given}
pub use Rattle.dotenvy_format.proofs.values.TextReads.{one_more}

-- the text that is found by bytes is the one that is found by characters
pub looked_up : (names : Texts) (remembered : Remembered) (name text : List ℕ) → IsUtf8 name → IsUtf8 text →
    text ≡ unwrap_or (option_or (fin.get names name) (recalled remembered name)) [] →
    text ≡ encode_utf8_all (unwrap_or (names_of names remembered (chars name)) [])
looked_up names remembered name text u v h =
    let same = encodes-chars text v in rw (encodes-chars name u) (grind (arith, h, same))

-- what a reference that was found, or else a default, stands for is the text found, or else the default's
pub unwrap_or-now : (found : Option (Bor (List ℕ))) (default : Bor (List ℕ)) →
    (unwrap_or found default).now ≡ unwrap_or (option_copied found) default.now
unwrap_or-now None default = refl
unwrap_or-now (Some x) default = refl

-- where the value ends, all of it was read
pub all_read : (dialect : Dialect) (m n : ValueMode) (text rest : List ℕ) (pieces : List Piece) →
    IsReadTo dialect m text pieces n rest → read_value dialect rest n ≡ Some [] →
    read_value dialect text m ≡ Some pieces
all_read dialect m n text rest pieces is h = is.reads ∙ ap (given pieces) h ∙ ap Some (append-nil pieces)

-- a count of what pieces mean, with the bytes of more pieces added, is that of all of them, saturated
pub counted : {len more : ℕ} {bytes : List ℕ} (look_up : LookUp) (p q : List Piece) →
    len ≡ saturated (byte_len (meaning look_up p)) → more ≡ saturated (length bytes) →
    bytes ≡ encode_utf8_all (meaning look_up q) →
    min (len + more) (2 ^ 64 - 1) ≡ saturated (byte_len (meaning look_up (p ++ q)))
counted look_up p q h k e =
    let b = ap length e in
    let all = simp length-append at (ap length (one_more look_up p q)) in
    omega (arith, b, all)

-- four lists, joined from the front or from behind the first
pub four_parts : (a b c d : List ℕ) → ((a ++ b) ++ c) ++ d ≡ a ++ ((b ++ c) ++ d)
four_parts a b c d = rw (append_assoc (a ++ b) c d, append_assoc a b (c ++ d), append_assoc b c d) refl

-- a value of which one part is all means what that part means
pub means_alone : {value : List ℕ} {part : TextPart}
    → ((dialect : Dialect) → MeansText dialect (base Unquoted) value part) → part.quoting ≡ Unquoted
    → chars part.rest.now ≡ [] → MeansAlone value part.meant
means_alone {value = value} {part = part} means quoting none = λ dialect.
    let is = means dialect in
    let left : read_value dialect (chars part.rest.now) (base part.quoting) ≡ Some [] = rw (quoting, none) refl in
    (is.pieces, all_read dialect _ _ value _ is.pieces is.is_read left, is.means)

-- where no value goes on after pieces, it is none, so nothing could have room
no_value : {dialect : Dialect} {n : ValueMode} {value rest left : List ℕ} {p : List Piece} (look_up : LookUp)
    (len capacity : ℕ) → HasRoom dialect look_up value len capacity
    → IsReadTo dialect (base Unquoted) value p n rest → StopsAt dialect n rest left → ⊥
no_value look_up len capacity room is stops = rw (is.reads, stops.reads) at room

-- where no piece follows those that were appended, all that the value means was
pub all_appended : {dialect : Dialect} {n : ValueMode} {value rest new : List ℕ} {p : List Piece}
    (old : List ℕ) (look_up : LookUp) (len capacity : ℕ) (result : NextPiece)
    → ((next : Given) → result ≡ GivesNext next → ⊥) → HasRoom dialect look_up value len capacity
    → IsReadTo dialect (base Unquoted) value p n rest → NextPieceIs dialect n rest result
    → new ≡ old ++ encode_utf8_all (meaning look_up p) → Appends dialect look_up value old new
all_appended old look_up len capacity End none room is next new =
    rw (all_read _ _ _ _ _ _ is next) new
all_appended old look_up len capacity (GivesNext piece) none room is next new = absurd (none piece refl)
all_appended old look_up len capacity Unfinished none room is next new =
    absurd (no_value look_up len capacity room is next)
all_appended old look_up len capacity (Fault left) none room is next new =
    absurd (no_value look_up len capacity room is next)

-- where all that a value means fits, its next piece fits behind the pieces before it
pub room_for : {dialect : Dialect} {m n : ValueMode} {value rest left : List ℕ} {p q : List Piece}
    (look_up : LookUp) (len capacity : ℕ) → HasRoom dialect look_up value len capacity →
    IsReadTo dialect (base Unquoted) value p m rest → IsReadTo dialect m rest q n left →
    len + length (encode_utf8_all (meaning look_up p)) + length (encode_utf8_all (meaning look_up q)) ≤ capacity
room_for {dialect = dialect} {n = n} {left = left} {p = p} {q = q} look_up len capacity room is next =
    let fits = rw (is.reads, next.reads, given-given p q (read_value dialect left n)) at room in
    grind (arith, one_more, length-append, fits)

-- a list, so many times in a row, has so many times its length
times_len : (n : ℕ) (xs : List ℕ) → length (times n xs) ≡ length xs * n
times_len zero xs = omega arith
times_len (suc n) xs = omega (arith, length-append xs (times n xs), times_len n xs, mul-suc (length xs) n)

-- the length of a list, counted once more than so many times, is that of the list as many times, saturated
pub again_counted : {product sum : ℕ} (n : ℕ) (xs : List ℕ) → product ≡ min (length xs * n) (2 ^ 64 - 1)
    → sum ≡ min (product + length xs) (2 ^ 64 - 1) → sum ≡ saturated (length (times (suc n) xs))
again_counted n xs p s = omega (arith, length-append xs (times n xs), times_len n xs, p, s)

-- what is known of the empty name is what it stands for
pub empty_known : (look_up : LookUp) (known : Known) → StandsFor look_up known × (known.name.now ≡ [])
    → known.text.now ≡ encode_utf8_all (text_of look_up [])
empty_known look_up known h = rw (h.1, chars-nil) at h.0
