-- The byte order mark at the start of a file, which an edit keeps.
use Rattle.std.proofs.Common.{◌≡◌, ℕ, ◌<◌, true, false, List, [], ◌∷◌, ◌++◌, refl, sym, ◌∙◌, ap}
use Rattle.std.proofs.Common.{append_assoc, drop, take, inl, inr, arith}
use Rattle.std.specs.Prelude.{encode_utf8_all}
use Rattle.std.specs.Cmp.Lexicographic.{same_text}
use Rattle.std.proofs.Math.Utf8.{encode}
use Rattle.std.proofs.lemmas.Bool.{cases_Bool, eqb-true}
use Rattle.std.proofs.lemmas.Bool.Decides.{nat_tests}
use Rattle.std.proofs.lemmas.List.{take-append-drop}
use Rattle.std.proofs.lemmas.Str.{encode_same}
use Rattle.dotenvy_format.specs.Characters.{line_feed}
use Rattle.dotenvy_format.specs.LogicalLine.{HasText}
use Rattle.dotenvy_format.specs.Marks.{byte_order_mark, without_mark}
use Rattle.dotenvy_format.specs.Outcome.{trimmed}
use Rattle.dotenvy_format.specs.Statement.{IsStatement}
use Rattle.dotenvy_format.proofs.lines.NextLine.{ends_line}
use Rattle.dotenvy_editor.specs.Edits.{behind_line, has_mark, mark_of}
use Rattle.dotenvy_editor.specs.Slices.{IsNextSlice}
use Rattle.dotenvy_editor.proofs.TrimmedTexts.{trimmed_front}
use Rattle.dotenvy_editor.proofs.SliceTexts.{kept_front, statement_word, text_alone}

-- a text that ends with a line feed has it after a front
pub ends_split : (text : List ℕ) → ends_line text ≡ true → (front : List ℕ) × (text ≡ front ++ line_feed ∷ [])
ends_split [] h = cc
ends_split (c ∷ []) h = let e = eqb-true c line_feed h in ([], rw e refl)
ends_split (c ∷ d ∷ text) h = let rest = ends_split (d ∷ text) h in (c ∷ rest.0, ap (◌∷◌ c) rest.1)

-- bytes with a mark begin with it
pub mark_first : (bytes : List ℕ) → has_mark bytes ≡ true → bytes ≡ byte_order_mark ++ drop 3 bytes
mark_first bytes h =
    let e = same_text byte_order_mark (take 3 bytes) (sym h) in
    sym (take-append-drop 3 bytes) ∙ ap (λ x. x ++ drop 3 bytes) (sym e)

-- before an ASCII byte bytes have a mark just where they have it alone
pub mark_more : (bytes : List ℕ) (b : ℕ) (later : List ℕ) → b < 128 → has_mark (bytes ++ b ∷ later) ≡ has_mark bytes
mark_more [] b later h = grind (arith, nat_tests)
mark_more (c ∷ []) b later h = grind (arith, nat_tests)
mark_more (c ∷ d ∷ []) b later h = grind (arith, nat_tests)
mark_more (c ∷ d ∷ e ∷ bytes) b later h = refl

-- bytes that end with a line feed have a mark just where they have it before any
pub mark_line : (bytes later : List ℕ) → ends_line bytes ≡ true → has_mark (bytes ++ later) ≡ has_mark bytes
mark_line bytes later h =
    let split = ends_split bytes h in
    rw (split.1, append_assoc split.0 (line_feed ∷ []) later)
    (mark_more split.0 line_feed later (omega arith) ∙ sym (mark_more split.0 line_feed [] (omega arith)))

-- a mark is the bytes of one character
mark_character : encode 0xFEFF ≡ byte_order_mark
unfolding encode
mark_character = refl

-- a line that is a statement doesn't begin with a mark, whatever follows it
pub statement_unmarked : (bytes later text key assigned : List ℕ) → IsNextSlice bytes (HasText text) [] →
    IsStatement (trimmed text) key assigned → has_mark (bytes ++ later) ≡ false
statement_unmarked bytes later text key assigned is statement =
    elim (cases_Bool (has_mark (bytes ++ later))) [ inl h ↦ absurd (never h) | inr h ↦ h ]
  where
    never : has_mark (bytes ++ later) ≡ true → ⊥
    never h =
        let alone = text_alone bytes text is in
        let kept = kept_front alone.whole in
        let front = trimmed_front text in
        let word = statement_word (trimmed text) key assigned statement in
        let rest = (word.1 ++ front.0) ++ kept.0 in
        let whole : alone.text ≡ word.0 ∷ rest =
        kept.1 ∙ ap (λ t. t ++ kept.0) (front.1 ∙ ap (λ t. t ++ front.0) word.2) in
        let spells : bytes ≡ encode word.0 ++ encode_utf8_all rest = alone.spells ∙ ap encode_utf8_all whole in
        let left = drop 3 (bytes ++ later) in
        let spelled : encode word.0 ++ (encode_utf8_all rest ++ later) ≡ encode 0xFEFF ++ left =
        sym (ap (λ t. t ++ later) spells ∙ append_assoc (encode word.0) (encode_utf8_all rest) later)
        ∙ mark_first (bytes ++ later) h
        ∙ ap (λ t. t ++ left) (sym mark_character) in
        let same = encode_same word.0 0xFEFF (encode_utf8_all rest ++ later) left spelled in
        let test = word.3 in
        let false_test : false ≡ true = rw same.0 at test in cc

-- an edit of what follows a mark keeps the mark, and makes none where the new bytes begin with none
pub mark_kept : (old new body : List ℕ) → new ≡ mark_of old ++ body → (has_mark old ≡ false → has_mark body ≡ false) →
    (has_mark new ≡ has_mark old) × (without_mark new ≡ body)
mark_kept old new body e none = elim (cases_Bool (has_mark old)) [
  | inl h ↦
      let is : new ≡ byte_order_mark ++ body = rw h at e in rw (is, h) (refl, refl)
  | inr h ↦
      let is : new ≡ body = rw h at e in
      let unmarked = none h in rw (is, h, unmarked) (refl, refl)
]

-- bytes after an empty line, where they would begin with a mark, begin with none
pub behind_unmarked : (bytes : List ℕ) → has_mark (behind_line bytes) ≡ false
behind_unmarked bytes = elim (cases_Bool (has_mark bytes)) [ inl h ↦ rw h refl | inr h ↦ rw h h ]
