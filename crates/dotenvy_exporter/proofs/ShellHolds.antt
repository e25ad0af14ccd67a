-- What a shell can read.
use Rattle.std.proofs.Common.{◌≡◌, ℕ, true, false, not, ◌||◌, List, [], ◌∷◌, inl, inr, refl}
use Rattle.std.specs.Prelude.{◌==◌, Option, Some, None, encode_utf8_all}
use Rattle.std.specs.Str.{is_utf8, chars}
use Rattle.std.proofs.lemmas.Bool.{cases_Bool, eqb-true}
use Rattle.dotenvy_format.specs.Characters.{backslash, line_feed, single_quote, space}
use Rattle.dotenvy_exporter.specs.declared.target.Target.{Target}
use Rattle.dotenvy_exporter.specs.declared.target.Target.TheVariants as target
use Rattle.dotenvy_exporter.specs.Laws.{AllGivable}
use Rattle.dotenvy_exporter.specs.Reserved.{is_reserved}
use Rattle.dotenvy_exporter.specs.Shell.{Mode, Bare, Quoted, Escaped, after, assigned, export_word}
use Rattle.dotenvy_exporter.specs.Shell.{exported, first_word, followed_by}
use Rattle.dotenvy_exporter.specs.Shell.{is_exportable, is_plain, is_shell_name, lines_pairs, shell_lines, shell_reads}
use Rattle.dotenvy_exporter.specs.Shell.{shell_reads_bytes, shell_refusal, with_name, with_pair}
use Rattle.dotenvy_exporter.specs.Texts.{Pair, has, onto_part, split_at_equals}
use Rattle.dotenvy_exporter.proofs.Tests.{and_left, and_right, not_is, or_right, picked}

-- the pairs that are read, if any, can be given
abbrev pub Givable : Target → Option (List Pair) → Type 0
Givable t None = Unit {0}
Givable t (Some pairs) = AllGivable t pairs

-- a word that is read has no NUL
abbrev CleanWord : Option (List ℕ × List ℕ) → Type 0
CleanWord None = Unit {0}
CleanWord (Some (word, more)) = has 0 word ≡ false

onto_clean : (c : ℕ) (parts : Option (List ℕ × List ℕ)) → (c == 0) ≡ false → CleanWord parts → CleanWord
    (onto_part c parts)
onto_clean c None h clean = tt
onto_clean c (Some (word, more)) h clean = rw (h, clean) refl

plain_clean : (c : ℕ) → is_plain c ≡ true → (c == 0) ≡ false
plain_clean c h =
    elim (cases_Bool (c == 0)) [ inl is ↦ absurd (let e = rw (eqb-true c 0 is) at h in cc) | inr other ↦ other ]

word_clean : (mode : Mode) (text : List ℕ) → CleanWord (first_word mode text)
word_clean Bare [] = refl
word_clean Quoted [] = tt
word_clean Escaped [] = tt
word_clean Bare (c ∷ cs) =
    picked CleanWord (c == space) (Some ([], c ∷ cs)) _ (λ h. refl)
    (λ h. picked CleanWord (c == single_quote) (first_word Quoted cs) _ (λ k. word_clean Quoted cs)
    (λ k. picked CleanWord (c == backslash) (first_word Escaped cs) _ (λ l. word_clean Escaped cs)
    (λ l. picked CleanWord (is_plain c) (onto_part c (first_word Bare cs)) None
    (λ m. onto_clean c (first_word Bare cs) (plain_clean c m) (word_clean Bare cs)) (λ m. tt))))
word_clean Quoted (c ∷ cs) =
    picked CleanWord (c == single_quote) (first_word Bare cs) _ (λ h. word_clean Bare cs)
    (λ h. picked CleanWord (c == 0) None (onto_part c (first_word Quoted cs)) (λ k. tt)
    (λ k. onto_clean c (first_word Quoted cs) k (word_clean Quoted cs)))
word_clean Escaped (c ∷ cs) =
    picked CleanWord (c == line_feed || c == 0) None (onto_part c (first_word Bare cs)) (λ h. tt)
    (λ h. onto_clean c (first_word Bare cs) (or_right (c == line_feed) (c == 0) h) (word_clean Bare cs))

-- a text that is read has no NUL
abbrev pub CleanText : Option (List ℕ) → Type 0
CleanText None = Unit {0}
CleanText (Some text) = has 0 text ≡ false

followed_clean : (rest : List ℕ) (parts : Option (List ℕ × List ℕ)) → CleanWord parts → CleanText (followed_by
    rest parts)
followed_clean rest None clean = tt
followed_clean rest (Some (word, more)) clean = picked CleanText _ (Some word) None (λ h. clean) (λ h. tt)

pub whole_clean : (rest text : List ℕ) → CleanText (followed_by rest (first_word Bare text))
whole_clean rest text = followed_clean rest (first_word Bare text) (word_clean Bare text)

-- a pair that is exported, if any, can be given
abbrev pub GivablePair : Option Pair → Type 0
GivablePair None = Unit {0}
GivablePair (Some pair) = shell_refusal pair ≡ None

named_givable : (name : List ℕ) (text : Option (List ℕ)) → is_exportable name ≡ true → CleanText text →
    GivablePair (with_name name text)
named_givable name None h clean = tt
named_givable name (Some value) h clean =
    let is = and_left (is_shell_name name) (not (is_reserved (encode_utf8_all name))) h in
    let free = not_is (is_reserved (encode_utf8_all name))
    (and_right (is_shell_name name) (not (is_reserved (encode_utf8_all name))) h) in
    rw (is, free, clean) refl

assigned_givable : (parts : Option Pair) → GivablePair (assigned parts)
assigned_givable None = tt
assigned_givable (Some (name, word)) =
    picked GivablePair (is_exportable name) (with_name name (followed_by [] (first_word Bare word))) None
    (λ h. named_givable name (followed_by [] (first_word Bare word)) h (whole_clean [] word)) (λ h. tt)

pub exported_givable : (rest : Option (List ℕ)) → GivablePair (exported rest)
exported_givable None = tt
exported_givable (Some rest) = assigned_givable (split_at_equals rest)

with_givable : (pair : Option Pair) (pairs : Option (List Pair)) → GivablePair pair → Givable target.Sh pairs →
    Givable target.Sh (with_pair pair pairs)
with_givable None pairs h are = tt
with_givable (Some pair) None h are = tt
with_givable (Some pair) (Some pairs) h are = (rw h refl, are)

lines_givable : (lines : List (List ℕ)) → Givable target.Sh (lines_pairs lines)
lines_givable [] = tt
lines_givable (line ∷ lines) =
    with_givable (exported (after export_word line)) (lines_pairs lines) (exported_givable (after export_word line))
    (lines_givable lines)

-- a shell reads only pairs that it can be given
pub shell_holds : (bytes : List ℕ) → Givable target.Sh (shell_reads_bytes bytes)
shell_holds bytes =
    picked (Givable target.Sh) (is_utf8 bytes) (shell_reads (chars bytes)) None
    (λ h. lines_givable (shell_lines Bare (chars bytes))) (λ h. tt)
