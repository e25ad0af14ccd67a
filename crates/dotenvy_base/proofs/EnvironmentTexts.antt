-- The values of an environment are texts, as the strings that it holds are.
use Rattle.std.proofs.Common.{◌≡◌, ℕ, arith, List, [], ◌∷◌, sym, ◌∙◌}
use Rattle.std.specs.Prelude.{Some}
use Rattle.std.specs.Str.{IsUtf8}
use Rattle.std.specs.FinMap as fin
use Rattle.std.specs.FinMap.Entries.{find}
use Rattle.std.specs.Ordering.{nat_cmp}
use Rattle.std.specs.Cmp.Lexicographic.{slice_cmp}
use Rattle.std.specs.declared.string.String.{String}
use Rattle.std.proofs.lemmas.Option.{none-some}
use Rattle.std.proofs.lemmas.Str.{IsUtf8-string_bytes}
use Rattle.dotenvy_base.specs.Environment.{Texts, text_entries, AreTexts}

-- a value that is found is a text
found_text : {A : Type 0} (q text : List ℕ) (es : List (String A × String A)) →
    find (slice_cmp nat_cmp) q (text_entries es) ≡ Some text → IsUtf8 text
found_text q text [] h = absurd (none-some text h)
found_text q text (e ∷ es) h = grind (arith, found_text q text es, IsUtf8-string_bytes e.1)

-- the values of a map of strings are texts
pub listed_texts : {A : Type 0} (es : List (String A × String A)) (names : Texts) →
    text_entries es ≡ fin.entries names → AreTexts names
listed_texts es names h name text found = found_text name text es (rw h (sym (fin.get-entries names name) ∙ found))
