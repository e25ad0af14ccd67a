-- A value is read character by character, and its names stay as they are written.
use Rattle.std.proofs.Common.{ℕ, ◌≡◌, ◌∙◌, List, ◌∷◌, ◌++◌, ap, append_assoc, sym}
use Rattle.std.specs.Str.{encode_utf8_all}
use Rattle.std.proofs.lemmas.Str.{encodes-append}
use Rattle.dotenvy.specs.Dialect.{Dialect}
use Rattle.dotenvy_editor.specs.declared.tail.Reading.{Reading}
use Rattle.dotenvy_editor.specs.Tails.{after}
use Rattle.dotenvy_editor.specs.inside.VerbatimReading.{given, given_text, verbatim}

-- one more character was read
pub one_given : (dialect : Dialect) (r : Reading) (c : ℕ) (cs text whole : List ℕ) →
    text ++ encode_utf8_all (verbatim dialect r (c ∷ cs)) ≡ whole →
    (text ++ encode_utf8_all (given_text (given dialect r c)))
    ++ encode_utf8_all (verbatim dialect (after dialect r c) cs)
    ≡ whole
one_given dialect r c cs text whole before =
    let one = given_text (given dialect r c) in
    let others = verbatim dialect (after dialect r c) cs in
    append_assoc text (encode_utf8_all one) (encode_utf8_all others)
    ∙ ap (λ bytes. text ++ bytes) (sym (encodes-append one others)) ∙ before
