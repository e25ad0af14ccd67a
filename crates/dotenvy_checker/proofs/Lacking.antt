-- Names that others lack, and their reports.
use Rattle.std.proofs.Common.{◌≡◌, Bool, true, false, cond, List, [], ◌∷◌, ◌++◌, map, refl, sym, ◌∙◌, ap}
use Rattle.std.proofs.lemmas.List.{append_assoc}
use Rattle.std.specs.Prelude.{◌||◌, ◌&&◌, not, if◌then◌else◌}
use Rattle.std.specs.List.{filter, list_any}
use Rattle.clap.specs.Words.{Text}
use Rattle.dotenvy_reports.specs.declared.format.Format.{Format}
use Rattle.dotenvy_reports.specs.Formats.{separator}
use Rattle.dotenvy_checker.specs.declared.schema.Difference.TheVariants.{NotDeclared, NotInSchema}
use Rattle.dotenvy_checker.specs.declared.schema.Telling.{Telling}
use Rattle.dotenvy_checker.specs.Report.{separated}
use Rattle.dotenvy_checker.specs.Schema.{comparison_texts}
use Rattle.dotenvy_checker.specs.Schema.{difference_text, is_lacking, lacked_texts}

-- the reports of the names that pass a test
abbrev pub told_texts : (Text → Text) → (Text → Bool) → List Text → List Text
told_texts text test names = map text (filter test names)

-- with one more name told, the others are left
pub told_more : (format : Format) (is_first : Bool) (text : Text → Text) (test : Text → Bool) (name : Text)
    (left after : List Text) (old new all : Text) → left ≡ name ∷ after → test name ≡ true →
    new ≡ (old ++ (if is_first then [] else separator format)) ++ text name →
    old ++ separated format is_first (told_texts text test left) ≡ all →
    new ++ separated format false (told_texts text test after) ≡ all
told_more format is_first text test name left after old new all is seen added h =
    let sign = if is_first then [] else separator format in
    let others = separated format false (told_texts text test after) in
    rw added (append_assoc (old ++ sign) (text name) others ∙ append_assoc old sign (text name ++ others)
    ∙ (rw (is, seen) at h))

-- there is one
any_true : (b : Bool) → true ≡ (b || true)
any_true true = refl
any_true false = refl

-- with one more name that passes, there is one
pub any_more : (test : Text → Bool) (name : Text) (left after : List Text) (b all : Bool) → left ≡ name ∷ after →
    test name ≡ true → (b || list_any test left) ≡ all → (true || list_any test after) ≡ all
any_more test name left after b all is seen h = any_true b ∙ (rw (is, seen) at h)

-- nothing and something
and_false : (b : Bool) → (b && false) ≡ false
and_false true = refl
and_false false = refl

-- the same and nothing more
and_true : (b : Bool) → b ≡ (b && true)
and_true true = refl
and_true false = refl

-- the reports of names, and later ones, which are first only if no name is told
pub separated_twice : (format : Format) (is_first : Bool) (text : Text → Text) (test : Text → Bool)
    (names later : List Text) → separated format is_first (told_texts text test names ++ later)
    ≡ separated format is_first (told_texts text test names)
    ++ separated format (is_first && not (list_any test names)) later
separated_twice format is_first text test [] later = ap (λ b. separated format b later) (and_true is_first)
separated_twice format is_first text test (name ∷ names) later =
    let sign = if is_first then [] else separator format in
    let own = text name in
    let rest = separated format false (told_texts text test names) in
    let last = separated format false later in
    elim (test name) as (λ b.
    separated format is_first
    (map text (cond b (name ∷ filter test names) (filter test names)) ++ later)
    ≡ separated format is_first (map text (cond b (name ∷ filter test names) (filter test names)))
    ++ separated format (is_first && not (b || list_any test names)) later) [
      | true ↦ ap (λ t. sign ++ (own ++ t)) (separated_twice format false text test names later)
          ∙ sym (append_assoc sign (own ++ rest) last ∙ ap (λ t. sign ++ t) (append_assoc own rest last))
          ∙ ap (λ b. (sign ++ (own ++ rest)) ++ separated format b later) (sym (and_false is_first))
      | false ↦ separated_twice format is_first text test names later
    ]

-- the reports of both differences, one behind the other
pub comparison_told : (missing extra : Telling) (schema files : List Text) (old middle new : Text) (faults : Bool) →
    missing.difference ≡ NotDeclared →
    extra ≡ record missing { is_first = missing.is_first && not faults; difference = NotInSchema } →
    faults ≡ list_any (is_lacking files) schema →
    middle ≡ old ++ separated missing.format missing.is_first
    (lacked_texts missing.format missing.difference missing.file.now schema files) →
    new ≡ middle ++ separated extra.format extra.is_first
    (lacked_texts extra.format extra.difference extra.file.now files schema) →
    new ≡ old ++ separated missing.format missing.is_first
    (comparison_texts missing.format missing.file.now schema files)
comparison_told missing extra schema files old middle new faults is same found first second =
    let format = missing.format in
    let file = missing.file.now in
    let one = separated format missing.is_first (lacked_texts format NotDeclared file schema files) in
    let others = lacked_texts format NotInSchema file files schema in
    let two = separated format (missing.is_first && not (list_any (is_lacking files) schema)) others in
    let begun = rw is at first in
    let ended = rw (same, found) at second in
    rw (ended, begun) (append_assoc old one two ∙ ap (λ t. old ++ t)
    (sym (separated_twice format missing.is_first (difference_text format NotDeclared file) (is_lacking files) schema
    others)))
