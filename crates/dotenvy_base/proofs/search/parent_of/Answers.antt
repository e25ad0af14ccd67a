use lib.Pointwise.{pointwise}
use lib.Dec.{eqb}
use Rattle.std.proofs.Common.{rules, arith, ◌≡◌, ◌≢◌, ℕ, refl, sym, ◌∙◌, [], ◌∷◌, List, Bool, false}
use Rattle.std.proofs.Common.{true, take, ne_eqb, lit<}
use Rattle.std.specs.Prelude.{Some, None}
use Rattle.std.proofs.lemmas.Grind.{common_steps}
use Rattle.std.proofs.lemmas.Str.Pattern.{rfind_char}
use Rattle.dotenvy_base.specs.Search.{slash}
use Rattle.dotenvy_base.proofs.Basics.{tested_some}
use Rattle.dotenvy_base.proofs.Paths.{parent_of_name, parent_at_slash}
use Rattle.dotenvy_base.proofs.search.parent_of.Goals as goal

-- a text that was found to be another than the root
not_root : {text : List ℕ} {equal : Bool} → equal ≡ pointwise eqb text (slash ∷ []) → equal ≡ false → text ≢ slash ∷ []
not_root tests is e = let both : false ≡ true = sym is ∙ rw e at tests in cc

pub returns-in-Some-eq0 : goal.returns-in-Some-eq0
returns-in-Some-eq0 c =
    let found = rfind_char slash c.as_str-text.result.now (Some c.in-Some-eq0.field-0)
    c.in-Some-eq0.ensures.cases (lit< tt) in
    let other = not_root {text = c.as_str-text.result.now} c.eq.ensures c.if-eq.false in
    let at = parent_at_slash c.as_str-text.result.now c.in-Some-eq0.field-0 other found.0 found.1 found.2 in
    rw (c.new.ensures, ← c.as_str-text.ensures, at, c.in-Some-eq0.field-0-test) refl

pub returns-in-Some : goal.returns-in-Some
returns-in-Some c =
    let found = rfind_char slash c.as_str-text.result.now (Some c.in-Some.end) c.in-Some.ensures.cases (lit< tt) in
    let other = not_root {text = c.as_str-text.result.now} c.eq.ensures c.if-eq.false in
    let past : c.range.result.now ≡ take c.in-Some.end c.as_str-text.result.now = grind
    (arith, common_steps, c.range.ensures.value) in
    let at = parent_at_slash c.as_str-text.result.now c.in-Some.end other found.0 found.1 found.2 in
    rw (c.new-in-Some.ensures, past, ← c.as_str-text.ensures, at, ne_eqb c.in-Some.end 0 c.in-Some.end-test.1) refl

pub returns-in-None : goal.returns-in-None
returns-in-None c =
    let none = rfind_char slash c.as_str-text.result.now None c.in-None.ensures.cases (lit< tt) in
    let some = tested_some c.as_str-text.result.now _ c.is_empty.result c.is_empty.ensures (search rules)
    c.if-is_empty.false in
    rw (c.new-in-None.ensures, ← c.as_str-text.ensures, parent_of_name c.as_str-text.result.now some.1 none) refl
