-- What is answered of the names that are required.
use denote.Ref.{Bor}
use Rattle.std.proofs.Common.{◌≡◌, ◌≢◌, ◌<◌, ℕ, zero, suc, Bool, true, false, not, cond, List, [], ◌∷◌}
use Rattle.std.proofs.Common.{Result, Ok, Err, refl, sym, ◌∙◌, arith, get_or, length}
use Rattle.std.specs.Prelude.{OnErr}
use Rattle.std.specs.FinMap as fin
use Rattle.dotenvy.specs.Environment.{Texts}
use Rattle.env_layers.specs.declared.missing.Missing.{Missing}
use Rattle.env_layers.specs.declared.missing.Missing.TheVariants.{Names, Memory}
use Rattle.env_layers.specs.Missing.{absent_names, lent_texts, IsMemoryMissing, AnswersRequire}

-- a name that is absent is among the absent ones
some_absent : (names : Texts) (asked : List (Bor (List ℕ))) (n : ℕ) (d : Bor (List ℕ)) → n < length asked →
    fin.contains_key names (get_or asked n d).now ≡ false → absent_names names (lent_texts asked) ≢ []
some_absent names [] n d few absent = absurd (omega (arith, few))
some_absent names (x ∷ asked) zero d few absent = rw absent (λ e. cc)
some_absent names (x ∷ asked) (suc n) d few absent =
    elim (fin.contains_key names x.now) as (λ b.
    cond (not b) (x.now ∷ absent_names names (lent_texts asked)) (absent_names names (lent_texts asked)) ≢ [])
    [ true ↦ some_absent names asked n d (omega (arith, few)) absent | false ↦ λ e. cc ]

-- a call that fails at an absent name fails where some name is absent
pub fails_with_absent : {T E : Type 0} (names : Texts) (asked : List (Bor (List ℕ))) (n : ℕ) (d : Bor (List ℕ))
    (result : Result T E) (test : Bool) → n < length asked → test ≡ fin.contains_key names (get_or asked n d).now →
    test ≡ false → OnErr result (absent_names names (lent_texts asked) ≢ [])
fails_with_absent names asked n d (Ok x) test few is absent = tt
fails_with_absent names asked n d (Err e) test few is absent = some_absent names asked n d few (sym is ∙ absent)

-- where some name is absent, the answer may be that memory was refused
pub answers_failed : {A : Type 0} (absent : List (List ℕ)) (missing : Missing A) → absent ≢ [] →
    IsMemoryMissing missing → AnswersRequire absent (Err missing)
answers_failed [] missing some is = absurd (some refl)
answers_failed (name ∷ absent) (Names names) some is = absurd is
answers_failed (name ∷ absent) (Memory error) some is = tt
