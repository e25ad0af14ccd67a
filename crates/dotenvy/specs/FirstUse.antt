-- What a use of an environment answers, once the first use has loaded.
use Rattle.std.specs.Prelude.{ℕ, ◌≡◌, List, Option, Some, None, Result, Err, IsOkAnd, string_bytes}
use Rattle.std.specs.declared.string.String.{String}
use Rattle.dotenvy_base.specs.declared.errors.Error.{Error}
use Rattle.dotenvy_base.specs.declared.errors.Error.TheVariants.{EnvVar}
use Rattle.dotenvy_base.specs.declared.errors.VarError.TheVariants.{NotPresent}

-- the value, or that there is none
abbrev pub AnswersVar : {A : Type 0} → Option (List ℕ) → Result (String A) (Error A) → Type 0
AnswersVar None result = result ≡ Err (EnvVar NotPresent)
AnswersVar (Some value) result = IsOkAnd result (λ text. string_bytes text ≡ value)
