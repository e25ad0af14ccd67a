-- The names of a schema that a comparison finds no fault in are there.
use Rattle.std.proofs.Common.{◌≡◌, Bool, true, false, List, [], ◌∷◌, refl}
use Rattle.std.specs.Prelude.{◌||◌, not}
use Rattle.std.specs.List.{list_any}
use Rattle.clap.specs.Words.{Text}
use Rattle.dotenvy_base.specs.Environment.{Texts}
use Rattle.env_layers.specs.Missing.{absent_names}
use Rattle.dotenvy_checker.specs.Checks.{names_in}
use Rattle.dotenvy_checker.specs.Folders.{is_among}
use Rattle.dotenvy_checker.specs.Laws.{SchemaIsMet}
use Rattle.dotenvy_checker.specs.Schema.{is_lacking}

-- neither of two
neither : (a b : Bool) → (a || b) ≡ false → (a ≡ false) × (b ≡ false)
neither true b h = cc
neither false b h = (refl, h)

-- what is not false is true
is_true : (b : Bool) → not b ≡ false → b ≡ true
is_true true h = refl
is_true false h = cc

-- no name of the schema is absent
none_absent : (schema files : List Text) (env : Texts) → list_any (is_lacking files) schema ≡ false →
    ((name : Text) → is_among files name ≡ true → names_in env name ≡ true) → absent_names env schema ≡ []
none_absent [] files env none has = refl
none_absent (name ∷ schema) files env none has =
    let both = neither (is_lacking files name) (list_any (is_lacking files) schema) none in
    rw (has name (is_true (is_among files name) both.0)) (none_absent schema files env both.1 has)

-- so they can be required
pub schema_is_met : {A : Type 0} → SchemaIsMet A
schema_is_met schema files env answer none has answers =
    rw (none_absent schema files env none has) at answers
