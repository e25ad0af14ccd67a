-- A load of bytes without an error reads them all.
use Rattle.std.proofs.Common.{◌≡◌, ℕ, ◌&&◌, List, [], ◌∷◌, ◌++◌, inl, inr, refl, ◌∙◌}
use Rattle.std.proofs.Common.{append-nil}
use Rattle.std.proofs.Common.{None, Result, Ok, Err}
use Rattle.std.proofs.Math.Path.{fun_ext}
use Rattle.std.specs.Str.{encode_utf8_all}
use Rattle.std.specs.Ordering.{nat_cmp}
use Rattle.std.specs.Cmp.Lexicographic.{slice_cmp}
use Rattle.std.specs.FinMap as fin
use Rattle.std.proofs.lemmas.Bool.{cases_Bool}
use Rattle.dotenvy_base.specs.declared.errors.Error.{Error}
use Rattle.dotenvy_base.specs.Environment.{Texts}
use Rattle.dotenvy_format.specs.declared.dialect.Dialect.{Dialect}
use Rattle.dotenvy_format.specs.Entries.{Entry, Declares, Fails, Failure}
use Rattle.dotenvy_format.specs.Items.{LookUp, meaning, or_else, with_value}
use Rattle.dotenvy_format.specs.Marks.{without_mark}
use Rattle.dotenvy_format.specs.Run.{has_nul, run, sets}
use Rattle.dotenvy_format.specs.Run as runs
use Rattle.dotenvy_format.proofs.lines.EntriesOnce.{entries_exist}
use Rattle.dotenvy_items.specs.Iter.{fresh, remembering}
use Rattle.dotenvy_items.specs.LoadsRest.{IsAnswer, LoadsRest}
use Rattle.dotenvy_items.specs.Meaning.{recalled_of, values_of}
use Rattle.dotenvy_items.proofs.RememberedNames.{recalls_names}
use Rattle.env_layers.specs.Layers.{rule_of}
use Rattle.env_layers.specs.declared.layers.Mode.{Mode}
use Rattle.dotenvy_exporter.specs.Declarations.{LoadsFile, bytes_told}
use Rattle.dotenvy_exporter.proofs.DeclaredFiles.{in_turn, or_none, run_mode}
use Rattle.dotenvy_exporter.proofs.DeclaredRuns.{step}

-- a load of entries that end with a failure has an error
run_fails : (mode : runs.Mode) (old remembered : LookUp) (front : List Entry) (failure : Failure) →
    (run mode old remembered (front ++ Fails failure ∷ [])).answer ≡ Ok tt → ⊥
run_fails mode old remembered [] failure ok = cc
run_fails mode old remembered (Fails first ∷ front) failure ok = cc
run_fails mode old remembered (Declares key pieces ∷ front) failure ok =
    let value = meaning (or_else old remembered) pieces in
    let is_set = sets mode old key in
    elim (cases_Bool (is_set && has_nul value)) [
      | inl nul ↦ let stops = rw nul at ok in cc
      | inr good ↦
          run_fails mode (step is_set old key value) (with_value remembered key value) front failure (rw good at ok)
    ]

-- so has one by the rule
rule_fails : (mode : Mode) (old remembered : LookUp) (front : List Entry) (failure : Failure) →
    (rule_of mode old remembered (front ++ Fails failure ∷ [])).answer ≡ Ok tt → ⊥
rule_fails mode old remembered front failure ok =
    run_fails (run_mode mode) old remembered front failure
    ((in_turn mode old remembered (front ++ Fails failure ∷ [])).answer ∙ ok)

-- an answer without an error says that there is none
says_ok : {A : Type 0} (said : Result (Unit {0}) Failure) (answer : Result (Unit {0}) (Error A)) → answer ≡ Ok tt →
    IsAnswer said answer → said ≡ Ok tt
says_ok (Ok done) answer ok is = refl
says_ok (Err failure) (Ok done) ok is = absurd is
says_ok (Err failure) (Err error) ok is = cc

-- a fresh iterator that remembers an environment recalls its values
pub recalls : (env : Texts) (bytes : List ℕ) (dialect : Dialect) →
    recalled_of ((remembering env (fresh (bytes_told bytes) dialect)).remembered) ≡ values_of env
recalls env bytes dialect =
    fun_ext (λ name.
    recalls_names env (fresh (bytes_told bytes) dialect) name
    ∙ rw (fin.get-empty (slice_cmp nat_cmp) (encode_utf8_all name)) (or_none (values_of env name)))

-- a load of a file's bytes without an error is the load of its entries
pub file_loads : {A : Type 0} (mode : Mode) (dialect : Dialect) (env old new : Texts) (bytes : List ℕ)
    (answer : Result (Unit {0}) (Error A)) → answer ≡ Ok tt →
    LoadsRest (rule_of mode) (remembering env (fresh (bytes_told bytes) dialect)) old answer new →
    LoadsFile mode dialect (values_of env) (values_of old) bytes (values_of new)
file_loads mode dialect env old new bytes answer ok loads =
    let has = entries_exist dialect (without_mark bytes) in
    let (read, reading, leaves) =
    loads (record { bytes = bytes; fault = None }) (refl, λ told. cc) has.0 has.1 in
    let left = rw (recalls env bytes dialect) at leaves in
    elim reading [
      | inl whole ↦
          let all = rw (whole, append-nil) at left in record {
            entries = has.0;
            has_entries = has.1;
            no_error = says_ok (rule_of mode (values_of old) (values_of env) has.0).answer answer ok all.is_answer;
            leaves = all.values;
          }
      | inr (inl memory) ↦
          let cut = rw memory.ends at left in
          absurd (rule_fails mode (values_of old) (values_of env) memory.front _ (says_ok _ answer ok cut.is_answer))
      | inr (inr bound) ↦
          let cut = rw bound.ends at left in
          absurd (rule_fails mode (values_of old) (values_of env) bound.decided _ (says_ok _ answer ok cut.is_answer))
    ]
