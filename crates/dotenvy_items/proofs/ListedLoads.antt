-- What a listing answers, from what its load left.
use Rattle.std.proofs.Common.{◌≡◌, ◌∙◌, ℕ, true, false, List, ◌++◌, refl, sym}
use Rattle.std.specs.Prelude.{Option, Some, None, option_map, Result, Ok, Err}
use Rattle.std.specs.Result.{IsErrAnd}
use Rattle.std.specs.Str.{chars, encode_utf8_all, IsUtf8}
use Rattle.std.specs.FinMap as fin
use Rattle.std.specs.Ordering.{nat_cmp}
use Rattle.std.specs.Cmp.Lexicographic.{slice_cmp}
use Rattle.std.proofs.lemmas.Result.{err_from_is_err_and}
use Rattle.std.proofs.lemmas.Str.{encodes-chars, encodes_same}
use Rattle.dotenvy_base.specs.declared.errors.Error.{Error}
use Rattle.dotenvy_base.specs.Environment.{AreTexts, Texts}
use Rattle.dotenvy_base.specs.Errors.{IsMemory, IsMemoryErr}
use Rattle.dotenvy_base.specs.Source.{SinkTold}
use Rattle.dotenvy_format.specs.Entries.{Failure}
use Rattle.dotenvy_format.specs.Items.{LookUp, no_values}
use Rattle.dotenvy_format.specs.Keys.{is_key}
use Rattle.dotenvy_format.specs.Loads.{load_result}
use Rattle.dotenvy_format.specs.Run.{Keep}
use Rattle.dotenvy_format.proofs.loads.LoadLaws.{run-keep}
use Rattle.dotenvy_lines.specs.Reading.{told_fault}
use Rattle.dotenvy_items.specs.Iter.{IterState}
use Rattle.dotenvy_items.specs.Meaning.{values_of}
use Rattle.dotenvy_items.specs.LoadsRest.{IsAnswer, LoadsRest, ChangesKeys}
use Rattle.dotenvy_items.specs.Listed.{Lists, WritesLoaded, pairs_of}
use Rattle.dotenvy_format.specs.Written.{written_bytes}
use Rattle.dotenvy_base.specs.Output.{Writes}
use Rattle.dotenvy_items.specs.Laws.{HoldsLoaded, ListsByRule, ListsValues}
use Rattle.dotenvy_items.proofs.KeyBytes.{encodes-key}
use Rattle.dotenvy_items.proofs.StoppedLoads.{loads_by, loads_refused, same_rule}
use Rattle.dotenvy_items.proofs.WholeLoads.{fresh_takes_all, load_takes_all}

-- memory that is refused before the load is as refused at its start: it is the answer, and the sink is as it was
pub refused_lists : {A W : Type 0} (s : IterState) (sink : W → SinkTold) (old : W)
    (answer : Result (Unit {0}) (Error A)) → IsErrAnd answer IsMemory → Lists s sink old old answer
refused_lists s sink old (Ok done) is = absurd is
refused_lists s sink old (Err e) is =
    (fin.empty, Err e, loads_by s fin.empty (same_rule run-keep) (loads_refused Keep s is), (refl, refl))

-- where a load into an empty environment failed, a listing answers its error, and the sink is as it was
pub lists_failed : {A W : Type 0} (s : IterState) (sink : W → SinkTold) (old : W) {env : Texts} (names : Texts)
    {e : Error A} {loaded : Result (Unit {0}) (Error A)} (answer : Result (Unit {0}) (Error A)) → env ≡ fin.empty →
    LoadsRest load_result s env loaded names → loaded ≡ Err e → IsErrAnd answer (λ said. said ≡ e) →
    Lists s sink old old answer
lists_failed s sink old names {e} answer empty loads is same =
    let p = err_from_is_err_and answer same in
    rw (p.1, p.2) (names, Err e, rw (empty, is) at loads, (refl, refl))

-- where a load into an empty environment went well, a listing writes what it left
pub lists_written : {A W : Type 0} (s : IterState) (sink : W → SinkTold) {old new : W} {env names : Texts}
    (answer : Result (Unit {0}) (Error A)) → env ≡ fin.empty → LoadsRest {A = A} load_result s env (Ok tt) names →
    ChangesKeys env names × AreTexts names × Writes sink old new (written_bytes (pairs_of names)) answer →
    Lists s sink old new answer
lists_written s sink answer empty loads writes = (_, Ok tt, rw empty at loads, rw empty at writes)

-- a value that is a text, if there is one, is spelled by the bytes of its own characters
text_again : (o : Option (List ℕ)) → ((text : List ℕ) → o ≡ Some text → IsUtf8 text) →
    option_map encode_utf8_all (option_map chars o) ≡ o
text_again None are = refl
text_again (Some text) are = rw (encodes-chars text (are text refl))

-- only a key's bytes are a key
key_from_bytes : (name : List ℕ) → is_key name ≡ false → is_key (encode_utf8_all name) ≡ false
key_from_bytes name h =
    elim (is_key (encode_utf8_all name)) as (λ b. is_key (encode_utf8_all name) ≡ b → b ≡ false) [
      | true ↦ λ e. let same = encodes_same name _ (sym (encodes-key (encode_utf8_all name) e)) in cc
      | false ↦ λ e. refl
    ] refl

-- a map of texts under keys alone holds what it has by characters
pub holds_loaded : (names : Texts) {look_up : LookUp} → AreTexts names → ChangesKeys fin.empty names →
    ((name : List ℕ) → values_of names name ≡ look_up name) → HoldsLoaded names look_up
holds_loaded names are keys values name = rw (← values name) (elim (is_key name) as (λ b. is_key name ≡ b →
    fin.get names name ≡ option_map encode_utf8_all (values_of names name)) [
      | true ↦ λ h. rw (encodes-key name h) (sym (text_again (fin.get names name) (are name)))
      | false ↦ λ h. rw (absent name h, absent (encode_utf8_all name) (key_from_bytes name h))
    ] refl)
  where
    absent : (name : List ℕ) → is_key name ≡ false → fin.get names name ≡ None
    absent name h = keys name h ∙ fin.get-empty (slice_cmp nat_cmp) name

-- a listing by a fresh iterator, not refused memory, is that of what the rule of a load leaves of all that is told
pub lists_by_rule : {A W : Type 0} → ListsByRule A W
lists_by_rule {A = A} dialect told a sink old new answer entries is can has (names, stop, loads, writes) granted =
    let left =
    simp fin.get-empty at (fresh_takes_all {A = A} {rule = load_result} {dialect = dialect} {a = a} {old = fin.empty}
    {new = names} {answer = stop} entries load_takes_all can has
    (record { told = told; is_told = is; loads = loads; not_refused = not_refused stop writes })) in
    at (load_result no_values no_values (entries ++ told_fault a.fault)).answer stop left.is_answer left.values writes
  where
    not_refused : (stop : Result (Unit {0}) (Error A)) → WritesLoaded sink old new names stop answer →
        ¬ (IsMemoryErr stop)
    not_refused (Ok done) writes = λ memory. memory
    not_refused (Err e) writes = rw writes.0 at granted

    at : {look_up : LookUp} (said : Result (Unit {0}) Failure) (stop : Result (Unit {0}) (Error A)) →
        IsAnswer said stop → ((name : List ℕ) → values_of names name ≡ look_up name) →
        WritesLoaded sink old new names stop answer → ListsValues sink old new look_up said answer
    at (Ok done) (Ok r) is values writes = (names, holds_loaded names writes.1 writes.0 values, writes.2)
    at (Ok done) (Err e) is values writes = absurd is
    at (Err failure) (Ok r) is values writes = absurd is
    at (Err failure) (Err e) is values writes = (rw writes.0 is, writes.1)
