-- What C is told of a load says what the specification of the load says.
use Rattle.std.proofs.Common.{ℕ, ◌≡◌, ◌<◌, Bool, true, false, List, [], ◌++◌, length, refl, subst, ap}
use Rattle.std.proofs.Common.{append-nil}
use Rattle.std.specs.Prelude.{Some, None, Result, Ok, Err, unwrap_or, option_map, if◌then◌else◌}
use Rattle.std.specs.Option.{option_flatten}
use Rattle.std.specs.Str.{chars, encode_utf8_all}
use Rattle.std.specs.FinMap as fin
use Rattle.std.specs.Ordering.{nat_cmp}
use Rattle.std.specs.Cmp.Lexicographic.{slice_cmp}
use Rattle.std.specs.declared.alloc.Global.{Global}
use Rattle.std.specs.declared.io.ErrorKind.TheVariants.{Interrupted}
use Rattle.std.proofs.lemmas.Option.{none-some}
use Rattle.dotenvy.specs.Entries.{Entry, Failure, HasEntries}
use Rattle.dotenvy.specs.Environment.{Texts}
use Rattle.dotenvy.specs.Error.{Error}
use Rattle.dotenvy.specs.Errors.{IsMemoryErr}
use Rattle.dotenvy.specs.Input.{most_reads}
use Rattle.dotenvy.specs.Items.{no_values}
use Rattle.dotenvy.specs.Iteration.{IsReadable}
use Rattle.dotenvy.specs.Laws.{LoadsAllLeft}
use Rattle.dotenvy.specs.Loads.{load_result, override_result}
use Rattle.dotenvy.specs.LoadsRest.{IsAnswer, Leaves, Rule}
use Rattle.dotenvy.specs.Marks.{without_mark}
use Rattle.dotenvy.specs.Meaning.{recalled_of, values_of}
use Rattle.dotenvy.specs.Source.{Ahead}
use Rattle.dotenvy_items.proofs.Iterations.{can_read_fresh}
use Rattle.dotenvy_items.proofs.WholeLoads.{load_takes_all, override_takes_all}
use Rattle.dotenvy_c.specs.Block.{block_names}
use Rattle.dotenvy_c.specs.File.{file_told, fresh_file}
use Rattle.dotenvy_c.specs.Load.{LoadsFile}
use Rattle.dotenvy_c.specs.Options.{dialect_of, has_option, rule_asked}
use Rattle.dotenvy_c.specs.Said.{SaysLoadAnswer, SaysLoad}
use Rattle.dotenvy_c.specs.Told.{ToldResult, outcome_told}
use Rattle.dotenvy_c.proofs.SaidItems.{error_says, not_refused_error}

-- where nothing is remembered, no name has a remembered text
empty_recalled : recalled_of fin.empty ≡ no_values
empty_recalled =
    λ i name. ap (λ o. option_map chars (option_flatten o)) (fin.get-empty (slice_cmp nat_cmp)
    (encode_utf8_all name)) i

-- both rules take all that is left
takes_all : (overrides : Bool) → LoadsAllLeft (if overrides then override_result else load_result) Global
takes_all true = override_takes_all
takes_all false = load_takes_all

-- a result that is told is no refused memory
outcome_not_refused : (outcome : Result (Unit {0}) (Error Global)) (told : ToldResult) →
    outcome_told outcome ≡ Some told →
    ¬ (IsMemoryErr outcome)
outcome_not_refused (Ok done) told tells = λ h. h
outcome_not_refused (Err error) told tells = not_refused_error error told tells

-- a result as it is told says what the result says
answer_says : (outcome : Result (Unit {0}) (Error Global)) (told : ToldResult) (said : Result (Unit {0}) Failure) →
    outcome_told outcome ≡ Some told → IsAnswer said outcome → SaysLoadAnswer told said
answer_says (Ok done) told (Ok r) tells is =
    subst (λ o. SaysLoadAnswer o (Ok r)) (ap (λ o. unwrap_or o told) tells) (refl, refl, refl, refl)
answer_says (Ok done) told (Err failure) tells is = absurd is
answer_says (Err error) told (Ok r) tells is = absurd is
answer_says (Err error) told (Err failure) tells is = error_says error told failure tells is

pub loads_all_entries : (options : ℕ) (file block : List ℕ) (names : Texts) (entries : List Entry) (told : ToldResult) →
    length file < most_reads → HasEntries (dialect_of options) (without_mark file) entries →
    LoadsFile options file block names told →
    SaysLoad (rule_asked options (values_of (block_names block)) no_values entries) names told
loads_all_entries options file block names entries told few has load =
    let a : Ahead = record { bytes = file; fault = None } in
    let readable : IsReadable a =
    record { few = few; not_interrupted = λ e. none-some Interrupted e } in
    let rule : Rule = rule_asked options in
    let leaves : Leaves (rule (values_of (block_names block)) (recalled_of fin.empty) (entries ++ [])) names
    load.outcome =
    takes_all (has_option options 1) (fresh_file file (dialect_of options)) a (block_names block) names load.outcome
    entries (can_read_fresh (dialect_of options) (file_told file) a refl readable) has load.loads
    (outcome_not_refused load.outcome told load.tells) in
    let all : Leaves (rule (values_of (block_names block)) no_values entries) names load.outcome =
    subst (λ look_up. Leaves (rule (values_of (block_names block)) look_up entries) names load.outcome) empty_recalled
    (subst (λ es. Leaves (rule (values_of (block_names block)) (recalled_of fin.empty) es) names load.outcome)
    (append-nil entries) leaves) in
    record { values = all.values; answer = answer_says load.outcome told _ load.tells all.is_answer }
