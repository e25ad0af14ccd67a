-- The value that a load of bytes leaves of a name.
use Rattle.std.proofs.Common.{◌≡◌, ◌⊎◌, ◌<◌, ◌+◌, ◌∙◌, ℕ, false, ◌&&◌, List, [], ◌∷◌, ◌++◌, Some, None}
use Rattle.std.proofs.Common.{Result, Ok, Err, is_ok, ap, append-nil, arith, inl, inr, length, length-append, refl, sym}
use Rattle.std.proofs.Math.Path.{fun_ext}
use Rattle.std.proofs.lemmas.Bool.{cases_Bool}
use Rattle.std.proofs.lemmas.Str.{encodes-chars}
use Rattle.std.specs.Ordering.{nat_cmp}
use Rattle.std.specs.Cmp.Lexicographic.{slice_cmp}
use Rattle.std.specs.FinMap as fin
use Rattle.std.specs.Option.{option_map}
use Rattle.std.specs.Str.{IsUtf8, encode_utf8_all}
use Rattle.dotenvy_base.specs.Environment.{Texts}
use Rattle.dotenvy_base.specs.Errors.{IsIoOf, IsMemory}
use Rattle.dotenvy_base.specs.Source.{Told}
use Rattle.dotenvy_base.specs.declared.errors.Error.{Error}
use Rattle.dotenvy_base.specs.declared.errors.Error.TheVariants as error
use Rattle.dotenvy_format.specs.declared.dialect.Dialect.{Dialect}
use Rattle.dotenvy_format.specs.Entries.{Entry, Declares, Fails, Failure, HasEntries, Io, LineParse, Memory, Nul}
use Rattle.dotenvy_format.specs.Items.{LookUp, meaning, no_values, or_else, with_value}
use Rattle.dotenvy_format.specs.Loads.{load_result}
use Rattle.dotenvy_format.specs.Marks.{without_mark}
use Rattle.dotenvy_format.specs.Run.{Keep, after_declaration, has_nul, run, sets}
use Rattle.dotenvy_format.proofs.lines.EntriesOnce.{entries_exist}
use Rattle.dotenvy_format.proofs.loads.LoadLaws.{run-keep}
use Rattle.dotenvy_format.proofs.loads.LoadRuns.{run-stops}
use Rattle.dotenvy_format.proofs.loads.LoadsTwice.{load_keeps}
use Rattle.dotenvy.specs.Input.{InputState, IsReadFault, most_reads}
use Rattle.dotenvy_items.specs.Iter.{IterState, fresh}
use Rattle.dotenvy_items.specs.LoadStops.{DecideLoaded, Stops}
use Rattle.dotenvy_items.specs.LoadsRest.{IsAnswer, Leaves, LoadsRest}
use Rattle.dotenvy_items.specs.Meaning.{recalled_of, values_of}
use Rattle.dotenvy_edit_command.specs.declared.failure.Failure.{Failure as Failed}
use Rattle.dotenvy_edit_command.specs.declared.failure.Failure.TheVariants as failure
use Rattle.dotenvy_edit_command.specs.Loaded.{GivesNone, GivesValue, HasNoError, IsLackAfter, IsValueOf}
use Rattle.dotenvy_edit_command.specs.Loaded.{StopsOn, load_of}
use Rattle.std.specs.Str.{chars}

-- what a source of these bytes tells
abbrev pub told_of : List ℕ → Told
told_of bytes = record { ahead = Some (record { bytes = bytes; fault = None }); calls = None; references = [] }

-- an empty environment has no values
no_names : values_of fin.empty ≡ no_values
no_names = fun_ext (λ name. rw (fin.get-empty (slice_cmp nat_cmp) (encode_utf8_all name)) refl)

-- a value that a load has left is there after any more entries
keeps : (env remembered : LookUp) (more : List Entry) (name value : List ℕ) → env name ≡ Some value →
    (run Keep env remembered more).env name ≡ Some value
keeps env remembered more name value is =
    (run-keep env remembered more).env name ∙ load_keeps env remembered more name value is

-- a value that is left by a load which fails after some entries is left by one that goes on there
left_further : (env remembered : LookUp) (front more : List Entry) (failure : Failure) (name value : List ℕ) →
    (run Keep env remembered (front ++ Fails failure ∷ [])).env name ≡ Some value →
    (run Keep env remembered (front ++ more)).env name ≡ Some value
left_further env remembered [] more failure name value is = keeps env remembered more name value is
left_further env remembered (Fails first ∷ front) more failure name value is = is
left_further env remembered (Declares key pieces ∷ front) more failure name value is =
    let means = meaning (or_else env remembered) pieces in
    elim (cases_Bool (sets Keep env key && has_nul means)) [
      | inl nul ↦ rw nul (rw nul at is)
      | inr good ↦
          rw good
          (left_further (after_declaration Keep env key means) (with_value remembered key means) front more failure
          name value (rw good at is))
    ]

-- a load of entries that end with a failure has an error: its own, or one of those before it
ends_failed : (env remembered : LookUp) (front : List Entry) (failure : Failure) →
    (run Keep env remembered (front ++ Fails failure ∷ [])).answer ≡ Err failure
    ⊎ ((other : Failure) × ((run Keep env remembered front).answer ≡ Err other))
ends_failed env remembered [] failure = inl refl
ends_failed env remembered (Fails first ∷ front) failure = inr (first, refl)
ends_failed env remembered (Declares key pieces ∷ front) failure =
    let means = meaning (or_else env remembered) pieces in
    elim (cases_Bool (sets Keep env key && has_nul means)) [
      | inl nul ↦ inr (Nul key, rw nul refl)
      | inr good ↦
          rw good
          (ends_failed (after_declaration Keep env key means) (with_value remembered key means) front failure)
    ]

-- where the load of the first entries has an error, what follows them makes no difference
stops_before : (env remembered : LookUp) (front more : List Entry) (failure other : Failure) →
    (run Keep env remembered front).answer ≡ Err other →
    run Keep env remembered (front ++ Fails failure ∷ []) ≡ run Keep env remembered (front ++ more)
stops_before env remembered front more failure other is =
    run-stops Keep env remembered front (Fails failure ∷ []) other is
    ∙ sym (run-stops Keep env remembered front more other is)

-- the same of loads as they are specified
load_stops_before : (front more : List Entry) (failure other : Failure) (name : List ℕ) →
    (run Keep no_values no_values front).answer ≡ Err other →
    (load_of (front ++ Fails failure ∷ [])).env name ≡ (load_of (front ++ more)).env name
load_stops_before front more failure other name is =
    let same = stops_before no_values no_values front more failure other is in
    sym ((run-keep no_values no_values (front ++ Fails failure ∷ [])).env name)
    ∙ ap (λ loaded. loaded.env name) same
    ∙ (run-keep no_values no_values (front ++ more)).env name

load_left_further : (front more : List Entry) (failure : Failure) (name value : List ℕ) →
    (load_of (front ++ Fails failure ∷ [])).env name ≡ Some value → (load_of (front ++ more)).env name ≡ Some value
load_left_further front more failure name value is =
    let left = (run-keep no_values no_values (front ++ Fails failure ∷ [])).env name ∙ is in
    sym ((run-keep no_values no_values (front ++ more)).env name)
    ∙ left_further no_values no_values front more failure name value left

load_ends_failed : (front : List Entry) (failure : Failure) →
    ((load_of (front ++ Fails failure ∷ [])).answer ≡ Err failure)
    ⊎ ((other : Failure) × ((run Keep no_values no_values front).answer ≡ Err other))
load_ends_failed front failure =
    elim (ends_failed no_values no_values front failure) [
      | inl ends ↦ inl (sym (run-keep no_values no_values (front ++ Fails failure ∷ [])).answer ∙ ends)
      | inr before ↦ inr before
    ]

-- a fresh iterator remembers nothing
no_remembered : (bytes : List ℕ) (dialect : Dialect) →
    recalled_of (fresh (told_of bytes) dialect).remembered ≡ no_values
no_remembered bytes dialect = fun_ext (λ name. rw (fin.get-empty (slice_cmp nat_cmp) (encode_utf8_all name)) refl)

-- what is left of a load of these bytes: the load of all entries, or of those before memory was refused
LeftOf : {A : Type 0} → List Entry → Texts → Result (Unit {0}) (Error A) → Type 0
LeftOf entries new answer =
    Leaves (load_of entries) new answer
    ⊎ ((front back : List Entry) × (entries ≡ front ++ back) × Leaves (load_of (front ++ Fails Memory ∷ [])) new answer)

left_of : {A : Type 0} (dialect : Dialect) (bytes : List ℕ) (new : Texts) (answer : Result (Unit {0}) (Error A))
    (entries : List Entry) → HasEntries dialect (without_mark bytes) entries → length bytes < most_reads →
    LoadsRest load_result (fresh (told_of bytes) dialect) fin.empty answer new → LeftOf entries new answer
unfolding LeftOf
left_of dialect bytes new answer entries has short loads =
    let (read, reading, leaves) = loads (record { bytes = bytes; fault = None }) (refl, λ told. cc) entries has in
    let left = rw (no_names, no_remembered bytes dialect) at leaves in
    elim reading [
      | inl whole ↦ inl (rw (whole, append-nil) at left)
      | inr (inl memory) ↦ inr (memory.front, memory.back, memory.cut, rw memory.ends at left)
      | inr (inr bound) ↦
          let total = ap length bound.cut in
          absurd (omega (arith, short, bound.each_gave, total, length-append bound.bytes bound.later))
    ]

-- a value that a load has left is the one that the file gives the name
pub value_given : {A : Type 0} (dialect : Dialect) (bytes name value : List ℕ) (new : Texts)
    (answer : Result (Unit {0}) (Error A)) → length bytes < most_reads →
    LoadsRest load_result (fresh (told_of bytes) dialect) fin.empty answer new → values_of new name ≡ Some value →
    GivesValue dialect bytes name value
unfolding LeftOf
value_given dialect bytes name value new answer short loads is =
    let has = entries_exist dialect (without_mark bytes) in
    record {
      entries = has.0;
      has_entries = has.1;
      leaves = elim (left_of dialect bytes new answer has.0 has.1 short loads) [
        | inl whole ↦ sym (whole.values name) ∙ is
        | inr (front, back, cut, left) ↦
            rw cut (load_left_further front back Memory name value (sym (left.values name) ∙ is))
      ];
    }

-- an answer without an error says that there is none
says_ok : {A : Type 0} (said : Result (Unit {0}) Failure) (answer : Result (Unit {0}) (Error A)) → answer ≡ Ok tt →
    IsAnswer said answer → said ≡ Ok tt
says_ok (Ok done) answer ok is = refl
says_ok (Err failure) (Ok done) ok is = absurd is
says_ok (Err failure) (Err error) ok is = cc

-- a load without an error reads all
pub no_error : {A : Type 0} (dialect : Dialect) (bytes : List ℕ) (new : Texts) (answer : Result (Unit {0}) (Error A)) →
    length bytes < most_reads → LoadsRest load_result (fresh (told_of bytes) dialect) fin.empty answer new →
    answer ≡ Ok tt → HasNoError dialect bytes
unfolding LeftOf
no_error dialect bytes new answer short loads ok =
    let has = entries_exist dialect (without_mark bytes) in
    record {
      entries = has.0;
      has_entries = has.1;
      leaves = elim (left_of dialect bytes new answer has.0 has.1 short loads) [
        | inl whole ↦ says_ok _ answer ok whole.is_answer
        | inr (front, back, cut, left) ↦
            let through = says_ok _ answer ok left.is_answer in
            elim (load_ends_failed front Memory) [
              | inl ends ↦ cc
              | inr before ↦
                  let ends = run-stops Keep no_values no_values front (Fails Memory ∷ []) before.0 before.1 in
                  let same = (run-keep no_values no_values (front ++ Fails Memory ∷ [])).answer in
                  let fails : (run Keep no_values no_values (front ++ Fails Memory ∷ [])).answer ≡ Err before.0 =
                  ap (λ loaded. loaded.answer) ends ∙ before.1 in cc
            ]
      ];
    }

-- a load that ends in a failed allocation has that as its answer
ends_in_memory : {A : Type 0} (said : Result (Unit {0}) Failure) (answer : Result (Unit {0}) (Error A)) →
    ((error : Error A) → answer ≡ Err error → ¬ (IsMemory error)) → said ≡ Err Memory → IsAnswer said answer → ⊥
ends_in_memory (Ok done) answer not is says = cc
ends_in_memory (Err Memory) (Ok done) not is says = says
ends_in_memory (Err Memory) (Err error) not is says = not error refl says
ends_in_memory (Err (LineParse text index)) answer not is says = cc
ends_in_memory (Err (Io kind)) answer not is says = cc
ends_in_memory (Err (Nul key)) answer not is says = cc

-- a name that a load has left without a value has none in the file, unless an allocation failed
pub none_given : {A : Type 0} (dialect : Dialect) (bytes name : List ℕ) (new : Texts)
    (answer : Result (Unit {0}) (Error A)) → length bytes < most_reads →
    LoadsRest load_result (fresh (told_of bytes) dialect) fin.empty answer new →
    ((error : Error A) → answer ≡ Err error → ¬ (IsMemory error)) → values_of new name ≡ None →
    GivesNone dialect bytes name
unfolding LeftOf
none_given dialect bytes name new answer short loads not_memory is =
    let has = entries_exist dialect (without_mark bytes) in
    record {
      entries = has.0;
      has_entries = has.1;
      leaves = elim (left_of dialect bytes new answer has.0 has.1 short loads) [
        | inl whole ↦ sym (whole.values name) ∙ is
        | inr (front, back, cut, left) ↦
            elim (load_ends_failed front Memory) [
              | inl ends ↦ absurd (ends_in_memory _ answer not_memory ends left.is_answer)
              | inr before ↦
                  rw cut
                  (sym (load_stops_before front back Memory before.0 name before.1) ∙ sym (left.values name) ∙ is)
            ]
      ];
    }

-- an error that says a failure
fails_by : {A : Type 0} (said : Result (Unit {0}) Failure) (error : Error A) → IsAnswer said (Err error) →
    is_ok said ≡ false
fails_by (Ok done) error says = absurd says
fails_by (Err failure) error says = refl

-- a fault of reading bytes is that there are too many
too_long : {A : Type 0} (bytes : List ℕ) (begin end : InputState) (holds : List ℕ → Type 0) (failed : Error A) →
    length bytes < most_reads → begin.reads ≡ most_reads →
    IsIoOf (IsReadFault (record { bytes = bytes; fault = None }) begin holds end) failed → ⊥
too_long bytes begin end holds (error.Io fault) short all (inl told) = let none = told.0 in cc
too_long bytes begin end holds (error.Io fault) short all (inr (other, bound)) =
    let total = ap length bound.cut in
    omega (arith, short, all, bound.each_gave, total, length-append bound.front bound.later)
too_long bytes begin end holds other short all is = absurd is

-- a load of fewer bytes than can be read for certain that stops, and not for memory, stops at an entry
pub stops_on : {A : Type 0} (dialect : Dialect) (bytes : List ℕ) (answer : Result (Unit {0}) (Error A))
    (error : Error A) (end : IterState) (line : ℕ) → length bytes < most_reads → answer ≡ Err error →
    ¬ (IsMemory error) → Stops load_result (fresh (told_of bytes) dialect) fin.empty answer end →
    line ≡ end.item_lines.0 → StopsOn dialect bytes line
stops_on dialect bytes answer error end line short is not_memory stops is_line =
    let ways = rw is at (stops (record { bytes = bytes; fault = None }) (refl, λ told. cc)) in
    elim ways [
      | inl place ↦
          record {
            done = place.done;
            entry = place.entry;
            loads = rw (no_names, no_remembered bytes dialect) at place.stops.0;
            stops = fails_by _ error (rw (no_names, no_remembered bytes dialect) at place.stops.1);
            left = place.left;
            uses = place.uses;
            begins = λ few. is_line ∙ first_line _ _ (place.stands.0 (omega (arith, few)));
          }
      | inr final ↦
          elim final.0.1 [
            | inl memory ↦ absurd (not_memory memory)
            | inr reading ↦ absurd (too_long bytes (fresh (told_of bytes) dialect).lines.input end.lines.input
                (DecideLoaded load_result (fresh (told_of bytes) dialect) fin.empty) error short refl reading)
          ]
    ]
  where
    first_line : (from line : ℕ) → line ≡ 0 + (from + 1) → line ≡ from + 1
    first_line from line is = omega (arith, is)

-- the answer of a load with this error
abbrev error_of : {A : Type 0} → Error A → Result (Unit {0}) (Error A)
error_of error = Err error

-- an error that is none of memory is the one that is returned
same_error : {A : Type 0} (error other : Error A) → ¬ (IsMemory error) → error_of error ≡ Err other →
    ¬ (IsMemory other)
same_error error other not same =
    let is : error ≡ other = cc in
    λ memory. not (rw is memory)

-- why a name has no value in a file of fewer bytes than can be read for certain
pub lacks_value : {A : Type 0} (dialect : Dialect) (bytes file name : List ℕ) (new : Texts)
    (answer : Result (Unit {0}) (Error A)) (end : IterState) (line : ℕ) (failed : Failed A) →
    length bytes < most_reads → LoadsRest load_result (fresh (told_of bytes) dialect) fin.empty answer new →
    Stops load_result (fresh (told_of bytes) dialect) fin.empty answer end → line ≡ end.item_lines.0 →
    values_of new (chars name) ≡ None → IsLackAfter file name line answer failed →
    IsValueOf dialect bytes file name (Err failed)
lacks_value dialect bytes file name new (Ok done) end line (failure.Refused place refusal) short loads stops is none
    lack = (
      lack.0,
      lack.1,
      no_error dialect bytes new (Ok done) short loads refl,
      none_given dialect bytes (chars name) new (Ok done) short loads (λ error is. cc) none,
    )
lacks_value dialect bytes file name new (Err error) end line (failure.Stops place told) short loads stops is none lack
    = (
      lack.0,
      stops_on dialect bytes (Err error) error end told short refl lack.2 stops (lack.1 ∙ is),
      none_given dialect bytes (chars name) new (Err error) short loads
          (λ other same. same_error error other lack.2 same) none,
    )
lacks_value dialect bytes file name new (Err error) end line (failure.Memory refused) short loads stops is none lack =
    tt
lacks_value dialect bytes file name new answer end line other short loads stops is none lack = absurd lack

-- the value of a name in an environment
pub value_named : (names : Texts) (name : List ℕ) → IsUtf8 name →
    values_of names (chars name) ≡ option_map chars (fin.get names name)
value_named names name utf8 = rw (encodes-chars name utf8) refl
