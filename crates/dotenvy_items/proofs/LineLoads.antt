-- What a load leaves of one line, at each way out.
use Rattle.std.proofs.Common.{rules, ◌&&◌, ◌≡◌, ◌∙◌, ℕ, Bool, true, false, List, []}
use Rattle.std.proofs.Common.{Result, Ok, Err, inl, inr, refl}
use Rattle.std.proofs.Common.{string_bytes, sym}
use Rattle.std.specs.Prelude.{not, if◌then◌else◌, IsTrue, IfErr, MatchResult, OnOk, OnErr}
use Rattle.std.specs.Str.{chars}
use Rattle.std.specs.FinMap.{insert, contains_key}
use Rattle.std.proofs.lemmas.Bool.{not-true, not-false}
use Rattle.std.specs.declared.string.String.{String}
use Rattle.std.proofs.lemmas.Str.{IsUtf8-string_bytes, chars-nil}
use Rattle.dotenvy_format.specs.declared.dialect.Dialect.{Dialect}
use Rattle.dotenvy_base.specs.declared.errors.Error.{Error}
use Rattle.dotenvy_items.specs.declared.parse.Declaration.{Declaration}
use Rattle.dotenvy_base.specs.Errors.{IsMemory, IsNulOf}
use Rattle.dotenvy_format.specs.Keys.{is_key}
use Rattle.dotenvy_format.specs.Outcome.{Nothing, Pair, Fault as SaysFault}
use Rattle.dotenvy_format.specs.Entries.{Nul}
use Rattle.dotenvy_format.specs.Items.{LookUp, meaning, with_value}
use Rattle.dotenvy_format.specs.Run.{Mode, Keep, Loaded, sets, has_nul}
use Rattle.dotenvy_base.specs.Environment.{Texts, Env, value_ok, KeepsNames}
use Rattle.dotenvy_items.specs.Remembered.{Remembered}
use Rattle.dotenvy_items.specs.Meaning.{values_of, recalled_of, names_of}
use Rattle.dotenvy_items.specs.LoadsRest.{Leaves, ChangesOnlyKeys}
use Rattle.dotenvy_items.specs.inside.LoadStep.{LoadsLine, SetsIn}
use Rattle.dotenvy_items.specs.inside.FirstPass.{IsDeclared, IsPairOf, IsFaultOf}
use Rattle.dotenvy_items.proofs.Nuls.{value_ok-chars}
use Rattle.dotenvy_items.proofs.KeyBytes.{chars-key}
use Rattle.dotenvy_items.proofs.KeyLookUps.{values_of-insert, is_none-contains, changes_keys-insert}
use Rattle.dotenvy_items.proofs.LinePasses.{chars-spelled, says_declared}
use Rattle.dotenvy_format.proofs.loads.LoadRuns.{run-one}
use Rattle.dotenvy_base.proofs.TextMaps.{keeps_insert}

-- an empty line loads nothing
pub nothing_loaded : {A : Type 0} (mode : Mode) {dialect : Dialect} (remembered : Remembered) {names : Texts}
    (line : List ℕ) → line ≡ [] → LoadsLine {A = A} mode dialect remembered (chars line) names (Ok tt) names
nothing_loaded mode remembered line none =
    rw (none, chars-nil) (inr (Nothing, refl, record { values = λ n. refl; is_answer = tt }))

-- a line's fault is the answer
pub fault_loaded : {A : Type 0} (mode : Mode) (remembered : Remembered) {dialect : Dialect} {line : List ℕ}
    {names : Texts} {e : Error A} → IsFaultOf dialect line e →
    LoadsLine mode dialect remembered line names (Err e) names
fault_loaded mode remembered (inl refused) = inl (refused, refl)
fault_loaded mode remembered (inr (text, index, says, is)) =
    inr (SaysFault text index, says, record { values = λ n. refl; is_answer = is })

-- what a load of a declaration leaves, by whether its name is set and whether its value has a NUL
abbrev pub left_by : LookUp → List ℕ → List ℕ → Bool → Bool → Loaded
left_by env key value is_set has =
    if is_set && has then record { env = env; answer = Err (Nul key) }
    else record { env = if is_set then with_value env key value else env; answer = Ok tt }

-- a load of a line leaves what one of its declaration does
pub declared_loaded : {A : Type 0} (mode : Mode) (remembered : Remembered) {dialect : Dialect} {line : List ℕ}
    {old new : Texts} {declaration : Declaration} {answer : Result (Unit {0}) (Error A)} {is_set has : Bool}
    (is : IsDeclared dialect (names_of old remembered) line declaration) →
    sets mode (values_of old) (chars declaration.key.now) ≡ is_set →
    has_nul (meaning (names_of old remembered) is.pieces) ≡ has →
    Leaves
    (left_by (values_of old) (chars declaration.key.now) (meaning (names_of old remembered) is.pieces) is_set has) new
    answer → LoadsLine mode dialect remembered line old answer new
declared_loaded mode remembered {dialect} {line} {old} {declaration = declaration} {is_set = is_set} {has} is set nul
    leaves =
    let key = chars declaration.key.now in
    inr (
      Pair key is.pieces,
      says_declared dialect (names_of old remembered) line key declaration is refl,
      rw (run-one mode (values_of old) (recalled_of remembered) key _ is.pieces is_set has refl set nul) leaves,
    )

-- what `set` answers to this pair and leaves
pub record SetBy {A : Type 0} (old new : Env) (pair : String A × String A) (answer : Result (Unit {0}) (Error A))
    : Type 0 where
  pub ok : OnOk answer (new ≡ record old { names = insert old.names (string_bytes pair.0) (string_bytes pair.1) })
  pub same : OnErr answer (new ≡ old)
  pub good : IsTrue (value_ok (string_bytes pair.1)) → IfErr answer IsMemory
  pub nul : value_ok (string_bytes pair.1) ≡ false → MatchResult answer (λ _. ⊥) (IsNulOf (string_bytes pair.0))

-- what `set_absent` answers to this pair and leaves
pub record SetAbsentBy {A : Type 0} (old new : Env) (pair : String A × String A) (answer : Result Bool (Error A))
    : Type 0 where
  pub kept : contains_key old.names (string_bytes pair.0) ≡ true → (answer ≡ Ok false) × (new ≡ old)
  pub ok :
      contains_key old.names (string_bytes pair.0) ≡ false →
      OnOk answer ((answer ≡ Ok true)
      × (new ≡ record old { names = insert old.names (string_bytes pair.0) (string_bytes pair.1) }))
  pub same : OnErr answer (new ≡ old)
  pub good : IsTrue (value_ok (string_bytes pair.1)) → IfErr answer IsMemory
  pub nul :
      contains_key old.names (string_bytes pair.0) ≡ false → value_ok (string_bytes pair.1) ≡ false →
      MatchResult answer (λ _. ⊥) (IsNulOf (string_bytes pair.0))

-- a load that keeps values sets a name where it is absent
sets-absent : {A : Type 0} (names : Texts) (key : String A) →
    sets Keep (values_of names) (chars (string_bytes key)) ≡ not (contains_key names (string_bytes key))
sets-absent names key = is_none-contains names (string_bytes key) _ (IsUtf8-string_bytes key) refl

-- the answer of a load for that of `set_absent`
abbrev pub settled : {A : Type 0} → Result Bool (Error A) → Result (Unit {0}) (Error A)
settled (Ok absent) = Ok tt
settled (Err e) = Err e

-- setting an absent name sets it as a load does that keeps values
pub absent_sets : {A : Type 0} {old new : Env} {pair : String A × String A} (answer : Result Bool (Error A)) →
    SetAbsentBy old new pair answer → SetsIn Keep old pair (settled answer) new
absent_sets {old = old} {pair = pair} (Ok absent) by = record {
  kept = λ no. (refl, (by.kept (not-false _ (sym (sets-absent old.names pair.0) ∙ no))).1);
  ok = λ set. (by.ok (not-true _ (sym (sets-absent old.names pair.0) ∙ set))).1;
  same = tt;
  good = λ _. tt;
  nul = λ set. by.nul (not-true _ (sym (sets-absent old.names pair.0) ∙ set));
}
absent_sets {old = old} {pair = pair} (Err e) by = record {
  kept = λ no. (let kept = by.kept (not-false _ (sym (sets-absent old.names pair.0) ∙ no)) in absurd (search rules));
  ok = λ _. tt;
  same = by.same;
  good = by.good;
  nul = λ set. by.nul (not-true _ (sym (sets-absent old.names pair.0) ∙ set));
}

-- what is set is set by the call `set`
set_by : {A : Type 0} {mode : Mode} {old new : Env} {pair : String A × String A}
    {answer : Result (Unit {0}) (Error A)} →
    sets mode (values_of old.names) (chars (string_bytes pair.0)) ≡ true → SetsIn mode old pair answer new →
    SetBy old new pair answer
set_by set by = record { ok = by.ok set; same = by.same; good = by.good; nul = by.nul set }

-- what a mode answers to the pair of a declaration is what a load of its line answers and leaves
pub set_loaded : {A : Type 0} (mode : Mode) (remembered : Remembered) {dialect : Dialect} {line : List ℕ}
    {old new : Env} {declaration : Declaration} {pair : String A × String A} {answer : Result (Unit {0}) (Error A)}
    (is : IsDeclared dialect (names_of old.names remembered) line declaration) →
    IsPairOf (names_of old.names remembered) declaration is.pieces pair → SetsIn mode old pair answer new →
    LoadsLine mode dialect remembered line old.names answer new.names
set_loaded {A = A} mode remembered {dialect} {line} {old} {new} {pair = pair} {answer} is are by =
    by_set (sets mode (values_of old.names) (chars (string_bytes pair.0))) refl
  where
    value : List ℕ
    value = meaning (names_of old.names remembered) is.pieces

    spelled : chars (string_bytes pair.1) ≡ value
    spelled = chars-spelled (string_bytes pair.1) value (IsUtf8-string_bytes pair.1) are.value

    good : (has : Bool) → has_nul value ≡ has → value_ok (string_bytes pair.1) ≡ not has
    good has h = rw (← h, ← spelled) (value_ok-chars (string_bytes pair.1) (IsUtf8-string_bytes pair.1))

    at : sets mode (values_of old.names) (chars (string_bytes pair.0)) ≡ true →
        (answer : Result (Unit {0}) (Error A)) (has : Bool) → has_nul value ≡ has → SetBy old new pair answer →
        LoadsLine mode dialect remembered line old.names answer new.names
    at set (Ok done) true h by = absurd (by.nul (good true h))
    at set (Ok done) false h by = declared_loaded mode remembered is (rw are.key at set) h (record {
      values = λ n. rw (by.ok, ← are.key, ← spelled) (values_of-insert old.names _ _ (IsUtf8-string_bytes pair.0) n);
      is_answer = tt;
    })
    at set (Err e) true h by = declared_loaded mode remembered is (rw are.key at set) h (record {
      values = λ n. rw by.same;
      is_answer =
          let same = chars-key (string_bytes pair.0) (IsUtf8-string_bytes pair.0) (rw are.key is.statement.is_key) in
          rw (← are.key, same) (by.nul (good true h));
    })
    at set (Err e) false h by = inl (by.good (good false h), rw by.same)

    by_set : (is_set : Bool) → sets mode (values_of old.names) (chars (string_bytes pair.0)) ≡ is_set →
        LoadsLine mode dialect remembered line old.names answer new.names
    by_set true set = at set answer (has_nul value) refl (set_by set by)
    by_set false other = rw ((by.kept other).0, (by.kept other).1) (declared_loaded mode remembered is
        (rw are.key at other) refl (record { values = λ n. refl; is_answer = tt }))

-- what holds where a name is set, and where nothing changes, holds of what a mode leaves
by_mode : {A : Type 0} {mode : Mode} {old new : Env} {pair : String A × String A}
    {answer : Result (Unit {0}) (Error A)} (P : Env → Type 0) → SetsIn mode old pair answer new →
    (sets mode (values_of old.names) (chars (string_bytes pair.0)) ≡ true →
    P (record old { names = insert old.names (string_bytes pair.0) (string_bytes pair.1) })) →
    P old → P new
by_mode {mode = mode} {old} {new} {pair} {answer} P by inserted same =
    at (sets mode (values_of old.names) (chars (string_bytes pair.0))) answer refl by
  where
    at : (is_set : Bool) (answer : Result (Unit {0}) (Error _)) →
        sets mode (values_of old.names) (chars (string_bytes pair.0)) ≡ is_set → SetsIn mode old pair answer new →
        P new
    at true (Ok done) set by = rw (by.ok set) (inserted set)
    at false (Ok done) other by = rw (by.kept other).1 same
    at is_set (Err e) set by = rw by.same same

-- a load that keeps values keeps the names that are there
pub set_keeps : {A : Type 0} {mode : Mode} {old new : Env} {pair : String A × String A}
    {answer : Result (Unit {0}) (Error A)} → SetsIn mode old pair answer new → mode ≡ Keep →
    KeepsNames old.names new.names
set_keeps {old = old} {pair = pair} by keep =
    by_mode (λ new. KeepsNames old.names new.names) by
    (λ set.
    keeps_insert old.names old.names (string_bytes pair.0) (string_bytes pair.1) (λ k there. refl)
    (not-true _ (sym (sets-absent old.names pair.0) ∙ rw keep at set)))
    (λ k there. refl)

-- only keys change, where the key of a line is set
pub set_changes : {A : Type 0} {mode : Mode} {old new : Env} {pair : String A × String A}
    {answer : Result (Unit {0}) (Error A)} → is_key (chars (string_bytes pair.0)) ≡ true →
    SetsIn mode old pair answer new → ChangesOnlyKeys old new
set_changes {old = old} {pair = pair} is by = by_mode (λ new. ChangesOnlyKeys old new) by
    (λ set. record {
      keys =
          changes_keys-insert old.names old.names (string_bytes pair.0) (string_bytes pair.1) (λ n other. refl)
          (IsUtf8-string_bytes pair.0) is;
      mark = refl;
    })
    (search rules)
