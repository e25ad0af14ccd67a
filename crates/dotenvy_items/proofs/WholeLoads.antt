-- A load that was not refused memory is the load of all that is left.
use Rattle.std.proofs.Common.{◌≡◌, ◌∙◌, ℕ, Bool, true, false, ◌&&◌, cond, List, [], ◌∷◌, ◌++◌, length, length-append}
use Rattle.std.proofs.Common.{append_assoc, Result, Ok, Err, refl, sym, ap, inl, inr, ⊎_elim, arith}
use Rattle.std.specs.Prelude.{◌⊎◌}
use Rattle.std.specs.FinMap.{empty}
use Rattle.dotenvy_format.specs.declared.dialect.Dialect.{Dialect}
use Rattle.dotenvy_format.specs.Entries.{Failure, Memory, Nul, Entry, Declares, Fails}
use Rattle.dotenvy_format.specs.Items.{LookUp, meaning}
use Rattle.dotenvy_format.specs.Run.{has_nul}
use Rattle.dotenvy_format.specs.Loads.{Declared, declared_from, load_look_up, override_look_up}
use Rattle.dotenvy_format.specs.Loads.{is_first_of_absent, load_result, override_result}
use Rattle.dotenvy_format.specs.Marks.{without_mark}
use Rattle.dotenvy_format.proofs.loads.LoadsTwice as twice
use Rattle.dotenvy_base.specs.declared.errors.Error.{Error}
use Rattle.dotenvy_base.specs.Environment.{Texts}
use Rattle.dotenvy_base.specs.Errors.{IsMemoryErr}
use Rattle.dotenvy_base.specs.Source.{Ahead}
use Rattle.dotenvy_lines.specs.Reading.{HasEntriesLeft, told_fault}
use Rattle.dotenvy_lines.proofs.LineEntries.{left_exists}
use Rattle.dotenvy_items.specs.Iter.{fresh}
use Rattle.dotenvy_items.specs.Meaning.{values_of, recalled_of}
use Rattle.dotenvy_items.specs.LoadsRest.{IsAnswer, Leaves, Rule}
use Rattle.dotenvy_items.specs.Iteration.{IsReadable}
use Rattle.dotenvy_items.specs.Laws.{LoadsFresh, LoadsAllLeft, LoadTheSame, LoadsAgain}
use Rattle.dotenvy_items.proofs.Iterations.{can_read_fresh}

-- declarations stop at this failure, or before it, and then what follows does not count
stops : (look_up : List (List ℕ × List ℕ) → LookUp) (matters : List (List ℕ × List ℕ) → List ℕ → Bool)
    (earlier : List (List ℕ × List ℕ)) (front others : List Entry) (failure : Failure) →
    ((declared_from look_up matters earlier (front ++ Fails failure ∷ [])).stop ≡ Err failure)
    ⊎ (declared_from look_up matters earlier (front ++ Fails failure ∷ [])
    ≡ declared_from look_up matters earlier (front ++ others))
stops look_up matters earlier [] others failure = inl refl
stops look_up matters earlier (Fails found ∷ front) others failure = inr refl
stops look_up matters earlier (Declares key pieces ∷ front) others failure =
    let value = meaning (look_up earlier) pieces in
    let nul : Declared = record { pairs = earlier; stop = Err (Nul key) } in
    let first = declared_from look_up matters (earlier ++ (key, value) ∷ []) (front ++ Fails failure ∷ []) in
    let second = declared_from look_up matters (earlier ++ (key, value) ∷ []) (front ++ others) in
    elim (matters earlier key && has_nul value) as (λ b.
    (Declared.stop (cond b nul first) ≡ Err failure) ⊎ (cond b nul first ≡ cond b nul second)) [
      | true ↦ inr refl
      | false ↦ stops look_up matters (earlier ++ (key, value) ∷ []) front others failure
    ]

-- a load by this rule answers this failure, or has stopped before it, and then what follows does not count
abbrev StopsFirst : Rule → Type 0
StopsFirst rule =
    (env remembered : LookUp) (front others : List Entry) (failure : Failure) →
    ((rule env remembered (front ++ Fails failure ∷ [])).answer ≡ Err failure)
    ⊎ (rule env remembered (front ++ Fails failure ∷ []) ≡ rule env remembered (front ++ others))

-- an answer that says refused memory is one
memory_said : {A : Type 0} (answer : Result (Unit {0}) (Error A)) → IsAnswer (Err Memory) answer → IsMemoryErr answer
memory_said (Ok done) is = is
memory_said (Err e) is = is

-- where a rule's loads stop at the first failure, one not refused memory is the load of all that is left
loads_all : {A : Type 0} (rule : Rule) → StopsFirst rule → LoadsAllLeft rule A
loads_all rule first s a old new answer entries can has loads granted =
    let load = loads a can.is_told entries has in
    elim load.1 [
      | inl whole ↦ rw whole at load.2
      | inr (inl memory) ↦
          let left = rw memory.ends at load.2 in
          let others = memory.back ++ told_fault a.fault in
          elim (first (values_of old) (recalled_of s.remembered) memory.front others Memory) [
            | inl refused ↦ absurd (granted (memory_said answer (rw refused at left.is_answer)))
            | inr same ↦ rw (memory.cut, append_assoc) (rw same at left)
          ]
      | inr (inr bound) ↦
          let few = can.few in
          let each = bound.each_gave in
          let total = ap length bound.cut in
          absurd (omega (arith, few, each, total, length-append bound.bytes bound.later))
    ]

-- a load that was not refused memory is the load of all that is left
pub load_takes_all : {A : Type 0} → LoadsAllLeft load_result A
load_takes_all = loads_all load_result (λ env remembered front others failure.
    ⊎_elim inl (λ same. inr (rw same))
    (stops (load_look_up env remembered) (is_first_of_absent env) [] front others failure))

-- a `load_override` that was not refused memory is the one of all that is left
pub override_takes_all : {A : Type 0} → LoadsAllLeft override_result A
override_takes_all = loads_all override_result (λ env remembered front others failure.
    ⊎_elim inl (λ same. inr (rw same))
    (stops (override_look_up env remembered) (λ earlier key. true) [] front others failure))

-- a load by a fresh iterator that can read all, by such a rule, is the load of all that its source tells
pub fresh_takes_all : {A : Type 0} {rule : Rule} {dialect : Dialect} {a : Ahead} {old new : Texts}
    {answer : Result (Unit {0}) (Error A)} (entries : List Entry) → LoadsAllLeft rule A → IsReadable a →
    HasEntriesLeft dialect a.fault (without_mark a.bytes) entries → LoadsFresh rule dialect a old answer new →
    Leaves (rule (values_of old) (recalled_of empty) (entries ++ told_fault a.fault)) new answer
fresh_takes_all {dialect = dialect} {a} {old} {new} {answer} entries takes_all can has load =
    takes_all (fresh load.told dialect) a old new answer entries (can_read_fresh dialect load.told a load.is_told can)
    has load.loads load.not_refused

-- two loads of what a source tells agree
load_the_same : {A : Type 0} {rule : Rule} → LoadsAllLeft rule A → LoadTheSame rule A
load_the_same takes_all dialect a old new other answer another can first second =
    let has = left_exists dialect a.fault (without_mark a.bytes) in
    let one = fresh_takes_all has.0 takes_all can has.1 first in
    let two = fresh_takes_all has.0 takes_all can has.1 second in
    (λ name. two.values name ∙ sym (one.values name), (_, one.is_answer, two.is_answer))

-- where no memory is refused, two calls of `load` on what a source tells, from one environment, agree
pub loads_the_same : {A : Type 0} → LoadTheSame load_result A
loads_the_same = load_the_same load_takes_all

-- where no memory is refused, two of `load_override` on what a source tells, from one environment, agree
pub overrides_the_same : {A : Type 0} → LoadTheSame override_result A
overrides_the_same = load_the_same override_takes_all

-- a second load leaves the values as they are
pub loads_again : {A : Type 0} → LoadsAgain A
loads_again dialect a old new newer answer another can first second =
    let has = left_exists dialect a.fault (without_mark a.bytes) in
    let one = fresh_takes_all has.0 load_takes_all can has.1 first in
    let two = fresh_takes_all has.0 load_takes_all can has.1 second in
    let again =
    twice.loads_again (values_of old) (values_of new) (recalled_of empty) (has.0 ++ told_fault a.fault)
    (λ name. sym (one.values name)) in
    (λ name. two.values name ∙ again.0 name, (_, one.is_answer, rw again.1 at two.is_answer))
