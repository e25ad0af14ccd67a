-- What becomes of a file that has some bytes already, and which words are taken.
use Rattle.std.proofs.Common.{◌≡◌, ◌≢◌, ◌⊎◌, ◌<◌, ◌≤◌, ◌++◌, ◌∙◌, ℕ, suc, zero, List, [], ◌∷◌, Option, Some, Ok}
use Rattle.std.proofs.Common.{Err, Result, ap, arith, codes, inl, inr, length, refl, sym, true, false, subst}
use Rattle.std.proofs.lemmas.Bool.{cases_Bool}
use Rattle.std.proofs.lemmas.Slice.Eq.{bytes_eq-Decides}
use Rattle.std.specs.Prelude.{slice_get, string_bytes}
use Rattle.std.specs.Str.{bytes_eq}
use Rattle.std.specs.declared.string.String.{String}
use Rattle.std.specs.declared.vec.Vec.{Vec}
use Rattle.clap.specs.Words.{IsAmong, Text, fault_of, matches_of}
use Rattle.dotenvy_words.specs.Found.{texts}
use Rattle.dotenvy_words.specs.Refused.{HasMistake}
use Rattle.dotenvy_base.specs.Source.{SinkTold}
use Rattle.dotenvy_edit_command.specs.declared.failure.Failure.{Failure}
use Rattle.dotenvy_edit_command.specs.declared.failure.Failure.TheVariants as failure
use Rattle.dotenvy_streams.specs.Telling.{Says}
use Rattle.dotenvy_edit_command.specs.Ends.{IsWrongCall, RefusesCall, SaysFailure, memory_line}
use Rattle.dotenvy_edit_command.specs.Failures.{IsMemoryEnd, failure_status}
use Rattle.dotenvy_edit_command.specs.declared.failure.Lacked.TheVariants as lacked
use Rattle.dotenvy_edit_command.specs.declared.failure.Usage.{Usage}
use Rattle.dotenvy_edit_command.specs.declared.failure.Usage.TheVariants as usage
use Rattle.dotenvy_edit_command.specs.declared.step.Unreplaced.{Unreplaced}
use Rattle.dotenvy_edit_command.specs.declared.words.Request.TheVariants.{Act}
use Rattle.dotenvy_edit_command.specs.declared.words.Task.{Task}
use Rattle.dotenvy_edit_command.specs.declared.words.Task.TheVariants as task
use Rattle.dotenvy_edit_command.specs.declared.words.Words.{Words}
use Rattle.dotenvy_edit_command.specs.Answers.{AreTaken, IsCommandUsage, IsRequestOf, IsTaskOf, IsUsageEnd}
use Rattle.dotenvy_edit_command.specs.Answers.{IsUsageOf, Takes}
use Rattle.dotenvy_edit_command.specs.Replacing.{Known, Replaces}
use Rattle.dotenvy_edit_command.specs.Tasks.{PutsBytes}
use Rattle.dotenvy_edit_command.specs.Words.{command_of, editor, is_command, words_of}

-- two texts are the same, or not
same_or_not : (one other : List ℕ) → (one ≡ other) ⊎ (one ≢ other)
same_or_not one other =
    let decides = bytes_eq-Decides one other in
    elim (cases_Bool (bytes_eq one other)) [
      | inl is ↦ inl (decides.0 is)
      | inr not ↦ inr (λ is. let never = decides.1 is in cc)
    ]

-- a file that has these bytes is given others, or the same
pub puts_some : {A F : Type 0} (known : F → Option Known) (bytes : Vec ℕ A) (new : List ℕ) (before after : F)
    (replaced : Result (Unit {0}) Unreplaced) →
    (Some bytes.items ≡ Some new → (replaced ≡ Ok tt) × (after ≡ before)) →
    (Some bytes.items ≢ Some new → Replaces new (known before) (known after) replaced) →
    PutsBytes (Some bytes) new (known before) (known after) replaced
puts_some known bytes new before after replaced same replaces =
    elim (same_or_not bytes.items new) [
      | inl is ↦ let told = same (ap Some is) in inl (ap Some is, told.0, ap known told.1)
      | inr not ↦ inr (λ is. not cc, replaces (λ is. not cc))
    ]

-- a file and some names are two words at least
two_at_least : {A : Type 0} (file : Text) (names : List (String A)) → names ≢ [] → 2 ≤ length (file ∷ texts names)
two_at_least file [] some = absurd (some refl)
two_at_least file (name ∷ names) some = omega arith

-- a task has as many words as its command takes
pub takes_task : {A : Type 0} (command : Text) (words : List Text) (file : Text) (asked : Task A) →
    IsTaskOf command words file asked → Takes command (length words)
takes_task command words file (task.Set name value) (is, inl (two, none)) =
    inl (is, rw two (omega arith), rw two (omega arith))
takes_task command words file (task.Set name value) (is, inr (word, three, given)) =
    inl (is, rw three (omega arith), rw three (omega arith))
takes_task command words file (task.Get name) (is, two) = inr (inl (is, rw two refl))
takes_task command words file (task.Unset names) (is, more, some) =
    inr (inr (inl (is, rw more (two_at_least file names.items some))))
takes_task command words file (task.Rename old new) (is, three) = inr (inr (inr (is, rw three refl)))

-- a word at a place is one of more words than that
word_inside : (words : List Text) (n : ℕ) (word : Text) → slice_get words n ≡ Some word → n < length words
word_inside [] n word there = cc
word_inside (first ∷ words) zero word there = omega arith
word_inside (first ∷ words) (suc n) word there = let inside = word_inside words n word there in omega (arith, inside)

-- the four commands are different words
commands_differ : (one other : Text) (command : Text) → command ≡ one → command ≡ other → bytes_eq one other ≡ false → ⊥
commands_differ one other command is also differ =
    let same : bytes_eq one other ≡ true = (bytes_eq-Decides one other).1 (sym is ∙ also) in cc

-- a command that has as many words as it takes is not wrong
pub not_wrong : {A : Type 0} (command : Text) (words : List Text) (wrong : Usage A) → Takes command (length words) →
    IsCommandUsage command words wrong → ⊥
not_wrong command words (usage.Word kind word) takes is = is
not_wrong command words usage.NoCommand takes is = is
not_wrong command words (usage.Command shown) takes (none, told) = elim takes [
  | inl set ↦ let never : is_command (codes "set") ≡ false = rw set.0 at none in cc
  | inr (inl get) ↦ let never : is_command (codes "get") ≡ false = rw get.0 at none in cc
  | inr (inr (inl unset)) ↦ let never : is_command (codes "unset") ≡ false = rw unset.0 at none in cc
  | inr (inr (inr rename)) ↦ let never : is_command (codes "rename") ≡ false = rw rename.0 at none in cc
]
not_wrong command words (usage.Lacks lacked.File) takes (some, none) = let few = ap length none in elim takes [
  | inl set ↦ let enough = set.1 in omega (arith, few, enough)
  | inr (inl get) ↦ let enough = get.1 in omega (arith, few, enough)
  | inr (inr (inl unset)) ↦ let enough = unset.1 in omega (arith, few, enough)
  | inr (inr (inr rename)) ↦ let enough = rename.1 in omega (arith, few, enough)
]
not_wrong command words (usage.Lacks lacked.Name) takes (some, (other, one)) = elim takes [
  | inl set ↦ let enough = set.1 in omega (arith, one, enough)
  | inr (inl get) ↦ let enough = get.1 in omega (arith, one, enough)
  | inr (inr (inl unset)) ↦ let enough = unset.1 in omega (arith, one, enough)
  | inr (inr (inr rename)) ↦ let enough = rename.1 in omega (arith, one, enough)
]
not_wrong command words (usage.Lacks lacked.Old) takes (some, (rename, one)) = elim takes [
  | inl set ↦ let enough = set.1 in omega (arith, one, enough)
  | inr (inl get) ↦ let enough = get.1 in omega (arith, one, enough)
  | inr (inr (inl unset)) ↦ let enough = unset.1 in omega (arith, one, enough)
  | inr (inr (inr rename)) ↦ let enough = rename.1 in omega (arith, one, enough)
]
not_wrong command words (usage.Lacks lacked.New) takes (some, (rename, two)) = elim takes [
  | inl set ↦ commands_differ (codes "rename") (codes "set") command rename set.0 refl
  | inr (inl get) ↦ commands_differ (codes "rename") (codes "get") command rename get.0 refl
  | inr (inr (inl unset)) ↦ commands_differ (codes "rename") (codes "unset") command rename unset.0 refl
  | inr (inr (inr is)) ↦ let enough = is.1 in omega (arith, two, enough)
]
not_wrong command words (usage.Unexpected shown) takes (most, word, inl (get, two), there, told) =
    let inside = word_inside words most word there in
    elim takes [
      | inl set ↦ commands_differ (codes "get") (codes "set") command get set.0 refl
      | inr (inl is) ↦ let enough = is.1 in omega (arith, two, inside, enough)
      | inr (inr (inl unset)) ↦ commands_differ (codes "get") (codes "unset") command get unset.0 refl
      | inr (inr (inr rename)) ↦ commands_differ (codes "get") (codes "rename") command get rename.0 refl
    ]
not_wrong command words (usage.Unexpected shown) takes (most, word, inr (inl set, three), there, told) =
    let inside = word_inside words most word there in
    elim takes [
      | inl is ↦ let enough = is.2 in omega (arith, three, inside, enough)
      | inr (inl get) ↦ commands_differ (codes "set") (codes "get") command set get.0 refl
      | inr (inr (inl unset)) ↦ commands_differ (codes "set") (codes "unset") command set unset.0 refl
      | inr (inr (inr rename)) ↦ commands_differ (codes "set") (codes "rename") command set rename.0 refl
    ]
not_wrong command words (usage.Unexpected shown) takes (most, word, inr (inr rename, three), there, told) =
    let inside = word_inside words most word there in
    elim takes [
      | inl set ↦ commands_differ (codes "rename") (codes "set") command rename set.0 refl
      | inr (inl get) ↦ commands_differ (codes "rename") (codes "get") command rename get.0 refl
      | inr (inr (inl unset)) ↦ commands_differ (codes "rename") (codes "unset") command rename unset.0 refl
      | inr (inr (inr is)) ↦ let enough = is.1 in omega (arith, three, inside, enough)
    ]

-- no mistake is in words that `clap` takes
mistakes_none : (words : List Text) → fault_of editor words ≡ [] → HasMistake editor words → ⊥
mistakes_none words none (found, (unnamed, among)) =
    let never : IsAmong found [] = rw none at among in absurd never

-- two values that are there and the same
some_same : (one other : Text) → Some one ≡ Some other → one ≡ other
some_same one other is = cc

-- the command that was found is the one that takes these words
same_command : (words : List Text) (command : Text) → AreTaken words →
    command_of (matches_of editor words) ≡ Some command → Takes command (length (words_of (matches_of editor words)))
same_command words command (fine, (other, found, takes)) is =
    let same : other ≡ command = some_same other command (sym found ∙ is) in rw (← same) takes

-- words that are taken are not wrong
pub taken_not_wrong : {A : Type 0} (words : List Text) (wrong : Usage A) → AreTaken words → IsUsageOf words wrong → ⊥
taken_not_wrong words (usage.Word kind word) taken is = mistakes_none words taken.0 is.0
taken_not_wrong words usage.NoCommand taken (fine, none) = let some = taken.1.1 in cc
taken_not_wrong {A = A} words (usage.Command shown) taken (fine, (command, is, wrong)) =
    not_wrong {A = A} command _ (usage.Command shown) (same_command words command taken is) wrong
taken_not_wrong {A = A} words (usage.Lacks word) taken (fine, (command, is, wrong)) =
    not_wrong {A = A} command _ (usage.Lacks word) (same_command words command taken is) wrong
taken_not_wrong {A = A} words (usage.Unexpected shown) taken (fine, (command, is, wrong)) =
    not_wrong {A = A} command _ (usage.Unexpected shown) (same_command words command taken is) wrong

-- where words are taken, only an allocation can fail
pub taken_fails : {A : Type 0} (words : List Text) → AreTaken words → (failed : Failure A) →
    IsUsageEnd (IsUsageOf words) failed → IsMemoryEnd failed
taken_fails words taken (failure.Usage wrong) is = absurd (taken_not_wrong words wrong taken is)
taken_fails words taken (failure.Memory refused) is = tt
taken_fails words taken other is = absurd is

-- a failed allocation is said on one line
memory_said : {A E : Type 0} (told : E → SinkTold) (old new : E) (line : Text) →
    (line ≡ memory_line) ⊎ (line ≡ codes "dotenvy_edit: " ++ (codes "error: out of memory" ++ codes "\n")) →
    Says A told old new line → Says A told old new memory_line
memory_said {A = A} told old new line (inl is) says = subst (Says A told old new) is says
memory_said {A = A} told old new line (inr is) says = subst (Says A told old new) is says

-- where the call is wrong, but is not refused, an allocation failed
pub refusal_failed : {A E : Type 0} (words : List Text) (told : E → SinkTold) (old new : E) (failed : Failure A) →
    (IsWrongCall failed → ⊥) → IsUsageEnd (IsUsageOf words) failed → SaysFailure told old new failed →
    RefusesCall {A = A} words told old new (Ok (failure_status failed))
refusal_failed words told old new (failure.Usage call) right is says = absurd (right tt)
refusal_failed words told old new (failure.Memory refused) right is (line, said, says) =
    (refl, memory_said told old new line said says)
refusal_failed words told old new other right is says = absurd is

-- a wrong call, of words that are wrong
pub refused_call : {A E : Type 0} (words : List Text) (told : E → SinkTold) (old new : E) (call : Usage A) →
    IsUsageEnd (IsUsageOf words) (failure.Usage call) → RefusesCall words told old new (Err call)
refused_call words told old new call is = is

-- words that ask for a task are taken
pub taken_by : {A : Type 0} (words : List Text) (asked : Words A) → IsRequestOf words (Act asked) → AreTaken words
taken_by words asked (fine, (command, found, is, options)) =
    (fine, (command, found, takes_task command _ (string_bytes asked.file) asked.task is))

-- a failed allocation is no wrong call
pub memory_right : {A : Type 0} (failed : Failure A) → IsMemoryEnd failed → IsWrongCall failed → ⊥
memory_right (failure.Usage call) memory wrong = memory
memory_right other memory wrong = wrong
