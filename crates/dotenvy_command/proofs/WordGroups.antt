-- Words that are groups and what follows them: one group more, and the ways to end.
use Rattle.std.proofs.Common.{◌≡◌, ℕ, Bool, true, false, ◌||◌, List, [], ◌∷◌, ◌++◌, append_assoc}
use Rattle.std.proofs.Common.{append-nil, length, Result, Ok, Err, refl, ap}
use Rattle.std.specs.Prelude.{string_bytes, if◌then◌else◌, IsErrAnd}
use Rattle.std.specs.List.{AllZip, flat_map, list_any}
use Rattle.std.proofs.lemmas.List.{nil_from_length}
use Rattle.std.proofs.Math.Bool.{or-false}
use Rattle.std.proofs.lemmas.Grind.{flat_map-append}
use Rattle.std.proofs.lemmas.List.Folds.{list_any-append}
use Rattle.std.specs.declared.string.String.{String}
use Rattle.dotenvy.specs.Dialect.TheVariants.{V15, Next}
use Rattle.dotenvy_command.specs.declared.command_line.CommandLine.{CommandLine as Line}
use Rattle.dotenvy_command.specs.declared.failure.Usage.{Usage}
use Rattle.dotenvy_command.specs.declared.failure.Usage.TheVariants as refusal
use Rattle.dotenvy_command.specs.Answers.{texts, SaysAnswer, AnswersWords}
use Rattle.dotenvy_command.specs.Failures.{IsMemoryFailure}
use Rattle.dotenvy_command.proofs.WordsOnce.{usage_exists}
use Rattle.dotenvy_command.specs.inside.FirstGroup.{AreCommand, GroupBeginsWith, IsUnknown}
use Rattle.dotenvy_command.specs.Words.{Form, Group}
use Rattle.dotenvy_command.specs.Words.{WordsEnd, no_ending, missing_file, unknown, command}
use Rattle.dotenvy_command.specs.Words.{file_word, AreGroups, IsGroup, IsWordsEnd, group_words}
use Rattle.dotenvy_command.specs.Words.{ending_words, is_list, is_next, CommandLine}
use Rattle.dotenvy_command.specs.Words.{MissingCommand, MissingFile, UnknownOption, command_line}
use Rattle.dotenvy_command.specs.Words.{with_group, answer_to, HasUsage}

-- these words are groups and what is left, and the line is that of the groups
abbrev pub SoFar : List (List ℕ) → List (List ℕ) → CommandLine → Type 0
SoFar words rest line =
    (groups : List Group) × AreGroups groups × (words ≡ flat_map group_words groups ++ rest)
    × (line ≡ command_line groups [])

-- groups and one more are groups
more_groups : (groups : List Group) (group : Group) → AreGroups groups → IsGroup group →
    AreGroups (groups ++ group ∷ [])
more_groups [] group are is = (is, tt)
more_groups (first ∷ groups) group (first_is, are) is = (first_is, more_groups groups group are is)

-- the dialect with one group more
more_dialect : (some more : Bool) →
    (if some || more then Next else V15) ≡ (if more then Next else (if some then Next else V15))
more_dialect true true = refl
more_dialect true false = refl
more_dialect false true = refl
more_dialect false false = refl

-- the line of groups and of one more
more_line : (groups : List Group) (group : Group) →
    command_line (groups ++ group ∷ []) [] ≡ with_group (command_line groups []) group
more_line groups group = simp (list_any-append, flat_map-append, append-nil, or-false)
    (rw (more_dialect (list_any is_next groups) (is_next group)) refl)

-- one group more
pub one_more : (words rest after : List (List ℕ)) (line : CommandLine) (group : Group) → SoFar words rest line →
    IsGroup group → rest ≡ group_words group ++ after →
    SoFar words after (with_group line group)
one_more words rest after line group (groups, are, spelled, is_line) is joins = (
  groups ++ group ∷ [],
  more_groups groups group are is,
  rw (spelled, joins) (simp (flat_map-append, append-nil, append_assoc)),
  rw (is_line, more_line groups group) refl,
)

-- groups and an ending have their answer
ends_by : (words rest : List (List ℕ)) (line : CommandLine) (ending : WordsEnd) → (so_far : SoFar words rest line) →
    IsWordsEnd ending → rest ≡ ending_words ending →
    HasUsage words (answer_to so_far.0 ending)
ends_by words rest line ending (groups, are, spelled, is_line) is joins =
    (groups, ending, record { are_groups = are; is_ending = is; spelled = rw (spelled, joins) refl }, refl)

-- no word is left, and no list is asked for
pub ends_without_command : (words rest : List (List ℕ)) (line : CommandLine) → SoFar words rest line → rest ≡ [] →
    line.list ≡ false → HasUsage words (Err MissingCommand)
ends_without_command words rest line so_far none unlisted =
    let listed : list_any is_list so_far.0 ≡ false = rw (so_far.3) at unlisted in
    rw listed at (ends_by words rest line no_ending so_far tt none)

-- the words are read: what is left is the command, and there is one, or a list is asked for
pub ends : (words rest : List (List ℕ)) (line : CommandLine) → SoFar words rest line → AreCommand rest →
    (rest ≡ [] → line.list ≡ true) →
    HasUsage words (Ok (record line { command = rest }))
ends words [] line so_far are listed =
    let lists : list_any is_list so_far.0 ≡ true = rw (so_far.3) at listed refl in
    rw (so_far.3, lists) (rw lists at (ends_by words [] line no_ending so_far tt refl))
ends words (word ∷ others) line so_far are listed =
    rw so_far.3 (ends_by words (word ∷ others) line (command word others) so_far are refl)

-- whatever the words are, a failed allocation may be returned
pub answers_memory : {A : Type 0} (words : List (List ℕ)) (result : Result (Line A) (Usage A)) →
    IsErrAnd result IsMemoryFailure → AnswersWords words result
answers_memory {A = A} words (Err (refusal.Memory error)) is =
    let has = usage_exists words in
    let says : SaysAnswer {A = A} has.0 (Err (refusal.Memory error)) =
    elim has.0 as (λ answer. SaysAnswer {A = A} answer (Err (refusal.Memory error)))
    [ Ok line ↦ tt | Err usage ↦ tt ] in
    (has.0, has.1, says)
answers_memory words result is = absurd is

-- words are refused where what is left of them is
pub answers_refused : {A : Type 0} (words rest : List (List ℕ)) (line : CommandLine) (usage : Usage A) →
    SoFar words rest line →
    GroupBeginsWith rest (Err usage) → AnswersWords words (Err usage)
answers_refused words rest line refusal.MissingCommand so_far begins = absurd begins
answers_refused words rest line refusal.MissingFile so_far (form, is) =
    (Err MissingFile, ends_by words rest line (missing_file form) so_far tt is, refl)
answers_refused words rest line (refusal.UnknownOption text) so_far (others, is, unknown_is) = (
  Err (UnknownOption (string_bytes text)),
  ends_by words rest line (unknown (string_bytes text) others) so_far unknown_is is,
  refl,
)
answers_refused words rest line (refusal.Memory error) so_far begins =
    answers_memory words (Err (refusal.Memory error)) tt

-- copies of words have the same texts
pub copied : {A : Type 0} (words copies : List (String A)) →
    AllZip (λ word copy. string_bytes copy ≡ string_bytes word) words copies → texts copies ≡ texts words
copied [] [] same = refl
copied [] (copy ∷ copies) same = absurd same
copied (word ∷ words) [] same = absurd same
copied (word ∷ words) (copy ∷ copies) (first, others) = rw (first, copied words copies others) refl

-- no words have no texts
pub no_texts : {A : Type 0} (words : List (String A)) → length words ≡ 0 → texts words ≡ []
no_texts words none = ap texts (nil_from_length words none)

-- words without texts are none
pub no_words : {A : Type 0} (words : List (String A)) → texts words ≡ [] → length words ≡ 0
no_words [] none = refl
no_words (word ∷ words) none = cc
