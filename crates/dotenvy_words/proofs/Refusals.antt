-- Which words are refused. The words are those of a command line with this description.
use Rattle.std.proofs.Common.{◌≡◌, ◌≢◌, ◌+◌, ◌-◌, ◌≤◌, ◌⊎◌, ℕ, Bool, false, true, List, [], ◌∷◌, Some, arith}
use Rattle.std.proofs.Common.{ap, inl, inr, length, refl, rules, take}
use Rattle.std.proofs.lemmas.List.{take_all}
use Rattle.std.specs.Prelude.{slice_get}
use Rattle.std.specs.Str.{chars}
use Rattle.clap.specs.Words.{App, IsAmong, Kinds, Text, fault_of}
use Rattle.clap.specs.declared.error.kind.ErrorKind.{ErrorKind}
use Rattle.clap.specs.declared.error.kind.ErrorKind.TheVariants as kind
use Rattle.dotenvy_reports.specs.OneLine.{on_one_line}
use Rattle.dotenvy_words.specs.Asked.{AskForOnly}
use Rattle.dotenvy_words.specs.Refused.{FirstRefused, HasMistake, IsFirstRefused, IsKindTold, IsMistakeOf}
use Rattle.dotenvy_words.specs.Refused.{IsRefused, StayRefused, is_mistake}

-- words that are refused are so up to their end, also with a word more, as there is none
pub stays_at_end : (line : App) (words : List Text) (count : ℕ) → length words ≤ count → fault_of line words ≢ [] →
    StayRefused line words count true
stays_at_end line words count short refused =
    (rw (take_all count words short) refused, rw (take_all (count + 1) words (omega (arith, short))) refused)

-- words that are refused up to a place stay so if they are refused with the word there
pub stay_by_next : (line : App) (words : List Text) (place : ℕ) → fault_of line (take place words) ≢ [] →
    (found : Bool) → IsRefused (fault_of line (take (place + 1) words)) found → StayRefused line words place found
stay_by_next line words place first true next = (first, next)
stay_by_next line words place first false next = inr next

-- words that aren't refused with the word at a place, or without it, aren't refused without it if they are with it
taken_before : (line : App) (words : List Text) (place : ℕ) → StayRefused line words place false →
    fault_of line (take (place + 1) words) ≢ [] → fault_of line (take place words) ≡ []
taken_before line words place (inl before) refused = before
taken_before line words place (inr with_it) refused = absurd (refused with_it)

-- where words don't stay refused from a place on, and from the next place on do, the word there is the first
pub first_at : (line : App) (words : List Text) (word : Text) (taken refused : ℕ) → taken ≤ refused →
    refused - taken ≤ 1 → StayRefused line words taken false → StayRefused line words refused true →
    slice_get words taken ≡ Some word → IsFirstRefused line words taken word
first_at line words word taken refused order near before after there =
    let apart : taken ≢ refused = λ e. after.0 (taken_before line words refused (rw e at before) after.1) in
    let next : refused ≡ taken + 1 = omega (arith, order, near, apart) in
    let last : refused + 1 ≡ taken + 2 = omega (arith, next) in
    let is_refused = rw next at after.0 in
    let first : FirstRefused line words word = record {
      place = taken;
      there = there;
      before = taken_before line words taken before is_refused;
      refused = is_refused;
      stays = rw last at after.1;
    } in (first, refl)

-- where a kind of error is among some, there are some
pub some_kinds : (found : ErrorKind) (kinds : Kinds) → IsAmong found kinds → kinds ≢ []
some_kinds found [] there = absurd there
some_kinds found (other ∷ kinds) there = search rules

-- words up to the first one that is refused are refused
pub front_refused : (line : App) (words : List Text) (place : ℕ) (word : Text) → IsFirstRefused line words place word →
    fault_of line (take (place + 1) words) ≢ []
front_refused line words place word (first, at) = rw at at first.refused

-- a kind that asks for help or the version is no mistake
pub asks_for_text : (found : ErrorKind) → (found ≡ kind.DisplayHelp) ⊎ (found ≡ kind.DisplayVersion) →
    is_mistake found ≡ false
asks_for_text found (inl help) = ap is_mistake help
asks_for_text found (inr version) = ap is_mistake version

-- words that ask for a text, and for nothing else, have no mistake
pub asked_not_mistaken : (line : App) (words : List Text) (asks : ErrorKind) → AskForOnly line words asks →
    HasMistake line words → ⊥
asked_not_mistaken line words asks asked (found, (unnamed, among)) =
    let there : (found ≡ asks) ⊎ ⊥ = rw asked.1 at among in
    elim there [
      | inl same ↦ unnamed (rw same asked.0)
      | inr never ↦ never
    ]

-- of words of which what refuses the first ones is no mistake, an unknown option is told
pub unknown_told : (line : App) (front : List Text) (other : ErrorKind) → is_mistake other ≡ false →
    IsAmong other (fault_of line front) → IsKindTold line front kind.UnknownArgument
unknown_told line front other untold among = inr (refl, (other, untold, among))

-- the same is told of the same words
pub same_told : (line : App) (front others : List Text) (told : ErrorKind) → others ≡ front →
    IsKindTold line front told → IsKindTold line others told
same_told line front others told same h = rw same h

-- what is told of words is the first word that is refused, and the kind of mistake in the words up to it
pub mistake_told : (line : App) (words : List Text) (place : ℕ) (word shown : Text) (told : ErrorKind) →
    HasMistake line words → IsFirstRefused line words place word →
    IsKindTold line (take (place + 1) words) told → shown ≡ on_one_line (chars word) →
    IsMistakeOf line words told shown
mistake_told line words place word shown told mistaken (first, at) is_told same =
    (mistaken, (word, first, rw at is_told, same))
