-- Names that are removed, one after another.
use Rattle.std.proofs.Common.{◌≡◌, ◌≢◌, ◌<◌, ◌+◌, ◌++◌, ℕ, Bool, true, false, ◌||◌, List, [], ◌∷◌, Ok, Err}
use Rattle.std.proofs.Common.{ap, append_assoc, arith, drop, get_or, inl, inr, length, refl, string_bytes, sym}
use Rattle.std.proofs.Common.{take, ◌∙◌}
use Rattle.std.specs.Prelude.{bytes_eq, encode_utf8_all}
use Rattle.std.specs.Str.{IsUtf8, chars}
use Rattle.std.proofs.lemmas.Slice.Eq.{bytes_eq-Decides}
use Rattle.std.proofs.lemmas.Str.{encodes-chars}
use Rattle.std.proofs.lemmas.List.{drop_more, map_push, take_more}
use Rattle.std.specs.declared.string.String.{String}
use Rattle.clap.specs.Words.{Text}
use Rattle.dotenvy_format.specs.declared.dialect.Dialect.{Dialect}
use Rattle.dotenvy_format.specs.Marks.{without_mark}
use Rattle.dotenvy_editor.specs.Edits.{Unsets}
use Rattle.dotenvy_words.specs.Found.{texts}
use Rattle.dotenvy_edit_command.specs.declared.edits.Edit.{Edit}
use Rattle.dotenvy_edit_command.specs.declared.failure.Failure.{Failure}
use Rattle.dotenvy_edit_command.specs.declared.failure.Failure.TheVariants as failure
use Rattle.dotenvy_edit_command.specs.declared.words.How.{How}
use Rattle.dotenvy_edit_command.specs.Edited.{AnswersUnset, RefusesEach, UnsetsEach, each_once, is_among}
use Rattle.dotenvy_edit_command.specs.Failures.{IsMemoryEnd}
use Rattle.dotenvy_edit_command.proofs.KeptUnsets.{CanUnset, could_still, refuses_none}

-- the texts from a place on
pub texts_from : {A : Type 0} (names : List (String A)) (n : ℕ) (name : String A) → n < length names →
    name ≡ get_or names n name → texts (drop n names) ≡ string_bytes name ∷ texts (drop (n + 1) names)
texts_from names n name inside is = rw (drop_more names n name inside, ← is) refl

-- the texts up to a place
pub texts_to : {A : Type 0} (names : List (String A)) (n : ℕ) (name : String A) → n < length names →
    name ≡ get_or names n name → texts (take (n + 1) names) ≡ texts (take n names) ++ string_bytes name ∷ []
texts_to names n name inside is =
    rw (take_more names n name inside, ← is) (map_push string_bytes (take n names) name)

-- a name that came before is passed over
pub passed : (earlier : List Text) (name : Text) (rest : List Text) → is_among earlier name ≡ true →
    each_once earlier (name ∷ rest) ≡ each_once (earlier ++ name ∷ []) rest
passed earlier name rest is = rw is refl

-- a name that did not is the next one
pub next_name : (earlier : List Text) (name : Text) (rest : List Text) → is_among earlier name ≡ false →
    each_once earlier (name ∷ rest) ≡ name ∷ each_once (earlier ++ name ∷ []) rest
next_name earlier name rest not = rw not refl

-- the removal of one name more
pub made_next : {A : Type 0} (how : How) (file : Text) (bytes left next : List ℕ) (earlier rest all : List Text)
    (name said : Text) (told : Edit A) → is_among earlier name ≡ false →
    AnswersUnset how file bytes name (Ok told) → Unsets how.dialect (chars name) left next →
    ((new : List ℕ) (later : Text) → UnsetsEach A how file bytes (each_once earlier (name ∷ rest)) left new later →
    UnsetsEach A how file bytes all bytes new (said ++ later)) → (new : List ℕ) (later : Text) →
    UnsetsEach A how file bytes (each_once (earlier ++ name ∷ []) rest) next new later →
    UnsetsEach A how file bytes all bytes new ((said ++ string_bytes told.said) ++ later)
made_next how file bytes left next earlier rest all name said told not edits unsets made new later rests =
    rw (append_assoc said (string_bytes told.said) later)
    (made new (string_bytes told.said ++ later)
    (rw (next_name earlier name rest not) (told, edits, (next, unsets, (later, rests, refl)))))

-- a removal that is refused, after one name more
pub refused_later : {A : Type 0} (how : How) (file : Text) (bytes : List ℕ) (earlier rest all : List Text)
    (name : Text) (told : Edit A) → is_among earlier name ≡ false → AnswersUnset how file bytes name (Ok told) →
    ((failed : Failure A) → RefusesEach how file bytes (each_once earlier (name ∷ rest)) failed →
    RefusesEach how file bytes all failed) → (failed : Failure A) →
    RefusesEach how file bytes (each_once (earlier ++ name ∷ []) rest) failed →
    RefusesEach how file bytes all failed
refused_later how file bytes earlier rest all name told not edits refused failed rests =
    refused failed (rw (next_name earlier name rest not) (inr (told, edits, rests)))

-- the next name's removal is refused
pub refused_next : {A : Type 0} (how : How) (file : Text) (bytes : List ℕ) (earlier rest all : List Text)
    (name : Text) → is_among earlier name ≡ false →
    ((failed : Failure A) → RefusesEach how file bytes (each_once earlier (name ∷ rest)) failed →
    RefusesEach how file bytes all failed) → (failed : Failure A) →
    AnswersUnset how file bytes name (Err failed) → RefusesEach how file bytes all failed
refused_next how file bytes earlier rest all name not refused failed answers =
    refused failed (rw (next_name earlier name rest not) (inl answers))

-- What is left can't refuse a name that the whole file doesn't refuse.
-- names other than these can be unset in what is left where they can in the whole file
abbrev pub Keeps : Dialect → List ℕ → List Text → List ℕ → Type 0
Keeps dialect bytes earlier left =
    (other : Text) → IsUtf8 other → is_among earlier other ≡ false →
    CanUnset dialect (chars other) (without_mark bytes) → CanUnset dialect (chars other) (without_mark left)

-- a text is one of some and another, or of the some
among_more : (earlier : List Text) (name other : Text) →
    is_among (earlier ++ name ∷ []) other ≡ (is_among earlier other || bytes_eq name other)
among_more [] name other = grind arith
among_more (first ∷ earlier) name other =
    let more = among_more earlier name other in
    rw more (grind arith)

-- where neither is so, each is not
neither : (a b : Bool) → (a || b) ≡ false → (a ≡ false) × (b ≡ false)
neither false b h = (refl, h)
neither true b h = cc

-- other texts have other characters
chars_differ : (name other : Text) → IsUtf8 name → IsUtf8 other → bytes_eq name other ≡ false →
    chars name ≢ chars other
chars_differ name other u v differs e =
    let same : name ≡ other = sym (encodes-chars name u) ∙ ap encode_utf8_all e ∙ encodes-chars other v in
    let is : bytes_eq name other ≡ true = (bytes_eq-Decides name other).1 same in cc

-- the same after one name more, which is unset
pub keeps_next : (dialect : Dialect) (bytes left next : List ℕ) (earlier : List Text) (name : Text) → IsUtf8 name →
    Unsets dialect (chars name) left next → Keeps dialect bytes earlier left →
    Keeps dialect bytes (earlier ++ name ∷ []) next
keeps_next dialect bytes left next earlier name u unsets keeps other v not can =
    let (apart, differs) =
    neither (is_among earlier other) (bytes_eq name other) (sym (among_more earlier name other) ∙ not) in
    could_still dialect (chars name) (chars other) left next (chars_differ name other u v differs) unsets
    (keeps other v apart can)

-- the same after a name that came before
pub keeps_passed : (dialect : Dialect) (bytes left : List ℕ) (earlier : List Text) (name : Text) →
    Keeps dialect bytes earlier left → Keeps dialect bytes (earlier ++ name ∷ []) left
keeps_passed dialect bytes left earlier name keeps other v not can =
    let (apart, differs) =
    neither (is_among earlier other) (bytes_eq name other) (sym (among_more earlier name other) ∙ not) in
    keeps other v apart can

-- a name that can be unset in what is left is refused for memory alone
pub memory_only : {A : Type 0} (how : How) (file : Text) (left : List ℕ) (name : Text) (failed : Failure A) →
    CanUnset how.dialect (chars name) (without_mark left) → AnswersUnset how file left name (Err failed) →
    IsMemoryEnd failed
memory_only how file left name (failure.Usage wrong) can is = absurd is
memory_only how file left name (failure.File shown error) can is = absurd is
memory_only how file left name (failure.Input error) can is = absurd is
memory_only how file left name (failure.Value place) can is = absurd is
memory_only how file left name (failure.Refused place refusal) can (at, refuses) =
    absurd (refuses_none how.dialect (chars name) left can refusal.reason refusal.line refuses)
memory_only how file left name (failure.Stops place line) can is = absurd is
memory_only how file left name (failure.Unreplaced shown told) can is = absurd is
memory_only how file left name (failure.Write error) can is = absurd is
memory_only how file left name (failure.Memory refused) can is = tt
