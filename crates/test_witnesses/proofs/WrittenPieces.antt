-- Pairs that were written to a sink of turns, and what the pieces of these bytes tell.
use Rattle.std.proofs.Common.{◌≡◌, ◌∙◌, ◌<◌, ℕ, List, [], ◌∷◌, ◌++◌, length, map, refl, ap, inl, inr, append-nil, append_assoc}
use Rattle.std.specs.Prelude.{Some, None, Result, Ok, string_bytes}
use Rattle.std.specs.Str.{chars}
use Rattle.std.specs.declared.string.String.{String}
use Rattle.std.proofs.lemmas.Str.{IsUtf8-string_bytes, scalars-chars}
use Rattle.dotenvy.specs.Error.{Error}
use Rattle.dotenvy.specs.Input.{most_reads}
use Rattle.dotenvy.specs.Dialect.{Dialect}
use Rattle.dotenvy.specs.Environment.{Texts}
use Rattle.dotenvy.specs.Errors.{IsMemoryErr}
use Rattle.dotenvy.specs.Iter.{IsOpen, IterState, fresh}
use Rattle.dotenvy.specs.Iteration.{GivesItems, NoneRefused, SayItems}
use Rattle.dotenvy.specs.Laws.{GivesWritten, LoadsWritten, TellsWritten, until_nul, with_last_values, written_in_turn}
use Rattle.dotenvy.specs.Loads.{override_result}
use Rattle.dotenvy.specs.LoadsRest.{Leaves, LoadsRest}
use Rattle.dotenvy.specs.Meaning.{values_of}
use Rattle.dotenvy.specs.NextItem.{Item}
use Rattle.dotenvy.specs.Output.{Writes}
use Rattle.dotenvy.specs.Source.{Ahead, Told}
use Rattle.dotenvy.specs.Written.{AreWritable, written_bytes}
use Rattle.test_witnesses.specs.declared.sink.Turns.{Turns}
use Rattle.test_witnesses.specs.declared.source.Piece.{Piece}
use Rattle.test_witnesses.specs.Pieces.{ahead_of}
use Rattle.test_witnesses.specs.Turns.{held_by, told_by}
use Rattle.test_witnesses.specs.Writings.{AreWritten, HaveKeys, character_pairs}

-- what a call that went well wrote was appended
pub appended : {A : Type 0} {old new : Turns} {bytes : List ℕ} → Writes {A = A} told_by old new bytes (Ok tt) →
    held_by new ≡ held_by old ++ bytes
appended (inl (refused, same)) = absurd refused
appended (inr sends) =
    let whole = sends.whole in
    let all = sends.appended in
    rw (sends.cut, whole, append-nil) (is_held all)
  where
    is_held : {one other : List ℕ} → Some one ≡ Some other → one ≡ other
    is_held e = cc

-- after one pair the others are left to write
pub one_written : {A : Type 0} (start held : List ℕ) (first : String A × String A)
    (later pairs left : List (String A × String A)) {new : List ℕ} → left ≡ first ∷ later →
    held ++ written_in_turn (character_pairs left) ≡ start ++ written_in_turn (character_pairs pairs) →
    new ≡ held ++ written_bytes ((chars (string_bytes first.0), chars (string_bytes first.1)) ∷ []) →
    new ++ written_in_turn (character_pairs later) ≡ start ++ written_in_turn (character_pairs pairs)
one_written start held first later pairs left is before new = rw (new, append_assoc) (rw is at before)

-- pairs with keys can be written
pub writable : {A : Type 0} (pairs : List (String A × String A)) → HaveKeys pairs → AreWritable (character_pairs pairs)
writable [] have = tt
writable (p ∷ pairs) have =
    let scalars = scalars-chars (string_bytes p.1) (IsUtf8-string_bytes p.1) in
    (rw (have.0, scalars) refl, writable pairs have.1)

-- what a source of these pieces tells
abbrev pub told_of : Ahead → Told
told_of a = record { ahead = Some a; calls = None; references = [] }

-- pieces of what was written tell it
tells_written : {A : Type 0} (pairs : List (String A × String A)) (pieces : List Piece) (a : Ahead) → HaveKeys pairs →
    AreWritten pairs pieces → a ≡ ahead_of pieces None → length (written_in_turn (character_pairs pairs)) < most_reads →
    TellsWritten (told_of a) (character_pairs pairs)
tells_written pairs pieces a have written is few =
    record { are_writable = writable pairs have; is_told = ap Some (is ∙ written None); few = few }

-- the items of what was written are the pairs
pub pairs_back : {A B : Type 0} (dialect : Dialect) (pairs : List (String B × String B)) (pieces : List Piece)
    (a : Ahead) (s : IterState) (names : Texts) (given : List (Item A)) → GivesWritten A → HaveKeys pairs →
    AreWritten pairs pieces → a ≡ ahead_of pieces None → s ≡ fresh (told_of a) dialect →
    GivesItems names s given × NoneRefused given → length (written_in_turn (character_pairs pairs)) < most_reads →
    SayItems given (map Ok (character_pairs pairs))
pairs_back dialect pairs pieces a s names given law have written is at_start taken few =
    law dialect (told_of a) (character_pairs pairs) names given (tells_written pairs pieces a have written is few)
    (rw at_start at taken.0) taken.1

-- a load of what was written gives each name its last value
pub loads_back : {A B : Type 0} (dialect : Dialect) (pairs : List (String B × String B)) (pieces : List Piece)
    (a : Ahead) (s : IterState) (old new : Texts) (answer : Result (Unit {0}) (Error A)) → LoadsWritten A →
    HaveKeys pairs → AreWritten pairs pieces → a ≡ ahead_of pieces None → s ≡ fresh (told_of a) dialect →
    (IsOpen s → LoadsRest override_result s old answer new) →
    length (written_in_turn (character_pairs pairs)) < most_reads → ¬ (IsMemoryErr answer) →
    Leaves (with_last_values (values_of old) (until_nul (character_pairs pairs))) new answer
loads_back dialect pairs pieces a s old new answer law have written is at_start loads few granted =
    law dialect (told_of a) (character_pairs pairs) old new answer (tells_written pairs pieces a have written is few)
    ((rw at_start at loads) refl) granted
