-- What a logical line says, as the item that it adds.
use Rattle.std.proofs.Common.{◌≡◌, ℕ, List, [], Option, Some, None, Result}
use Rattle.std.proofs.Common.{Ok, Err, inl, inr, refl, ap, unwrap_or}
use Rattle.std.proofs.Common.{string_bytes, arith}
use Rattle.std.specs.Prelude.{OnOk, IfErr, option_map, if◌then◌else◌}
use Rattle.std.specs.Str.{chars}
use Rattle.std.specs.Result.{result_transpose}
use Rattle.std.specs.declared.string.String.{String}
use Rattle.std.proofs.lemmas.Str.{IsUtf8-string_bytes}
use Rattle.dotenvy_base.specs.declared.errors.Error.{Error}
use Rattle.dotenvy_base.specs.declared.errors.Error.TheVariants.{LineParse, Memory}
use Rattle.dotenvy_base.specs.Errors.{IsMemoryErr}
use Rattle.dotenvy_format.specs.Characters.{is_empty_or_comment}
use Rattle.dotenvy_format.specs.Outcome.{Outcome, Nothing, Pair, Fault, Says, Assigns, trimmed}
use Rattle.dotenvy_lines.specs.Lines.{LinesState}
use Rattle.dotenvy_format.specs.Entries.{outcome_entries}
use Rattle.dotenvy_format.specs.Items.{meaning}
use Rattle.dotenvy_base.specs.Environment.{Texts}
use Rattle.dotenvy_items.specs.Meaning.{names_of}
use Rattle.dotenvy_items.specs.inside.ParsedLine.{AnswersLine, IsLineAnswer, Remembers}
use Rattle.dotenvy_items.specs.inside.Reading.{ReadingState}
use Rattle.dotenvy_items.specs.inside.ItemStep.{lines_after, AddsEntries, IsRefused, AddsLine}
use Rattle.dotenvy_format.proofs.Basics.{not_is}
use Rattle.dotenvy_format.proofs.statements.Statements.{one_statement}
use Rattle.dotenvy_items.proofs.KeyLookUps.{recalled-inserted}

-- what an answer leaves of the logical lines
abbrev pub lines_said : {T A : Type 0} → Result T (Error A) → LinesState → LinesState
lines_said (Ok said) s = s
lines_said (Err e) s = lines_after e s

-- the answer for a line adds what the line says: nothing, the pair that is then remembered, or the fault
answer_added : {A : Type 0} (names : Texts) (s t : ReadingState) (line : List ℕ) (outcome : Outcome)
    (said : Result (Option (String A × String A)) (Error A)) → Says s.dialect line outcome →
    IsLineAnswer (names_of names s.remembered) outcome said → Remembers line s.remembered t.remembered said →
    t.lines ≡ lines_said said s.lines →
    AddsEntries names s.remembered (outcome_entries outcome) (result_transpose said) t.remembered × (t.lines ≡ s.lines)
answer_added names s t line Nothing (Ok None) says is remembers lines = (remembers, lines)
answer_added names s t line (Pair key pieces) (Ok (Some pair)) says ((key_is, means), alone)
    (rest, statement, inserted) lines = (
      (
        refl,
        (key_is, means),
        λ name.
            rw (
              inserted,
              recalled-inserted s.remembered (string_bytes pair.0) text (IsUtf8-string_bytes pair.0) name,
              key_is,
            ) (let stands = stands_for (rw stated.1 at says.3) in grind (arith, stands)),
      ),
      lines,
    )
  where
    text : Option (List ℕ)
    text = if is_empty_or_comment rest then None else Some (string_bytes pair.1)

    value : List ℕ
    value = meaning (names_of names s.remembered) pieces

    stated : (key ≡ key) × (says.1 ≡ rest)
    stated = one_statement (trimmed line) key says.1 key rest says.2 (rw key_is at statement)

    stands_for : Assigns s.dialect rest pieces → unwrap_or (option_map chars text) [] ≡ value
    stands_for (inl empty) = rw (empty.0, empty.1)
    stands_for (inr some) = rw (not_is (is_empty_or_comment rest) some.0) means
answer_added names s t line (Fault text index) (Err (LineParse found place)) says is remembers lines =
    ((refl, is.0, λ name. rw remembers refl), lines)
answer_added names s t line (Fault text index) (Ok (Some pair)) says is remembers lines = absurd is.0
answer_added names s t line _ _ says is remembers lines = search

-- refused memory fails the logical lines
refused_added : {A : Type 0} (said : Result (Option (String A × String A)) (Error A)) (s t : LinesState) →
    IsMemoryErr said → t ≡ lines_said said s → IsRefused (result_transpose said) t
refused_added (Err (Memory e)) s t is h = (is, rw h refl)
refused_added _ s t is h = absurd is

-- what a line says is what it adds
pub line_added : {A : Type 0} (names : Texts) (s t : ReadingState) (line : Result (Unit {0}) (Error A))
    (said : Result (Option (String A × String A)) (Error A)) →
    OnOk line (AnswersLine s.dialect (names_of names s.remembered) (chars s.line) said) →
    OnOk line (Remembers (chars s.line) s.remembered t.remembered said) →
    IfErr line (λ e. (said ≡ Err e) × (t.remembered ≡ s.remembered)) → t.lines ≡ s.lines →
    AddsLine names s line (result_transpose said) (record t { lines = lines_said said t.lines })
line_added names s t (Ok u) said (inl refused) remembers fault same =
    inl (refused_added said t.lines (lines_said said t.lines) refused refl)
line_added names s t (Ok u) said (inr (outcome, says, is)) remembers fault same =
    let added = answer_added names s (record t { lines = _ }) (chars s.line) outcome said says is remembers (rw same) in
    inr (outcome, says, added.0, added.1)
line_added names s t (Err e) said says remembers fault same =
    (ap result_transpose fault.0, fault.1, rw (fault.0, same))
