-- What a line says before its value is read.
use Rattle.std.proofs.Common.{◌≡◌, ℕ, Bool, false, not, List, sym, ap, ◌∙◌, arith}
use Rattle.std.specs.Prelude.{◌↔◌, IsTrue, Ok, Err, bytes_eq}
use Rattle.std.specs.Str.{chars, encode_utf8_all, IsUtf8, trim_end, trim_start}
use Rattle.std.proofs.lemmas.Bool.Decides.{same_from_decides, Decides-like}
use Rattle.std.proofs.lemmas.Slice.Eq.{bytes_eq-Decides}
use Rattle.std.proofs.lemmas.Str.{encodes-chars}
use Rattle.dotenvy.specs.Characters.{is_empty_or_comment}
use Rattle.dotenvy.specs.Outcome.{trimmed, is_nothing}
use Rattle.dotenvy.specs.Statement.{IsStatement}
use Rattle.dotenvy_format.specs.inside.ParseStatement.{parse}
use Rattle.dotenvy_format.proofs.statements.StatementParts.{chars-trim_end, chars-trim_start}
use Rattle.dotenvy_format.proofs.statements.StatementPlaces.{parse-fault, parse-statement}
use Rattle.dotenvy_format.proofs.statements.Statements.{one_statement}
use Rattle.dotenvy_editor.specs.Assignments.{StatesKey}

-- a line is nothing where its text, without white space around it, is empty or a comment
pub line_nothing : (line end start : List ℕ) (nothing : Bool) → IsUtf8 line → IsUtf8 end → end ≡ trim_end line →
    start ≡ trim_start end → nothing ≡ is_empty_or_comment (chars start) →
    is_nothing (trimmed (chars line)) ≡ nothing
line_nothing line end start nothing u v ends starts is =
    rw (← chars-trim_end line end u ends, ← chars-trim_start end start v starts) (sym is)

-- a line that parses is a statement
pub line_statement : (line end : List ℕ) {key rest : List ℕ} → IsUtf8 line → end ≡ trim_end line →
    parse (chars end) ≡ Ok (key, rest) → IsStatement (trimmed (chars line)) key rest
line_statement line end {key} {rest} u ends parses =
    parse-statement (trimmed (chars line)) key rest (sym (ap parse (chars-trim_end line end u ends)) ∙ parses)

-- a line that doesn't parse is no statement
pub line_fault : (line end : List ℕ) {left : List ℕ} → IsUtf8 line → end ≡ trim_end line →
    parse (chars end) ≡ Err left → (key rest : List ℕ) → ¬ (IsStatement (trimmed (chars line)) key rest)
line_fault line end {left} u ends fails =
    (parse-fault (trimmed (chars line)) left (sym (ap parse (chars-trim_end line end u ends)) ∙ fails)).0

-- texts have the same bytes where they have the same characters
pub same_chars : (text other : List ℕ) → IsUtf8 text → IsUtf8 other →
    bytes_eq text other ≡ bytes_eq (chars text) (chars other)
same_chars text other u v =
    same_from_decides _ _ (bytes_eq-Decides text other) (Decides-like _
    (λ is. sym (encodes-chars text u) ∙ ap encode_utf8_all is ∙ encodes-chars other v) (ap chars)
    (bytes_eq-Decides (chars text) (chars other)))

-- a statement is one of the key where its own is that key
pub states_key : (text own key assigned : List ℕ) (same : Bool) → IsTrue (not (is_nothing (trimmed text))) →
    IsStatement (trimmed text) own assigned → same ≡ bytes_eq own key → IsTrue same ↔ StatesKey key text
states_key text own key assigned same some is e = (
  λ h.
      let k : own ≡ key = (bytes_eq-Decides own key).0 (sym e ∙ h) in
      (some, assigned, rw k at is),
  λ (_, other, states). e ∙ (bytes_eq-Decides own key).1 (one_statement _ _ _ _ _ is states).0,
)

-- nothing, and what is no statement, is no statement of the key
pub nothing_states : (text key : List ℕ) → IsTrue (is_nothing (trimmed text)) → IsTrue false ↔ StatesKey key text
nothing_states text key h = (λ k. absurd (cc), λ states. absurd (let some = states.0 in grind (arith, h, some)))

pub fault_states : (text key : List ℕ) → ((own assigned : List ℕ) → ¬ (IsStatement (trimmed text) own assigned)) →
    IsTrue false ↔ StatesKey key text
fault_states text key none = (λ k. absurd (cc), λ states. absurd (none key states.1 states.2))
