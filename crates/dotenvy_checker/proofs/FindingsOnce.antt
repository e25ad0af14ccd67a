-- What is found in a file is decided by its bytes.
use Rattle.std.proofs.Common.{◌≡◌, ℕ, Bool, true, false, List, [], ◌∷◌, ◌++◌, refl, sym, ◌∙◌}
use Rattle.std.specs.Prelude.{encode_utf8_all, Option, Some, None}
use Rattle.std.specs.Str.{chars}
use Rattle.dotenvy_format.specs.declared.dialect.Dialect.{Dialect}
use Rattle.dotenvy_format.specs.Entries.{Entry, Gives}
use Rattle.dotenvy_format.specs.LogicalLine.{Logical}
use Rattle.dotenvy_format.proofs.lines.EntriesOnce.{all_give}
use Rattle.dotenvy_lines.specs.Numbered.{FileLine}
use Rattle.dotenvy_checker.specs.Findings.{AreGuesses, AreRows, GuessesFrom, IsGuess, Row, behind, cut}
use Rattle.dotenvy_checker.specs.Findings.{findings, guessed, is_passed, lines_of, logical_text, next_number}
use Rattle.dotenvy_checker.specs.Findings.{open_behind}
use Rattle.dotenvy_checker.specs.Laws.{FindingsOnce}
use Rattle.dotenvy_checker.proofs.NumberedLines.{gives_same, one_numbering}

-- a logical line gives some entries
gives_some : (dialect : Dialect) (line : Logical) → (entries : List Entry) × Gives dialect line entries
gives_some dialect line = let (front, after, gives, rest, joined) = all_give dialect (line ∷ []) in (front, gives)

-- a physical line is read as some guess, or as none
is_guess_some : (dialect : Dialect) (passed : Bool) (number : ℕ) (text : List ℕ) →
    (guesses : List FileLine) × IsGuess dialect passed number text guesses
is_guess_some dialect true number text = ([], refl)
is_guess_some dialect false number text =
    let (entries, gives) = gives_some dialect (guessed text) in (
      record { number = number; count = 1; logical = guessed text; entries = entries } ∷ [],
      (entries, gives, refl),
    )

-- and as one alone
is_guess_once : (dialect : Dialect) (passed : Bool) (number : ℕ) (text : List ℕ) (guesses others : List FileLine) →
    IsGuess dialect passed number text guesses → IsGuess dialect passed number text others → guesses ≡ others
is_guess_once dialect true number text guesses others none also = none ∙ sym also
is_guess_once dialect false number text guesses others (entries, gives, is) (same, gives_also, also) =
    is ∙ rw (gives_same dialect (guessed text) entries same gives gives_also) (sym also)

-- physical lines are read as some guesses
guesses_some : (dialect : Dialect) (from : ℕ) (is_open : Bool) (number : ℕ) (texts : List (List ℕ)) →
    (guesses : List FileLine) × AreGuesses dialect from is_open number texts guesses
guesses_some dialect from is_open number [] = ([], refl)
guesses_some dialect from is_open number (text ∷ texts) =
    let own = is_guess_some dialect (is_passed from is_open number (chars text)) number (chars text) in
    let later =
    guesses_some dialect from (open_behind from is_open number (chars text)) (next_number number) texts in
    (own.0 ++ later.0, (own.0, later.0, own.1, later.1, refl))

-- and as these alone
guesses_once : (dialect : Dialect) (from : ℕ) (is_open : Bool) (number : ℕ) (texts : List (List ℕ))
    (guesses others : List FileLine) → AreGuesses dialect from is_open number texts guesses →
    AreGuesses dialect from is_open number texts others → guesses ≡ others
guesses_once dialect from is_open number [] guesses others none also = none ∙ sym also
guesses_once dialect from is_open number (text ∷ texts) guesses others (own, later, is, are, joined)
    (own_also, later_also, is_also, are_also, joined_also) =
    let first =
    is_guess_once dialect (is_passed from is_open number (chars text)) number (chars text) own own_also is is_also in
    let rest =
    guesses_once dialect from (open_behind from is_open number (chars text)) (next_number number) texts later
    later_also are are_also in
    rw (joined, joined_also, first, rest) refl

-- what stands behind a quote that stays open is read as some guesses
from_some : (dialect : Dialect) (number : ℕ) (from : Option ℕ) (text : List ℕ) →
    (guesses : List FileLine) × GuessesFrom dialect number from text guesses
from_some dialect number None text = ([], refl)
from_some dialect number (Some from) text = guesses_some dialect from false number (cut (encode_utf8_all text))

-- and as these alone
from_once : (dialect : Dialect) (number : ℕ) (from : Option ℕ) (text : List ℕ) (guesses others : List FileLine) →
    GuessesFrom dialect number from text guesses → GuessesFrom dialect number from text others → guesses ≡ others
from_once dialect number None text guesses others none also = none ∙ sym also
from_once dialect number (Some from) text guesses others are also =
    guesses_once dialect from false number (cut (encode_utf8_all text)) guesses others are also

-- lines have some guesses behind them
rows_some : (dialect : Dialect) (lines : List FileLine) →
    (rows : List Row) × AreRows dialect rows × (lines_of rows ≡ lines)
rows_some dialect [] = ([], tt, refl)
rows_some dialect (line ∷ lines) =
    let own =
    from_some dialect line.number (behind dialect line.number line.logical line.entries) (logical_text line.logical) in
    let rest = rows_some dialect lines in
    (record { line = line; guesses = own.0 } ∷ rest.0, (own.1, rest.1), rw rest.2 refl)

-- a line with the guesses behind it is one row
row_once : (row other : Row) → row.line ≡ other.line → row.guesses ≡ other.guesses → row ≡ other
row_once row other line guesses = λ i. record { line = line i; guesses = guesses i }

-- and these alone
rows_once : (dialect : Dialect) (rows others : List Row) → AreRows dialect rows → AreRows dialect others →
    lines_of rows ≡ lines_of others → rows ≡ others
rows_once dialect [] [] are also same = refl
rows_once dialect [] (other ∷ others) are also same = cc
rows_once dialect (row ∷ rows) [] are also same = cc
rows_once dialect (row ∷ rows) (other ∷ others) (is, are) (is_also, also) same =
    let line : row.line ≡ other.line = cc in
    let lines : lines_of rows ≡ lines_of others = cc in
    let next = other.line in
    let guesses =
    from_once dialect next.number (behind dialect next.number next.logical next.entries) (logical_text next.logical)
    row.guesses other.guesses (rw line at is) is_also in
    rw (row_once row other line guesses, rows_once dialect rows others are also lines) refl

-- bytes have one list of findings
pub findings_once : FindingsOnce
findings_once setting number bytes =
    let (lines, has, entries, once) = one_numbering setting.dialect number bytes in
    let (rows, are, same) = rows_some setting.dialect lines in (
      findings setting rows,
      (rows, rw same has, are, refl),
      λ found (others, has_also, are_also, is).
          is
          ∙ rw (rows_once setting.dialect others rows are_also are (once (lines_of others) has_also ∙ sym same)) refl,
    )
