-- Physical lines that are read as guesses, one after another.
use Rattle.std.proofs.Common.{◌≡◌, ℕ, ◌+◌, ◌-◌, Bool, true, false, List, [], ◌∷◌, ◌++◌, Option, ◌≤◌, arith}
use Rattle.std.specs.Prelude.{not, nat_le, ◌==◌, length}
use Rattle.std.specs.List.{position_or_len, slice_split}
use Rattle.dotenvy_format.specs.Characters.{line_feed}
use Rattle.dotenvy_findings.specs.Characters.{begins_declaration}
use Rattle.std.proofs.Common.{refl, append_assoc}
use Rattle.std.specs.Str.{chars}
use Rattle.std.proofs.lemmas.List.{append-nil}
use Rattle.dotenvy_lines.specs.Numbered.{FileLine}
use Rattle.dotenvy_format.specs.LogicalLine.{Logical, Skip}
use Rattle.dotenvy_checker.specs.declared.lines.Checker.{Checker}
use Rattle.dotenvy_checker.specs.declared.lines.Numbered.{Numbered}
use Rattle.dotenvy_checker.specs.Findings.{cut, guessed, is_passed, next_number, open_behind, with_lines, AreGuesses}
use Rattle.dotenvy_checker.specs.inside.CheckedLines.{setting_of, so_far, ComesTo, ChecksGuess, ChecksGuesses}
use Rattle.dotenvy_checker.specs.inside.CheckedLines.{ChecksPart}
use Rattle.dotenvy_checker.proofs.KeptLines.{comes_bare, comes_none, comes_on, same_setting, with_lines-append}

-- a physical line from the first guessed one on is passed by behind an open quote, unless it begins a declaration
pub passed_open : (from number : ℕ) (is_open begins : Bool) (text : List ℕ) → from ≤ number →
    is_open ≡ true → begins ≡ begins_declaration text → not begins ≡ is_passed from is_open number text
passed_open from number is_open begins text later opened is =
    let reached : nat_le from number ≡ true = grind (arith, later) in rw (is, opened, reached) refl

-- some of these physical lines were guessed, with these left, so that the next one has this number
pub record Guessed {A : Type 0} (from number : ℕ) (texts : List (List ℕ)) (is_open : Bool) (next : ℕ)
    (left : List (List ℕ)) (old now : Checker A) : Type 0 where
  pub guesses : List FileLine
  pub more : (later : List FileLine) → AreGuesses old.dialect from is_open next left later →
      AreGuesses old.dialect from false number texts (guesses ++ later)
  pub comes : ComesTo (with_lines (setting_of old true) (so_far old) guesses) old now

-- at first none was guessed
pub guessed_none : {A : Type 0} (from number : ℕ) (texts : List (List ℕ)) (old : Checker A) →
    Guessed from number texts false number texts old old
guessed_none from number texts old = record { guesses = []; more = λ later are. are; comes = comes_none old }

-- a physical line that is read as a guess is one
pub guess_one : {A : Type 0} {passed : Bool} {logical : Logical} {from : Option ℕ} {old new : Checker A}
    (line : Numbered) (text : List ℕ) → passed ≡ false → guessed text ≡ logical → line.is_guess ≡ true →
    ChecksPart line (line.number + 1 - 1) logical from old new → ChecksGuess passed line.number text old new
guess_one {logical = logical} line text not_passed is guess (entries, gives, behind, comes) = rw not_passed (
  record { number = line.number; count = 1; logical = guessed text; entries = entries } ∷ [],
  (entries, rw is gives, refl),
  rw is (rw guess at comes),
)

-- a comment that is read as a guess is one
pub guess_comment : {A : Type 0} {passed : Bool} {old : Checker A} (number : ℕ) (text : List ℕ) → passed ≡ false →
    guessed text ≡ Skip → ChecksGuess passed number text old (record old { above = number })
guess_comment {old = old} number text not_passed is = rw not_passed (
  record { number = number; count = 1; logical = guessed text; entries = [] } ∷ [],
  ([], rw is refl, refl),
  rw is (comes_bare number old),
)

-- one more was guessed
pub guessed_more : {A : Type 0} {from number next : ℕ} {texts left : List (List ℕ)} {is_open : Bool}
    {old now new : Checker A} (text : List ℕ) → Guessed from number texts is_open next (text ∷ left) old now →
    ChecksGuess (is_passed from is_open next (chars text)) next (chars text) now new →
    Guessed from number texts (open_behind from is_open next (chars text)) (next_number next) left old new
guessed_more {old = old} text k (own, is, comes) = record {
  guesses = k.guesses ++ own;
  more = λ later are. rw append_assoc (k.more (own ++ later) (own, later, rw k.comes.dialect at is, are, refl));
  comes = comes_on k.comes (rw (with_lines-append (setting_of old true) (so_far old) k.guesses own)
      (rw (same_setting true k.comes, k.comes.comes) at comes));
}

-- with none left all were guessed
pub guessed_all : {A : Type 0} {from number next : ℕ} {texts : List (List ℕ)} {is_open : Bool} {old new : Checker A} →
    Guessed from number texts is_open next [] old new → ChecksGuesses from false number texts old new
guessed_all k = (k.guesses, rw append-nil at (k.more [] refl), k.comes)

-- a text in which no byte passes is one part, if that holds behind its first byte
split_first : (p : ℕ → Bool) (x : ℕ) (xs : List ℕ) (b : Bool) → p x ≡ b →
    (position_or_len p xs ≡ length xs → slice_split p xs ≡ xs ∷ []) →
    position_or_len p (x ∷ xs) ≡ length (x ∷ xs) → slice_split p (x ∷ xs) ≡ (x ∷ xs) ∷ []
split_first p x xs true is rest h = let none = rw is at h in cc
split_first p x xs false is rest h = let more = rw is at h in rw (is, rest (omega (arith, more))) refl

-- a text in which no byte passes is one part
split_alone : (p : ℕ → Bool) (xs : List ℕ) → position_or_len p xs ≡ length xs → slice_split p xs ≡ xs ∷ []
split_alone p [] h = refl
split_alone p (x ∷ xs) h = split_first p x xs (p x) refl (split_alone p xs) h

-- a text without a line feed is one physical line
pub cut_alone : (text : List ℕ) → position_or_len (λ b. b == line_feed) text ≡ length text → cut text ≡ text ∷ []
cut_alone text h = split_alone (λ b. b == line_feed) text h
