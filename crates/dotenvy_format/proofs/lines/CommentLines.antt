-- Lines that are ASCII and begin with `#`.
use Rattle.std.proofs.Common.{◌≡◌, ℕ, ◌<◌, ◌∙◌, true, List, [], ◌∷◌, ◌++◌, Some, sym, refl, lit<, arith}
use Rattle.std.specs.Prelude.{IsUtf8, slice_get, Option, None, MatchOption}
use denote.Ref.{Bor}
use Rattle.std.specs.Str.{chars, IsAscii, skip_leading_whitespace}
use Rattle.std.specs.List.{list_all}
use Rattle.std.proofs.lemmas.Bool.{and_parts}
use Rattle.std.proofs.lemmas.Bool.Decides.{nat_tests}
use Rattle.std.proofs.lemmas.Str.{IsAscii-append, IsUtf8-from_ascii}
use Rattle.std.proofs.lemmas.Str.Ascii.{IsAscii-cons, IsAscii-nil}
use Rattle.dotenvy_format.specs.Characters.{begins_with, hash, line_feed}
use Rattle.dotenvy_format.specs.PhysicalLines.{no_line_feed}
use Rattle.dotenvy_format.specs.inside.Slices.{BeginsLine, is_ascii_in_line}
use Rattle.dotenvy_format.specs.inside.Walk.{BeginsComment}
use Rattle.dotenvy_format.proofs.lines.LineTexts.{comment_at_once}

-- a byte that passes is ASCII
small : (b : ℕ) → is_ascii_in_line b ≡ true → b < 128
small b h = grind (arith, nat_tests)

-- bytes that pass are ASCII
pub ascii_bytes : (line : List ℕ) → list_all is_ascii_in_line line ≡ true → IsAscii line
ascii_bytes [] h = IsAscii-nil
ascii_bytes (b ∷ line) h =
    let parts = and_parts (is_ascii_in_line b) (list_all is_ascii_in_line line) h in
    IsAscii-cons b line (small b parts.0) (ascii_bytes line parts.1)

-- the comment is text
pub comment_text : {bytes line : List ℕ} → BeginsComment bytes line → IsUtf8 line
comment_text {line = line} is = IsUtf8-from_ascii line (ascii_bytes line is.1.pass)

-- it has no line feed
pub none_among : (line : List ℕ) → list_all is_ascii_in_line line ≡ true → no_line_feed line ≡ true
none_among [] h = refl
none_among (b ∷ line) h = grind (arith, nat_tests, none_among line)

pub comment_none : {bytes line : List ℕ} → BeginsComment bytes line → no_line_feed line ≡ true
comment_none {line = line} is = none_among line is.1.pass

-- with its line feed it is text
with_line_feed : {bytes line : List ℕ} → BeginsComment bytes line → IsUtf8 (line ++ line_feed ∷ [])
with_line_feed {line = line} is =
    IsUtf8-from_ascii (line ++ line_feed ∷ [])
    (IsAscii-append line (line_feed ∷ []) (ascii_bytes line is.1.pass)
    (IsAscii-cons line_feed [] (lit< tt) IsAscii-nil))

-- a walk sees it to be a comment
pub comment_seen : {bytes line : List ℕ} → BeginsComment bytes line
    → begins_with hash (skip_leading_whitespace (chars (line ++ line_feed ∷ []))) ≡ true
comment_seen {line = []} is = cc
comment_seen {line = c ∷ line} is =
    comment_at_once (c ∷ line ++ line_feed ∷ []) true (with_line_feed is) (sym is.0) refl

-- bytes that begin with `#` have a comment as their first line
pub comment_first : {bytes line : List ℕ} (rest : List ℕ) → bytes ≡ hash ∷ rest → BeginsLine is_ascii_in_line bytes line
    → BeginsComment bytes line
comment_first {line = line} rest first is = (begins line is.later (sym is.begins ∙ first), is)
  where
    begins : (line later : List ℕ) → line ++ line_feed ∷ later ≡ hash ∷ rest → begins_with hash line ≡ true
    begins [] later e = cc
    begins (c ∷ line) later e = grind arith

-- and bytes that have a comment as their first line begin with `#`
pub first_of_comment : {bytes line : List ℕ} → BeginsComment bytes line → Some hash ≡ slice_get bytes 0
first_of_comment {line = []} is = cc
first_of_comment {line = c ∷ line} is = rw is.1.begins (grind (arith, nat_tests, is.0))

-- what is found as the first line of bytes that begin with `#`
pub comment_or_none : {bytes : List ℕ} (found : Option (Bor (List ℕ))) (rest : List ℕ) → bytes ≡ hash ∷ rest
    → MatchOption found ((line : List ℕ) → ¬ (BeginsLine is_ascii_in_line bytes line))
    (λ line. BeginsLine is_ascii_in_line bytes line.now)
    → MatchOption found ((line : List ℕ) → ¬ (BeginsComment bytes line)) (λ line. BeginsComment bytes line.now)
comment_or_none None rest first is = λ line comment. is line comment.1
comment_or_none (Some line) rest first is = comment_first rest first is
