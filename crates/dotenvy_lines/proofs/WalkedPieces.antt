-- A line walked in pieces: what holds of its front and of one more piece holds of both.
use Rattle.std.proofs.Common.{◌≡◌, ◌≢◌, ℕ, true, false, List, [], ◌∷◌, ◌++◌, refl, ◌∙◌}
use Rattle.std.proofs.Common.{append_assoc, get_or, None, arith}
use Rattle.std.specs.Prelude.{◌==◌, IsUtf8, encode_utf8_all}
use Rattle.std.proofs.lemmas.Str.{encodes-chars}
use Rattle.std.specs.Char.{is_whitespace}
use Rattle.std.specs.Str.{chars, skip_leading_whitespace}
use Rattle.std.proofs.lemmas.Bool.{eqb-true}
use Rattle.std.proofs.lemmas.Bool.Decides.{nat_tests}
use Rattle.dotenvy_format.specs.declared.walk.LineMode.{LineMode}
use Rattle.dotenvy_lines.specs.declared.physical_line.Progress.{Progress}
use Rattle.dotenvy_lines.specs.declared.physical_line.Progress.TheVariants.{Blank, Going, Ended, Comment}
use Rattle.dotenvy_format.specs.Characters.{begins_with, hash, line_feed}
use Rattle.dotenvy_format.specs.PhysicalLines.{no_line_feed}
use Rattle.dotenvy_format.specs.inside.Walk.{going, ended, walk, leads}
use Rattle.dotenvy_format.specs.inside.Slices.{begins_visibly}
use Rattle.dotenvy_format.proofs.bytes.Slices.{visible_first}
use Rattle.dotenvy_lines.specs.inside.TakenLine.{IsNoComment, Walks, WalksOn, WalksFrom, still_blank}
use Rattle.dotenvy_format.proofs.lines.LineTexts.{walk-more}
use Rattle.dotenvy_lines.proofs.Inputs.{none_parts}

-- a walk stays where it ended
pub walk-ended : (m : LineMode) (text seen xs ys : List ℕ) → walk m seen xs ≡ ended text →
    walk m seen (xs ++ ys) ≡ ended text
walk-ended m text seen [] ys h = cc
walk-ended m text seen (x ∷ xs) ys h =
    let later = λ (k : LineMode). walk-ended k text (seen ++ x ∷ []) xs ys in grind (arith, later)

-- a text whose front is white space alone loses that, and the white space at the start of what follows
pub skip-blank : (xs ys : List ℕ) → skip_leading_whitespace xs ≡ [] →
    skip_leading_whitespace (xs ++ ys) ≡ skip_leading_whitespace ys
skip-blank [] ys h = refl
skip-blank (x ∷ xs) ys h = let later = skip-blank xs ys in grind (arith, later)

-- where a text is not white space alone, more behind it changes neither that nor whether it begins with a hash
shown-more : (xs ys : List ℕ) → skip_leading_whitespace xs ≢ [] →
    (begins_with hash (skip_leading_whitespace (xs ++ ys)) ≡ begins_with hash (skip_leading_whitespace xs))
    × (skip_leading_whitespace (xs ++ ys) ≢ [])
shown-more [] ys h = absurd (h refl)
shown-more (x ∷ xs) ys h = let later = shown-more xs ys in grind (arith, later)

-- what begins as no comment stays none
no_comment-more : (xs ys : List ℕ) → no_line_feed xs ≡ true → IsNoComment xs → IsNoComment (xs ++ ys)
no_comment-more xs ys none (other, shown) = let more = shown-more xs ys (shown none) in (more.0 ∙ other, λ k. more.1)

-- what begins as a comment stays one with more behind it
comment-more : (xs ys : List ℕ) → begins_with hash (skip_leading_whitespace xs) ≡ true →
    begins_with hash (skip_leading_whitespace (xs ++ ys)) ≡ true
comment-more [] ys h = cc
comment-more (x ∷ xs) ys h = let later = comment-more xs ys in grind (arith, later)

-- a piece behind a line that so far goes on, and that is no comment with the piece
continues : {mode : LineMode} {old : List ℕ} (p : Progress) (piece new : List ℕ) (q : Progress) →
    ((m : LineMode) (seen cs : List ℕ) → Walks m seen p cs old → (walk m seen cs ≡ going mode) × (old ≡ seen ++ cs)) →
    ((m : LineMode) (seen cs : List ℕ) → no_line_feed cs ≡ true → Walks m seen p cs old → seen ≡ [] →
    IsNoComment (cs ++ piece)) → WalksFrom mode old piece new q → WalksOn p old piece new q
continues {mode = mode} p piece new (Going n) goes other w m seen cs none before =
    let g = goes m seen cs before in
    (other m seen cs none before, walk-more m mode seen cs piece g.0 ∙ w.0 (seen ++ cs), rw (w.1, g.1, append_assoc))
continues {mode = mode} p piece new Ended goes other w m seen cs none before =
    let g = goes m seen cs before in
    (other m seen cs none before, rw (walk-more m mode seen cs piece g.0, ← g.1) w)
continues p piece new _ goes other w m seen cs none before = absurd w

-- a piece behind a line that goes on
pub goes-on : {mode : LineMode} {old : List ℕ} (piece new : List ℕ) (q : Progress) → WalksFrom mode old piece new q →
    WalksOn (Going mode) old piece new q
goes-on {mode = mode} piece new q w =
    continues (Going mode) piece new q (λ m seen cs before. (before.1, before.2))
    (λ m seen cs none before empty. no_comment-more cs piece none (before.0 empty)) w

-- a piece that begins with other characters than white space, but no hash, behind white space alone
pub begins-other : {mode : LineMode} {old : List ℕ} (piece new : List ℕ) (q : Progress) →
    WalksFrom mode old piece new q → IsNoComment piece → WalksOn (Blank mode) old piece new q
begins-other {mode = mode} piece new q w other =
    continues (Blank mode) piece new q (λ m seen cs before. (before.2, rw before.0 before.3))
    (λ m seen cs none before empty.
    rw (skip-blank cs piece before.1) (other.0, λ k. other.1 (none_parts cs piece k).1)) w

-- characters of which the first is visible are no comment, unless it is a hash
visible_no_comment : (cs : List ℕ) → begins_visibly (encode_utf8_all cs) ≡ true
    → (get_or (encode_utf8_all cs) 0 0 == hash) ≡ false → IsNoComment cs
visible_no_comment [] h other = cc
visible_no_comment (c ∷ cs) h other =
    let first = visible_first c cs h in rw first.0 (rw first.1 at other, λ _ e. cc)

-- the same of a text
pub visible_shown : (text : List ℕ) → IsUtf8 text → begins_visibly text ≡ true
    → (get_or text 0 0 == hash) ≡ false → IsNoComment (chars text)
visible_shown text u h other =
    visible_no_comment (chars text) (rw (encodes-chars text u) h) (rw (encodes-chars text u) other)

-- white space other than a line feed ends no line
blank_leads : (m : LineMode) (c : ℕ) → is_whitespace c ≡ true → (c == line_feed) ≡ false → leads m c ≢ None
blank_leads m c white other = λ e.
    let hash_is : (c == hash) ≡ true → c ≡ hash = eqb-true c hash in grind (arith, nat_tests, hash_is)

-- a line whose characters are white space ends with its line feed alone
pub blank-ends : (m : LineMode) (seen xs text : List ℕ) → skip_leading_whitespace xs ≡ [] →
    walk m seen xs ≡ ended text →
    no_line_feed xs ≡ false
blank-ends m seen [] text blank h = cc
blank-ends m seen (x ∷ xs) text blank h =
    let goes = blank_leads m x in
    let later = λ (k : LineMode). blank-ends k (seen ++ x ∷ []) xs text in
    grind (arith, goes, later)

-- a piece of white space behind white space alone
pub stays-blank : {mode : LineMode} {old : List ℕ} (piece new : List ℕ) (q : Progress) →
    WalksFrom mode old piece new q → skip_leading_whitespace piece ≡ [] →
    WalksOn (Blank mode) old piece new (still_blank q)
stays-blank {mode = mode} piece new (Going n) w white m seen cs none (empty, blank, walks, is) =
    (empty, skip-blank cs piece blank ∙ white, walk-more m mode seen cs piece walks ∙ w.0 (seen ++ cs), rw (w.1, is))
stays-blank {mode = mode} {old = old} piece new Ended w white m seen cs none before =
    let feed = blank-ends mode old piece new white w in
    begins-other piece new Ended w (rw white, λ none. cc) m seen cs none before
stays-blank piece new _ w white m seen cs none before = absurd w

-- a piece that begins with a hash, behind white space alone
pub begins-comment : (mode : LineMode) (old piece : List ℕ) → begins_with hash (skip_leading_whitespace piece) ≡ true →
    WalksOn (Blank mode) old piece old Comment
begins-comment mode old piece begins m seen cs none before = (before.0, rw (skip-blank cs piece before.1) begins)

-- what isn't kept
pub stays-ended : (old piece : List ℕ) → WalksOn Ended old piece old Ended
stays-ended old piece m seen cs none (other, walks) =
    (λ empty. no_comment-more cs piece none (other empty), walk-ended m old seen cs piece walks)

-- a piece behind the front of a comment is not kept, and the line stays a comment
pub stays-comment : (old piece : List ℕ) → WalksOn Comment old piece old Comment
stays-comment old piece m seen cs none (empty, begins) = (empty, comment-more cs piece begins)
