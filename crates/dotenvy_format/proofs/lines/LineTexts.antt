-- Texts as bytes and as characters: a carriage return at the end, a hash at the front, and a walk over the characters.
use Rattle.dotenvy_format.proofs.lines.Splitting.{walk-append}
use Rattle.std.proofs.Common.{◌≡◌, ◌≢◌, ℕ, ◌-◌, ◌<◌, Bool, true, List, [], ◌∷◌, ◌++◌}
use Rattle.std.proofs.Common.{length, take, get_or, refl, sym, ◌∙◌, ap, append_assoc, arith}
use Rattle.std.proofs.Common.{length-append, Some, None}
use Rattle.std.specs.Prelude.{◌==◌, IsUtf8, encode_utf8_all}
use Rattle.std.specs.Str.{chars, trim_start, skip_leading_whitespace}
use Rattle.std.specs.List.{list_all}
use Rattle.std.proofs.Math.Utf8.{encode}
use Rattle.std.proofs.Math.Seq.{take-append_seam}
use Rattle.std.proofs.lemmas.Bool.{eqb-true, ne_eqb}
use Rattle.std.proofs.lemmas.Bool.Decides.{nat_tests}
use Rattle.std.proofs.lemmas.Str.{chars-nil, chars-append, encode_ascii, encodes-append, encodes-chars}
use Rattle.std.proofs.lemmas.Str.{encodes_same, IsCharBoundary-at_seam}
use Rattle.std.proofs.lemmas.Str.{IsUtf8-append, IsUtf8-nil}
use Rattle.dotenvy_format.specs.declared.walk.LineMode.{LineMode}
use Rattle.dotenvy_format.specs.declared.walk.LineMode.TheVariants.{Outside, Inside}
use Rattle.dotenvy_format.specs.declared.walk.Walked.TheVariants.{Going, EndedAt}
use Rattle.dotenvy_format.specs.declared.text.Class.{Class}
use Rattle.dotenvy_format.specs.declared.text.Class.TheVariants.{Token, Quoted}
use Rattle.dotenvy_format.specs.Characters.{begins_with, hash, line_feed}
use Rattle.dotenvy_format.specs.LogicalLine.{without_carriage_return}
use Rattle.dotenvy_format.specs.inside.Walk.{going, leads, kept_before, walk, WalksTo, WalksText}
use Rattle.dotenvy_format.specs.inside.Slices.{BeginsWith, IsSpan, has_character}
use Rattle.dotenvy_format.proofs.bytes.Slices.{first_alone, begins_shorter}

-- a carriage return at the end goes
return_goes : (xs : List ℕ) → without_carriage_return (xs ++ 13 ∷ []) ≡ xs
return_goes [] = refl
return_goes (x ∷ xs) = grind (arith, return_goes xs)

-- a text that ends with no carriage return is the same without one at its end
no_return : (cs : List ℕ) → ((front : List ℕ) → cs ≡ front ++ 13 ∷ [] → ⊥) → without_carriage_return cs ≡ cs
no_return [] h = refl
no_return (c ∷ []) h = rw (ne_eqb c 13 (λ e. h [] (rw e refl)))
no_return (c ∷ d ∷ cs) h = rw (no_return (d ∷ cs) (λ front e. h (c ∷ front) (rw e refl)))

-- the byte of a carriage return spells that character alone
chars_return : chars (13 ∷ []) ≡ 13 ∷ []
unfolding chars
chars_return = refl

-- where the last byte is a carriage return and was taken off, the characters lose that one alone
pub chars_popped : (old text new : List ℕ) (n : ℕ) (ends : Bool) → text ≡ old → n ≡ length old → ends ≡ true →
    ends ≡ (get_or text (length text - 1) 0 == 13) → text ≡ take (length text - 1) text ++ 13 ∷ [] →
    (0 < n → get_or old (n - 1) 0 < 128 → new ≡ take (n - 1) old) → IsUtf8 new →
    chars new ≡ without_carriage_return (chars old)
chars_popped old text new n ends same len is test cut pops u =
    let whole = rw same at cut in
    let last : get_or old (n - 1) 0 ≡ 13 =
    rw (len, ← same) (eqb-true (get_or text (length text - 1) 0) 13 (sym test ∙ is)) in
    let some : 0 < n = omega (arith, ap length whole, length-append (take (length old - 1) old) (13 ∷ [])) in
    let parts : old ≡ new ++ 13 ∷ [] = rw (pops some (omega arith), len) whole in
    rw (parts, chars-append new (13 ∷ []) u, chars_return, return_goes)

-- a text whose bytes do not end with a carriage return has no such character at its end to lose
pub chars_no_return : (old : List ℕ) → IsUtf8 old → ((front : List ℕ) → old ≡ front ++ 13 ∷ [] → ⊥) →
    chars old ≡ without_carriage_return (chars old)
chars_no_return old u h =
    sym
    (no_return (chars old) (λ front e.
    h (encode_utf8_all front) (rw (← encodes-chars old u, e, encodes-append, encode_ascii 13 (omega arith)))))

-- the first byte of a text tells a hash
first_byte : (cs : List ℕ) → (get_or (encode_utf8_all cs) 0 0 == hash) ≡ begins_with hash cs
unfolding encode
first_byte [] = refl
first_byte (c ∷ cs) = grind (arith, nat_tests)

-- the first byte of a line trimmed at its start tells whether `#` is first after white space
pub comment_is : (line trimmed : List ℕ) (b : Bool) → trimmed ≡ trim_start line → b ≡ (get_or trimmed 0 0 == hash) →
    b ≡ begins_with hash (skip_leading_whitespace (chars line))
unfolding trim_start
comment_is line trimmed b e h = rw (h, e) (first_byte (skip_leading_whitespace (chars line)))

-- a text is white space alone where nothing is left of it without that at its start
pub blank_is : (line trimmed : List ℕ) → trimmed ≡ trim_start line → trimmed ≡ [] →
    skip_leading_whitespace (chars line) ≡ []
unfolding trim_start
blank_is line trimmed e h = encodes_same (skip_leading_whitespace (chars line)) [] (sym e ∙ h)

-- a text that begins with `#` has no white space before it
no_blank_before : (cs : List ℕ) → begins_with hash cs ≡ true → begins_with hash (skip_leading_whitespace cs) ≡ true
no_blank_before cs h = grind (arith, nat_tests)

-- a text whose first byte is `#` is a comment
pub comment_at_once : (text : List ℕ) (b : Bool) → IsUtf8 text → b ≡ (get_or text 0 0 == hash) → b ≡ true →
    begins_with hash (skip_leading_whitespace (chars text)) ≡ true
comment_at_once text b u h is =
    no_blank_before (chars text)
    (sym (first_byte (chars text)) ∙ ap (λ bytes. get_or bytes 0 0 == hash) (encodes-chars text u) ∙ sym h ∙ is)

-- a text of which something is left without the white space at its start is not white space alone
pub shown_is : (line trimmed : List ℕ) → trimmed ≡ trim_start line → trimmed ≢ [] →
    skip_leading_whitespace (chars line) ≢ []
unfolding trim_start
shown_is line trimmed e some h = some (e ∙ ap encode_utf8_all h)

-- before a line feed the line keeps its text without one carriage return at its end
pub kept_at_line_feed : (c : ℕ) (xs : List ℕ) → (c == line_feed) ≡ true → without_carriage_return xs ≡ kept_before c xs
kept_at_line_feed c xs h = rw h

-- before a character other than a line feed the line keeps all of its text
pub kept_elsewhere : (c : ℕ) (xs : List ℕ) → c ≢ line_feed → xs ≡ kept_before c xs
kept_elsewhere c xs h = rw (ne_eqb c line_feed h)

-- a walk goes on after what was walked
pub walk-more : (m n : LineMode) (seen xs ys : List ℕ) → walk m seen xs ≡ going n →
    walk m seen (xs ++ ys) ≡ walk n (seen ++ xs) ys
walk-more m n seen xs ys h = walk-append m seen xs ys ∙ rw h refl

-- a walk over characters that leave the mode as it is goes on in that mode
stays_all : (m : LineMode) (passes : ℕ → Bool) → ((c : ℕ) → passes c ≡ true → leads m c ≡ Some m) → (seen cs : List ℕ) →
    list_all passes cs ≡ true → walk m seen cs ≡ going m
stays_all m passes stays seen [] h = refl
stays_all m passes stays seen (c ∷ cs) h =
    grind (arith, stays c, stays_all m passes stays (seen ++ c ∷ []) cs)

-- outside quotes, a character of the class of tokens leaves the mode as it is
pub token_stays : (c : ℕ) → has_character Token c ≡ true → leads Outside c ≡ Some Outside
token_stays c h = grind (arith, nat_tests)

-- in quotes, a character other than the quote and a backslash leaves the mode as it is
pub quoted_stays : (quote c : ℕ) → has_character (Quoted quote) c ≡ true → leads (Inside quote) c ≡ Some (Inside quote)
quoted_stays quote c h = grind (arith, nat_tests)

-- the longest run of a class at a text's front is passed, where each of the class leaves the mode as it is
pub run_passes : {m : LineMode} (class : Class) {text front rest : List ℕ} → text ≡ front ++ rest → IsUtf8 front →
    IsUtf8 rest →
    ((c : ℕ) → has_character class c ≡ true → leads m c ≡ Some m) →
    IsSpan (has_character class) (chars text) (chars front) (chars rest) → WalksTo m text m rest
run_passes {m} class {front} splits u v stays span = record {
  front = front;
  splits = splits;
  front_text = u;
  rest_text = v;
  walks = λ seen. stays_all m (has_character class) stays seen (chars front) span.pass;
}

-- a walk over a text begins with nothing passed and the whole text left
pub walking_start : {start : LineMode} {line : List ℕ} → IsUtf8 line → WalksTo start line start line
walking_start u = record {
  front = [];
  splits = refl;
  front_text = IsUtf8-nil;
  rest_text = u;
  walks = λ seen. rw chars-nil;
}

-- a walk over a line is one over what was passed, then one over what is left
walks_line : {start m : LineMode} {line rest : List ℕ} (w : WalksTo start line m rest) (seen : List ℕ) →
    walk start seen (chars line) ≡ walk m (seen ++ chars w.front) (chars rest)
walks_line {start} {m} {rest} w seen =
    rw (w.splits, chars-append w.front rest w.front_text) (walk-more start m seen (chars w.front) (chars rest)
    (w.walks seen))

-- where a text begins with a character's bytes, these are a text
pub char_text : (rest after : List ℕ) (c : ℕ) → IsUtf8 rest → rest ≡ encode c ++ after → IsUtf8 (encode c)
char_text rest after c u e = (first_alone rest after c u e).0

-- a walk may pass over a text more, which leads on to another mode
walking_more : {start m n : LineMode} {line rest after : List ℕ} (more : List ℕ) → WalksTo start line m rest →
    rest ≡ more ++ after → IsUtf8 more → IsUtf8 after → ((seen : List ℕ) → walk m seen (chars more) ≡ going n) →
    WalksTo start line n after
walking_more {start} {m} {after} more w splits u v goes = record {
  front = w.front ++ more;
  splits = rw (w.splits, splits, append_assoc);
  front_text = IsUtf8-append w.front more w.front_text u;
  rest_text = v;
  walks = λ seen.
      rw (chars-append w.front more w.front_text, walk-more start m seen (chars w.front) (chars more) (w.walks seen))
      (goes (seen ++ chars w.front));
}

-- a walk may pass over a run of characters that leave the mode as it is
pub walking_run : {start m : LineMode} {line rest after : List ℕ} → WalksTo start line m rest →
    WalksTo m rest m after → WalksTo start line m after
walking_run w run = walking_more run.front w run.splits run.front_text run.rest_text run.walks

-- a walk may pass over a character that leads to another mode, and goes on in that mode
pub walking_step : {start m n : LineMode} {line rest after : List ℕ} {c : ℕ} → WalksTo start line m rest →
    BeginsWith rest c after → Some n ≡ leads m c → WalksTo start line n after
walking_step {rest} {after} {c} w begins h =
    let one = first_alone rest after c w.rest_text begins.bytes in
    walking_more (encode c) w begins.bytes one.0 begins.follows (λ seen. rw (one.1, ← h))

-- a walk whose next character ends the logical line ends with that character, at the place before it
pub walking_ends : {start m : LineMode} {line rest after : List ℕ} {c : ℕ} → WalksTo start line m rest →
    BeginsWith rest c after → None ≡ leads m c → WalksText start line (EndedAt (length line - length rest) c)
walking_ends {line} {rest} w begins h =
    let size = ap length w.splits in
    let at : length line - length rest ≡ length w.front = omega (arith, length-append w.front rest) in
    let front : take (length w.front) line ≡ w.front = rw w.splits (take-append_seam w.front rest) in
    rw (at, front) (
      omega (arith, length-append w.front rest),
      IsCharBoundary-at_seam line w.front rest w.splits w.rest_text,
      λ seen. rw (walks_line w seen, begins.characters, ← h),
    )

-- a walk with nothing left went over the whole text, and leads to the mode that it reached
pub walking_done : {start m : LineMode} {line rest : List ℕ} → WalksTo start line m rest → rest ≡ [] →
    WalksText start line (Going m)
walking_done w h = λ seen. rw (walks_line w seen, h, chars-nil)

-- after a run and a character less is left
pub run_smaller : {m : LineMode} {text rest after : List ℕ} {c : ℕ} → WalksTo m text m rest → BeginsWith rest c after →
    length after < length text
run_smaller {rest} run begins =
    let less = begins_shorter begins in omega (arith, ap length run.splits, length-append run.front rest)
