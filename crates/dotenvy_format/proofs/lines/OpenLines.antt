-- Lines over which quotes stay open: where the search for their line feed ends, and the walk over their characters.
use Rattle.std.proofs.Common.{◌≡◌, ◌≢◌, ℕ, ◌≤◌, ◌-◌, Bool, true, false, List, [], ◌∷◌, ◌++◌, length, take, refl, sym}
use Rattle.std.proofs.Common.{◌∙◌, ap, arith, Some, None, inl, inr, length-append}
use Rattle.std.specs.Prelude.{◌==◌, nat_lt, not, Option, MatchOption, if◌then◌else◌}
use denote.Ref.{Bor}
use Rattle.std.specs.List.{list_all}
use Rattle.std.specs.Str.{chars, IsUtf8}
use Rattle.std.proofs.Math.Seq.{take-append_seam}
use Rattle.std.proofs.lemmas.Bool.{and_parts, cases_Bool, eqb-true}
use Rattle.std.proofs.lemmas.Bool.Decides.{nat_tests}
use Rattle.std.proofs.lemmas.Str.{chars-append, chars-IsAscii, encodes-chars}
use Rattle.std.proofs.lemmas.Str.Ascii.{IsAscii-cons, IsAscii-nil}
use Rattle.dotenvy_format.specs.declared.walk.LineMode.{LineMode}
use Rattle.dotenvy_format.specs.declared.walk.LineMode.TheVariants.{Inside}
use Rattle.dotenvy_format.specs.Characters.{backslash, is_quote, line_feed}
use Rattle.dotenvy_format.specs.PhysicalLines.{no_line_feed}
use Rattle.dotenvy_format.specs.inside.Slices.{BeginsLine, IsSpan, is_in_quotes}
use Rattle.dotenvy_format.specs.inside.Walk.{going, leads, walk}
use Rattle.dotenvy_format.specs.inside.LineEnd.{BeginsOpen, Place, between, between_escape, from_feed}
use Rattle.dotenvy_format.proofs.lines.LineEnds.{quoted_tests}
use Rattle.dotenvy_format.proofs.lines.LineTexts.{walk-more}
use Rattle.dotenvy_format.proofs.lines.SearchPlaces.{place_after}
use Rattle.dotenvy_format.proofs.lines.WholeLines.{cut_kept}
use Rattle.dotenvy_format.proofs.lines.PlaceModes.{Fits, text_led}

-- bytes between quotes are passed
over_open : (quote : ℕ) (xs ys : List ℕ) → list_all (is_in_quotes quote) xs ≡ true
    → from_feed quote false (xs ++ ys) ≡ from_feed quote false ys
over_open quote [] ys h = refl
over_open quote (x ∷ xs) ys h =
    let parts = and_parts (is_in_quotes quote x) (list_all (is_in_quotes quote) xs) h in
    let tests = quoted_tests quote x parts.0 in
    rw (tests.0, tests.1, tests.2) (over_open quote xs ys parts.1)

pub open_passed : (quote : ℕ) {bytes run rest : List ℕ} → IsSpan (is_in_quotes quote) bytes run rest
    → from_feed quote false bytes ≡ from_feed quote false rest
open_passed quote {run = run} {rest = rest} span = rw span.spelled (over_open quote run rest span.pass)

-- where nothing is left, no line feed comes
pub none_open : (quote : ℕ) (bytes : List ℕ) → length bytes ≡ 0 → from_feed quote false bytes ≡ None
none_open quote [] e = refl
none_open quote (b ∷ bytes) e = absurd (omega (arith, e))

-- a line feed ends the search, and so does a quote
pub feed_found : (quote b : ℕ) {bytes rest : List ℕ} → bytes ≡ b ∷ rest → b ≡ line_feed
    → from_feed quote false bytes ≡ Some bytes
feed_found quote b parts is = rw (parts, is) refl

no_feed : (quote : ℕ) → is_quote quote ≡ true → (quote == line_feed) ≡ false
no_feed quote is = grind (arith, nat_tests)

pub quote_found : (quote b : ℕ) {bytes rest : List ℕ} → is_quote quote ≡ true → bytes ≡ b ∷ rest → b ≡ quote
    → from_feed quote false bytes ≡ None
quote_found quote b is parts same =
    let equal : (quote == quote) ≡ true = grind (arith, nat_tests) in
    rw (parts, same, no_feed quote is, equal) refl

-- a backslash goes on behind the byte after it, unless that is a line feed
no_backslash : (quote : ℕ) → is_quote quote ≡ true → (backslash == quote) ≡ false
no_backslash quote is = grind (arith, nat_tests)

escape_on : (quote b : ℕ) (rest : List ℕ) → is_quote quote ≡ true → b ≡ backslash
    → from_feed quote false (b ∷ rest) ≡ from_feed quote true rest
escape_on quote b rest is same = rw (same, no_backslash quote is) refl

pub escape_open : (quote b : ℕ) (bytes rest : List ℕ) → is_quote quote ≡ true → bytes ≡ b ∷ rest → b ≡ backslash
    → length rest ≡ 0 → from_feed quote false bytes ≡ None
escape_open quote b bytes [] is parts same e = rw parts (escape_on quote b [] is same)
escape_open quote b bytes (c ∷ rest) is parts same e = absurd (omega (arith, e))

pub escape_feed : (quote b e : ℕ) {bytes rest more : List ℕ} → is_quote quote ≡ true → bytes ≡ b ∷ rest
    → b ≡ backslash → rest ≡ e ∷ more → e ≡ line_feed → from_feed quote false bytes ≡ Some rest
escape_feed quote b e {rest = rest} is parts same later feed =
    rw (parts, escape_on quote b rest is same, later, feed) refl

pub escape_passed : (quote b e : ℕ) {bytes rest more : List ℕ} → is_quote quote ≡ true → bytes ≡ b ∷ rest
    → b ≡ backslash → rest ≡ e ∷ more → e ≢ line_feed → from_feed quote false bytes ≡ from_feed quote false more
escape_passed quote b e {rest = rest} is parts same later other =
    let no : (e == line_feed) ≡ false = grind (arith, nat_tests, other) in
    rw (parts, escape_on quote b rest is same, later, no) refl

-- the place between such quotes, after a backslash or not
abbrev place_of : ℕ → Bool → Place
place_of quote true = between_escape quote
place_of quote false = between quote

-- where the search ends: what is before has no line feed, and leads to a place between the quotes
record FoundFeed (quote : ℕ) (escaped : Bool) (bytes end : List ℕ) : Type 0 where
  front : List ℕ
  spelled : bytes ≡ front ++ end
  later : List ℕ
  begins : end ≡ line_feed ∷ later
  none : no_line_feed front ≡ true
  still : Bool
  led : place_after (place_of quote escaped) front ≡ Some (place_of quote still)

-- the search ends at a first byte that is a line feed
found_here : (quote b : ℕ) (escaped : Bool) (bytes end : List ℕ) → (b == line_feed) ≡ true
    → Some (b ∷ bytes) ≡ Some end → FoundFeed quote escaped (b ∷ bytes) end
found_here quote b escaped bytes end feed some =
    let same : b ∷ bytes ≡ end = cc in record {
      front = [];
      spelled = same;
      later = bytes;
      begins = rw (← eqb-true b line_feed feed) (sym same);
      none = refl;
      still = escaped;
      led = refl;
    }

-- where a search goes on, no quote closed
open_next : (closes : Bool) (next : Option (List ℕ)) {end : List ℕ} → (if closes then None else next) ≡ Some end
    → (closes ≡ false) × (next ≡ Some end)
open_next true next {end} h = let none : None ≡ Some end = h in cc
open_next false next h = (refl, h)

-- a backslash or another byte leads to its place
place_chosen : (quote : ℕ) (escapes : Bool)
    → (if escapes then Some (between_escape quote) else Some (between quote)) ≡ Some (place_of quote escapes)
place_chosen quote true = refl
place_chosen quote false = refl

open_led : (quote b : ℕ) (front : List ℕ) (there : Place) → (b == line_feed) ≡ false → (b == quote) ≡ false
    → place_after (place_of quote (b == backslash)) front ≡ Some there
    → place_after (between quote) (b ∷ front) ≡ Some there
open_led quote b front there other stays led = rw (other, stays, place_chosen quote (b == backslash)) led

found_feed : (quote : ℕ) (escaped : Bool) (bytes end : List ℕ) → from_feed quote escaped bytes ≡ Some end
    → FoundFeed quote escaped bytes end
found_feed quote escaped [] end h = let none : None ≡ Some end = h in cc
found_feed quote true (b ∷ bytes) end h =
    elim (cases_Bool (b == line_feed)) [
      | inl feed ↦ found_here quote b true bytes end feed (rw feed at h)
      | inr other ↦
          let it = found_feed quote false bytes end (rw other at h) in record {
            front = b ∷ it.front;
            spelled = ap (λ more. b ∷ more) it.spelled;
            later = it.later;
            begins = it.begins;
            none = rw other it.none;
            still = it.still;
            led = rw other it.led;
          }
    ]
found_feed quote false (b ∷ bytes) end h =
    elim (cases_Bool (b == line_feed)) [
      | inl feed ↦ found_here quote b false bytes end feed (rw feed at h)
      | inr other ↦
          let goes = open_next (b == quote) (from_feed quote (b == backslash) bytes) (rw other at h) in
          let it = found_feed quote (b == backslash) bytes end goes.1 in record {
            front = b ∷ it.front;
            spelled = ap (λ more. b ∷ more) it.spelled;
            later = it.later;
            begins = it.begins;
            none = rw other it.none;
            still = it.still;
            led = open_led quote b it.front (place_of quote it.still) other goes.0 it.led;
          }
    ]

-- bytes before the end of a line, by their number
pub feed_kept : (quote : ℕ) {bytes end : List ℕ} (n : ℕ) → from_feed quote false bytes ≡ Some end
    → n ≡ length bytes - length end → bytes ≡ take n bytes ++ end
feed_kept quote {bytes} {end} n h e =
    let is = found_feed quote false bytes end h in
    is.spelled ∙ ap (λ kept. kept ++ end) (sym (cut_kept end n is.spelled e))

-- the end is no longer than all of them
pub feed_shorter : (quote : ℕ) (bytes end : List ℕ) → from_feed quote false bytes ≡ Some end
    → length end ≤ length bytes
feed_shorter quote bytes end h =
    let is = found_feed quote false bytes end h in
    omega (arith, ap length is.spelled, length-append is.front end)

-- no other line is found there
pub only_open : {quote : ℕ} {bytes end line : List ℕ} (n : ℕ) → from_feed quote false bytes ≡ Some end
    → n ≡ length bytes - length end → BeginsOpen quote bytes line → line ≡ take n bytes
only_open {bytes = bytes} {end = end} {line = line} n h e is =
    let some : Some is.end ≡ Some end = sym is.ends ∙ h in
    let same : is.end ≡ end = cc in
    let parts : bytes ≡ line ++ end = rw same at is.begins in
    sym (cut_kept end n parts e)

-- what is found of such a line by its bytes before the line feed, if they are text
pub open_text : (quote : ℕ) (bytes : List ℕ) {end : List ℕ} (n : ℕ) (text : Option (Bor (List ℕ)))
    → from_feed quote false bytes ≡ Some end → n ≡ length bytes - length end
    → MatchOption text (¬ (IsUtf8 (take n bytes))) (λ t. (t.now ≡ take n bytes) × IsUtf8 t.now)
    → MatchOption text ((line : List ℕ) → ¬ (BeginsOpen quote bytes line)) (λ t. BeginsOpen quote bytes t.now)
open_text quote bytes n None h e none = λ line is. none (rw (only_open n h e is) at is.text)
open_text quote bytes {end = end} n (Some text) h e own = record {
  text = own.1;
  end = end;
  begins = rw own.0 (feed_kept quote n h e);
  ends = h;
}

-- what is found of a line over which quotes stay open: its own bytes are those before the line feed
own_front : {quote : ℕ} {bytes line : List ℕ} (is : BeginsOpen quote bytes line)
    → (it : FoundFeed quote false bytes is.end) × (it.front ≡ line)
own_front {quote} {bytes} {line} is =
    let it = found_feed quote false bytes is.end is.ends in
    let both : it.front ++ is.end ≡ line ++ is.end = sym it.spelled ∙ is.begins in
    let size : length it.front ≡ length line =
    omega (arith, ap length both, length-append it.front is.end, length-append line is.end) in
    (it, sym (take-append_seam it.front is.end) ∙ rw (both, size) (take-append_seam line is.end))

-- it has no line feed, and the bytes begin with it and one
pub open_none : {quote : ℕ} {bytes line : List ℕ} → BeginsOpen quote bytes line → no_line_feed line ≡ true
open_none is = let own = own_front is in rw own.1 at own.0.none

pub open_begins : {quote : ℕ} {bytes line : List ℕ} → BeginsOpen quote bytes line
    → BeginsLine (λ b. not (b == line_feed)) bytes line
open_begins {line = line} is =
    let own = own_front is in record {
      pass = open_none is;
      later = own.0.later;
      begins = is.begins ∙ ap (λ more. line ++ more) own.0.begins;
    }

-- the line feed leads back between the quotes
feed_stays : (quote : ℕ) (still : Bool) (n : LineMode) → is_quote quote ≡ true → Fits (place_of quote still) n
    → leads n line_feed ≡ Some (Inside quote)
feed_stays quote true n is fits = rw fits.0 refl
feed_stays quote false n is fits =
    let no : (line_feed == quote) ≡ false = grind (arith, nat_tests, is) in rw fits.0 (rw no refl)

-- a quote is ASCII
quote_small : (quote : ℕ) → is_quote quote ≡ true → nat_lt quote 128 ≡ true
quote_small quote is = grind (arith, nat_tests)

-- the line with its line feed as characters
pub open_line_text : {quote : ℕ} {bytes line : List ℕ} → BeginsOpen quote bytes line
    → chars (line ++ line_feed ∷ []) ≡ chars line ++ line_feed ∷ []
open_line_text {line = line} is =
    chars-append line (line_feed ∷ []) is.text
    ∙ ap (λ more. chars line ++ more)
    (chars-IsAscii (line_feed ∷ []) (IsAscii-cons line_feed [] (omega arith) IsAscii-nil))

-- a walk over such a line goes on between the quotes
pub open_line_goes : {quote : ℕ} {bytes line : List ℕ} (seen : List ℕ) → is_quote quote ≡ true
    → BeginsOpen quote bytes line
    → walk (Inside quote) seen (chars (line ++ line_feed ∷ [])) ≡ going (Inside quote)
open_line_goes {quote} {line = line} seen quoted is =
    let own = own_front is in
    let led = rw own.1 at own.0.led in
    let goes = text_led (between quote) (place_of quote own.0.still) (Inside quote) (chars line)
    (ap (place_after (between quote)) (encodes-chars line is.text) ∙ led) (refl, quote_small quote quoted) in
    rw (open_line_text is, walk-more (Inside quote) goes.0 seen (chars line) (line_feed ∷ []) (goes.1 seen))
    (rw (feed_stays quote own.0.still goes.0 quoted goes.2) refl)
