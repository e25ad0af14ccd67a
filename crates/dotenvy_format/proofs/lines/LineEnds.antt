-- What is left of a line, as runs of bytes, quotes and escapes are passed.
use Rattle.std.proofs.Common.{◌≡◌, ◌≢◌, ℕ, ◌<◌, Bool, true, false, not, List, [], ◌∷◌, ◌++◌, length}
use Rattle.std.proofs.Common.{refl, ◌∙◌, arith, length-append, Some, None}
use denote.Ref.{Bor}
use Rattle.std.specs.Prelude.{◌==◌, Option, MatchOption}
use Rattle.std.specs.List.{list_all}
use Rattle.std.proofs.lemmas.Bool.{and_parts, eq-eqb, not-true}
use Rattle.std.proofs.lemmas.Bool.Decides.{nat_tests}
use Rattle.dotenvy_format.specs.declared.walk.Blanks.{Blanks}
use Rattle.dotenvy_format.specs.declared.walk.Blanks.TheVariants.{Even, Odd, Unknown}
use Rattle.dotenvy_format.specs.Characters.{backslash, hash, is_quote, is_space_or_tab, line_feed}
use Rattle.dotenvy_format.specs.inside.Slices.{IsSpan, is_calm, is_in_quotes}
use Rattle.dotenvy_format.specs.inside.LineEnd.{LeadsOut, after_byte, between, blanks_after, blanks_over, ends_line}
use Rattle.dotenvy_format.specs.inside.LineEnd.{from_line_end, hash_leads, one_more, unquoted, with_one}

-- a calm byte is none of those that end a run
calm_tests : (b : ℕ) → is_calm b ≡ true
    → ((b == line_feed) ≡ false) × ((b == hash) ≡ false) × ((b == backslash) ≡ false) × (is_quote b ≡ false)
calm_tests b h =
    (grind (arith, nat_tests), grind (arith, nat_tests), grind (arith, nat_tests), grind (arith, nat_tests))

-- calm bytes are passed, and tell of the blanks behind them
over_calm : (blanks : Blanks) (xs ys : List ℕ) → list_all is_calm xs ≡ true
    → from_line_end (unquoted blanks) (xs ++ ys) ≡ from_line_end (unquoted (blanks_over blanks xs)) ys
over_calm blanks [] ys h = refl
over_calm blanks (x ∷ xs) ys h =
    let parts = and_parts (is_calm x) (list_all is_calm xs) h in
    let tests = calm_tests x parts.0 in
    rw (tests.0, tests.1, tests.2, tests.3) (over_calm (blanks_after blanks x) xs ys parts.1)

pub calm_passed : (blanks : Blanks) {bytes run rest : List ℕ} → IsSpan is_calm bytes run rest
    → from_line_end (unquoted blanks) bytes ≡ from_line_end (unquoted (blanks_over blanks run)) rest
calm_passed blanks {run = run} {rest = rest} span = rw span.spelled (over_calm blanks run rest span.pass)

-- a byte between quotes is no line feed, no such quote and no backslash
pub quoted_tests : (quote b : ℕ) → is_in_quotes quote b ≡ true
    → ((b == line_feed) ≡ false) × ((b == quote) ≡ false) × ((b == backslash) ≡ false)
quoted_tests quote b h = (grind (arith, nat_tests), grind (arith, nat_tests), grind (arith, nat_tests))

-- bytes between quotes are passed
over_quoted : (quote : ℕ) (xs ys : List ℕ) → list_all (is_in_quotes quote) xs ≡ true
    → from_line_end (between quote) (xs ++ ys) ≡ from_line_end (between quote) ys
over_quoted quote [] ys h = refl
over_quoted quote (x ∷ xs) ys h =
    let parts = and_parts (is_in_quotes quote x) (list_all (is_in_quotes quote) xs) h in
    let tests = quoted_tests quote x parts.0 in
    rw (tests.0, tests.1, tests.2) (over_quoted quote xs ys parts.1)

pub quoted_passed : (quote : ℕ) {bytes run rest : List ℕ} → IsSpan (is_in_quotes quote) bytes run rest
    → from_line_end (between quote) bytes ≡ from_line_end (between quote) rest
quoted_passed quote {run = run} {rest = rest} span = rw span.spelled (over_quoted quote run rest span.pass)

-- behind a run less is left
pub span_shorter : {passes : ℕ → Bool} {bytes run rest behind : List ℕ} {b : ℕ} → IsSpan passes bytes run rest
    → rest ≡ b ∷ behind → length behind < length bytes
span_shorter {run = run} {behind = behind} {b = b} span parts =
    rw (span.spelled, parts) (omega (arith, length-append run (b ∷ behind)))

-- the byte behind a run fails
pub span_stops : {passes : ℕ → Bool} {bytes run rest behind : List ℕ} {b : ℕ} → IsSpan passes bytes run rest
    → rest ≡ b ∷ behind → passes b ≡ false
span_stops {passes} {b = b} span parts = not-true (passes b) (rw parts at span.longest)

-- no quote is a line feed, a `#` or a backslash
quote_tests : (quote : ℕ) → is_quote quote ≡ true
    → ((quote == line_feed) ≡ false) × ((quote == hash) ≡ false) × ((quote == backslash) ≡ false)
quote_tests quote is = (grind (arith, nat_tests), grind (arith, nat_tests), grind (arith, nat_tests))

no_backslash : (quote : ℕ) → is_quote quote ≡ true → (backslash == quote) ≡ false
no_backslash quote is = grind (arith, nat_tests)

-- a closing quote leads outside
pub quote_closes : (quote b : ℕ) (rest : List ℕ) → is_quote quote ≡ true → b ≡ quote
    → from_line_end (between quote) (b ∷ rest) ≡ from_line_end (unquoted Even) rest
quote_closes quote b rest is same = rw (same, (quote_tests quote is).0, eq-eqb quote quote refl) refl

-- a line feed between quotes ends the search
pub feed_in_quotes : (quote b : ℕ) (rest : List ℕ) → b ≡ line_feed → from_line_end (between quote) (b ∷ rest) ≡ None
feed_in_quotes quote b rest same = rw same refl

-- a byte that ends a run between quotes, and is neither the quote nor a line feed, is a backslash
pub escape_in_quotes : (quote b : ℕ) → is_in_quotes quote b ≡ false → b ≢ quote → b ≢ line_feed → b ≡ backslash
escape_in_quotes quote b stops other feed = grind (arith, nat_tests)

-- between quotes an escaped byte is passed with its backslash
pub quoted_escape : (quote b e : ℕ) (rest : List ℕ) → is_quote quote ≡ true → b ≡ backslash → (e == line_feed) ≡ false
    → from_line_end (between quote) (b ∷ e ∷ rest) ≡ from_line_end (between quote) rest
quoted_escape quote b e rest is same kept = rw (same, no_backslash quote is, kept) refl

-- where no byte is escaped, the search ends
pub quoted_escape_fails : (quote b : ℕ) (rest : List ℕ) → is_quote quote ≡ true → b ≡ backslash
    → ((e : ℕ) (more : List ℕ) → rest ≡ e ∷ more → (e == line_feed) ≡ true)
    → from_line_end (between quote) (b ∷ rest) ≡ None
quoted_escape_fails quote b [] is same fails = rw (same, no_backslash quote is) refl
quoted_escape_fails quote b (e ∷ more) is same fails = rw (same, no_backslash quote is, fails e more refl) refl

-- a backslash outside quotes, by what is found behind it
pub escaped_part : (found : Option (Bor (List ℕ))) (blanks : Blanks) (b : ℕ) (behind : List ℕ) → b ≡ backslash
    → MatchOption found ((e : ℕ) (more : List ℕ) → behind ≡ e ∷ more → (e == line_feed) ≡ true)
    (λ rest. (e : ℕ) × (behind ≡ e ∷ rest.now) × ((e == line_feed) ≡ false))
    → MatchOption found (from_line_end (unquoted blanks) (b ∷ behind) ≡ None)
    (λ rest. LeadsOut (unquoted blanks) (b ∷ behind) rest.now)
escaped_part None blanks b [] same fails = rw same refl
escaped_part None blanks b (e ∷ more) same fails = rw (same, fails e more refl) refl
escaped_part (Some rest) blanks b behind same is = record {
  same = rw (same, is.1, is.2) refl;
  shorter = rw is.1 (omega arith);
}

-- a quoted part, by what is found behind its first quote
opens : (blanks : Blanks) (b : ℕ) (behind : List ℕ) → is_quote b ≡ true
    → from_line_end (unquoted blanks) (b ∷ behind) ≡ from_line_end (between b) behind
opens blanks b behind is =
    let tests = quote_tests b is in rw (tests.0, tests.1, tests.2, is) refl

pub quoted_part : (found : Option (Bor (List ℕ))) (blanks : Blanks) (b : ℕ) (behind : List ℕ) → is_quote b ≡ true
    → MatchOption found (from_line_end (between b) behind ≡ None) (λ rest. LeadsOut (between b) behind rest.now)
    → MatchOption found (from_line_end (unquoted blanks) (b ∷ behind) ≡ None)
    (λ rest. LeadsOut (unquoted blanks) (b ∷ behind) rest.now)
quoted_part None blanks b behind is fails = opens blanks b behind is ∙ fails
quoted_part (Some rest) blanks b behind is found = record {
  same = opens blanks b behind is ∙ found.same;
  shorter = omega (arith, found.shorter);
}

-- a `#` that doesn't end the line, by whether it is surely a part of a token
pub hash_part : (found : Option (Bor (List ℕ))) (blanks : Blanks) (b : ℕ) (behind : List ℕ) → b ≡ hash
    → ends_line (unquoted blanks) b ≡ false
    → MatchOption found (hash_leads blanks ≡ None)
    (λ rest. (hash_leads blanks ≡ Some (unquoted Even)) × (rest.now ≡ behind))
    → MatchOption found (from_line_end (unquoted blanks) (b ∷ behind) ≡ None)
    (λ rest. LeadsOut (unquoted blanks) (b ∷ behind) rest.now)
hash_part None blanks b behind same goes fails = let even = rw same at goes in rw (same, even, fails) refl
hash_part (Some rest) blanks b behind same goes is =
    let even = rw same at goes in record {
      same = rw (same, even, is.0, is.1) refl;
      shorter = rw is.1 (omega arith);
    }

-- a byte that ends a run and the search goes on at, and is neither a `#` nor a backslash, is a quote
pub other_is_quote : (blanks : Blanks) (b : ℕ) → is_calm b ≡ false → ends_line (unquoted blanks) b ≡ false → b ≢ hash
    → b ≢ backslash → is_quote b ≡ true
other_is_quote blanks b stops goes other escape = grind (arith, nat_tests)

-- a byte that ends the line, where it is next
pub ended_at : (blanks : Blanks) {bytes behind : List ℕ} {b : ℕ} → bytes ≡ b ∷ behind
    → ends_line (unquoted blanks) b ≡ true → from_line_end (unquoted blanks) bytes ≡ Some bytes
ended_at blanks parts ends = rw (parts, ends) refl

-- where nothing is left, no line ends
pub none_ends : (blanks : Blanks) (bytes : List ℕ) → length bytes ≡ 0 → from_line_end (unquoted blanks) bytes ≡ None
none_ends blanks [] e = refl
none_ends blanks (b ∷ bytes) e = absurd (omega (arith, e))

pub none_in_quotes : (quote : ℕ) (bytes : List ℕ) → length bytes ≡ 0 → from_line_end (between quote) bytes ≡ None
none_in_quotes quote [] e = refl
none_in_quotes quote (b ∷ bytes) e = absurd (omega (arith, e))

-- the blanks behind some bytes and one more
over_last : (blanks : Blanks) (xs : List ℕ) (b : ℕ)
    → blanks_over blanks (xs ++ b ∷ []) ≡ blanks_after (blanks_over blanks xs) b
over_last blanks [] b = refl
over_last blanks (x ∷ xs) b = over_last (blanks_after blanks x) xs b

-- one more and one more change nothing
turned : (more : Bool) (blanks : Blanks) → with_one (not more) blanks ≡ with_one more (one_more blanks)
turned false blanks = refl
turned true Even = refl
turned true Odd = refl
turned true Unknown = refl

-- where the last byte is a blank, those before it have one less
pub one_less : (blanks : Blanks) (run before : List ℕ) (last : ℕ) {front : List ℕ} (more : Bool)
    → front ≡ before ++ last ∷ [] → is_space_or_tab last ≡ true
    → with_one more (blanks_over blanks front) ≡ blanks_over blanks run
    → with_one (not more) (blanks_over blanks before) ≡ blanks_over blanks run
one_less blanks run before last more parts is h =
    turned more (blanks_over blanks before) ∙ rw (parts, over_last blanks before last, is) at h

-- another last byte tells by itself
pub last_tells : (blanks : Blanks) (run before : List ℕ) (last : ℕ) {front : List ℕ} (more : Bool)
    → front ≡ before ++ last ∷ [] → is_space_or_tab last ≡ false
    → with_one more (blanks_over blanks front) ≡ blanks_over blanks run
    → with_one more (after_byte last) ≡ blanks_over blanks run
last_tells blanks run before last more parts other h =
    rw (parts, over_last blanks before last, other) at h
