-- Blanks in a row outside quotes: each two of them are a token.
use Rattle.std.proofs.Common.{◌≡◌, ℕ, zero, suc, ◌+◌, ◌-◌, ◌/◌, ◌%◌, ◌<◌, true, List, Some, refl, arith, drop}
use Rattle.std.specs.Prelude.{◌==◌}
use Rattle.std.specs.List.{prefix_len}
use Rattle.std.specs.Str.{IsUtf8}
use Rattle.std.proofs.lemmas.Bool.Decides.{nat_tests}
use Rattle.dotenvy_format.specs.declared.walk.LineMode.TheVariants.{Outside, AfterBlank}
use Rattle.dotenvy_format.specs.Characters.{is_space_or_tab}
use Rattle.dotenvy_format.specs.inside.Walk.{going, leads, walk, WalksTo}
use Rattle.dotenvy_format.proofs.bytes.AsciiRows.{row, cut_row}

-- outside quotes a blank leads to the mode after one
pub blank_begins : (c : ℕ) → is_space_or_tab c ≡ true → leads Outside c ≡ Some AfterBlank
blank_begins c h = grind (arith, nat_tests)

-- a second blank ends the token that the first one began
pub blank_ends : (c : ℕ) → is_space_or_tab c ≡ true → leads AfterBlank c ≡ Some Outside
blank_ends c h = grind (arith, nat_tests)

-- a blank is an ASCII character
pub blank_small : (c : ℕ) → is_space_or_tab c ≡ true → c < 128
blank_small c h = grind (arith, nat_tests)

-- outside quotes, an even number of blanks in a row leads back
pairs_lead : (c half : ℕ) (seen : List ℕ) → is_space_or_tab c ≡ true
    → walk Outside seen (row c (half + half)) ≡ going Outside
pairs_lead c zero seen h = refl
pairs_lead c (suc half) seen h =
    let two : suc half + suc half ≡ suc (suc (half + half)) = omega arith in
    rw (two, blank_begins c h, blank_ends c h) (pairs_lead c half _ h)

-- outside quotes, an even number of blanks at the front of a text is passed
pub pairs_pass : (c n : ℕ) {text rest : List ℕ} → is_space_or_tab c ≡ true → IsUtf8 text
    → n ≡ prefix_len (λ b. b == c) text → rest ≡ drop (n - n % 2) text → WalksTo Outside text Outside rest
pairs_pass c n {text} {rest} h utf8 is left =
    let half = n / 2 in
    let even : n - n % 2 ≡ half + half = omega arith in
    let cut = cut_row c (half + half) text (blank_small c h) utf8 (omega (arith, is)) in
    rw (left, even) record {
      front = row c (half + half);
      splits = cut.bytes;
      front_text = cut.front;
      rest_text = cut.rest;
      walks = λ seen. rw cut.spells (pairs_lead c half seen h);
    }
