-- The modes in which a walk over characters may be, where a search over their bytes is at a place.
use Rattle.std.proofs.Common.{◌≡◌, ℕ, ◌≤◌, Bool, true, false, List, [], ◌∷◌, ◌++◌, length, refl, sym, ◌∙◌}
use Rattle.std.proofs.Common.{ap, append_assoc, arith, Some, None, inl, inr, le-leb, lt-ltb}
use Rattle.std.specs.Prelude.{◌==◌, ◌⊎◌, ◌&&◌, nat_le, nat_lt, encode_utf8_all, Option}
use Rattle.std.specs.List.{list_all}
use Rattle.std.proofs.Math.Utf8.{encode}
use Rattle.std.proofs.lemmas.Bool.{and_parts, cases_Bool, cases_lt, eqb-true}
use Rattle.std.proofs.lemmas.Bool.Decides.{nat_tests}
use Rattle.std.proofs.lemmas.Str.{encode_ascii}
use Rattle.dotenvy_format.specs.declared.walk.LineMode.{LineMode}
use Rattle.dotenvy_format.specs.declared.walk.LineMode.TheVariants.{Outside, Escaping, Inside, InsideEscaping}
use Rattle.dotenvy_format.specs.declared.walk.LineMode.TheVariants.{AfterBlank}
use Rattle.dotenvy_format.specs.declared.walk.Blanks.{Blanks}
use Rattle.dotenvy_format.specs.declared.walk.Blanks.TheVariants.{Even, Odd, Unknown}
use Rattle.dotenvy_format.specs.Characters.{backslash, carriage_return, hash, is_blank, is_quote, is_space_or_tab}
use Rattle.dotenvy_format.specs.Characters.{line_feed}
use Rattle.dotenvy_format.specs.LogicalLine.{without_carriage_return}
use Rattle.dotenvy_format.specs.inside.Walk.{Walk, ended, going, kept_before, leads, leads_outside, walk, walked}
use Rattle.dotenvy_format.specs.inside.LineEnd.{Place, between, between_escape, blanks_after, ends_line, hash_leads}
use Rattle.dotenvy_format.specs.inside.LineEnd.{is_odd, one_more, place_leads, unquoted, unquoted_escape}
use Rattle.dotenvy_format.proofs.lines.BlankPairs.{blank_begins, blank_ends}
use Rattle.dotenvy_format.proofs.lines.SearchPlaces.{after_both, on_some, place_after}
use Rattle.dotenvy_format.proofs.lines.Splitting.{blank_leads, escaping_leads, inside_leads, not_returned}
use Rattle.dotenvy_format.proofs.lines.Splitting.{outside_leads}

-- a walk may be in this mode where a search is at this place; quotes are ASCII
abbrev pub Fits : Place → LineMode → Type 0
Fits (unquoted Even) m = m ≡ Outside
Fits (unquoted Odd) m = m ≡ AfterBlank
Fits (unquoted Unknown) m = (m ≡ Outside) ⊎ (m ≡ AfterBlank)
Fits unquoted_escape m = m ≡ Escaping
Fits (between quote) m = (m ≡ Inside quote) × (nat_lt quote 128 ≡ true)
Fits (between_escape quote) m = (m ≡ InsideEscaping quote) × (nat_lt quote 128 ≡ true)

-- the character leads from the mode to one that fits the place
abbrev pub LeadsTo : LineMode → ℕ → Place → Type 0
LeadsTo m c place = (n : LineMode) × (leads m c ≡ Some n) × Fits place n

-- outside quotes it is one of two modes
outside_modes : (blanks : Blanks) (m : LineMode) → Fits (unquoted blanks) m → (m ≡ Outside) ⊎ (m ≡ AfterBlank)
outside_modes Even m fits = inl fits
outside_modes Odd m fits = inr fits
outside_modes Unknown m fits = fits

-- the character is none of those at which a run of calm ones ends
record IsCalm (c : ℕ) : Type 0 where
  feed : (c == line_feed) ≡ false
  comment : (c == hash) ≡ false
  escape : (c == backslash) ≡ false
  quote : is_quote c ≡ false

-- after a blank such a character ends the token
calm_after_blank : (c : ℕ) → IsCalm c → leads AfterBlank c ≡ Some Outside
calm_after_blank c is = rw (is.feed, is.comment, is.escape, is.quote) refl

-- a blank is one more
blank_step : (blanks : Blanks) (m : LineMode) (c : ℕ) → is_space_or_tab c ≡ true → Fits (unquoted blanks) m
    → LeadsTo m c (unquoted (one_more blanks))
blank_step Even m c is fits = (AfterBlank, rw fits (blank_begins c is), refl)
blank_step Odd m c is fits = (Outside, rw fits (blank_ends c is), refl)
blank_step Unknown m c is (inl fits) = (AfterBlank, rw fits (blank_begins c is), inr refl)
blank_step Unknown m c is (inr fits) = (Outside, rw fits (blank_ends c is), inl refl)

-- a visible character is no blank
visible_shown : (c : ℕ) → (nat_le 33 c && nat_le c 126) ≡ true → is_blank c ≡ false
visible_shown c h = grind (arith, nat_tests)

-- it leads outside quotes, after a whole token
visible_step : (blanks : Blanks) (m : LineMode) (c : ℕ) → IsCalm c → (nat_le 33 c && nat_le c 126) ≡ true
    → Fits (unquoted blanks) m → LeadsTo m c (unquoted Even)
visible_step blanks m c calm is fits = elim (outside_modes blanks m fits) [
  | inl same ↦
      (Outside, rw same (rw (visible_shown c is, calm.feed, calm.escape, calm.quote) refl), refl)
  | inr same ↦ (Outside, rw same (calm_after_blank c calm), refl)
]

-- another character leads outside quotes, perhaps after a blank
other_step : (blanks : Blanks) (m : LineMode) (c : ℕ) → IsCalm c → Fits (unquoted blanks) m
    → LeadsTo m c (unquoted Unknown)
other_step blanks m c calm fits = elim (outside_modes blanks m fits) [
  | inl same ↦
      elim (cases_Bool (is_blank c)) [
        | inl blank ↦
            (AfterBlank, rw same (rw (blank, calm.feed, calm.escape, calm.quote) refl), inr refl)
        | inr token ↦ (Outside, rw same (rw (token, calm.feed, calm.escape, calm.quote) refl), inl refl)
      ]
  | inr same ↦ (Outside, rw same (calm_after_blank c calm), inl refl)
]

-- the same blanks are the same place
same_blanks : (m : LineMode) (c : ℕ) (blanks others : Blanks) → blanks ≡ others → LeadsTo m c (unquoted others)
    → LeadsTo m c (unquoted blanks)
same_blanks m c blanks others same led = rw same led

-- a calm character leads to the blanks after it
calm_step : (blanks : Blanks) (m : LineMode) (c : ℕ) → IsCalm c → Fits (unquoted blanks) m
    → LeadsTo m c (unquoted (blanks_after blanks c))
calm_step blanks m c calm fits =
    let after = same_blanks m c (blanks_after blanks c) in
    elim (cases_Bool (is_space_or_tab c)) [
      | inl blank ↦ after (one_more blanks) (rw blank refl) (blank_step blanks m c blank fits)
      | inr none ↦
          elim (cases_Bool (nat_le 33 c && nat_le c 126)) [
            | inl is ↦ after Even (rw (none, is) refl) (visible_step blanks m c calm is fits)
            | inr is ↦ after Unknown (rw (none, is) refl) (other_step blanks m c calm fits)
          ]
    ]

-- a `#` that is a part of a token
hash_step : (blanks : Blanks) (next : Place) (m : LineMode) → hash_leads blanks ≡ Some next → Fits (unquoted blanks) m
    → LeadsTo m hash next
hash_step Even next m h fits =
    let some : Some (unquoted Even) ≡ Some next = h in
    let same : unquoted Even ≡ next = cc in rw (← same, fits) (Outside, refl, refl)
hash_step Odd next m h fits = let none : None ≡ Some next = h in cc
hash_step Unknown next m h fits = let none : None ≡ Some next = h in cc

-- a backslash
escape_step : (blanks : Blanks) (m : LineMode) → Fits (unquoted blanks) m → LeadsTo m backslash unquoted_escape
escape_step blanks m fits = elim (outside_modes blanks m fits) [
  | inl same ↦ (Escaping, rw same refl, refl)
  | inr same ↦ (Escaping, rw same refl, refl)
]

-- an opening quote leads between such quotes
opening_step : (blanks : Blanks) (m : LineMode) (c : ℕ) → nat_lt c 128 ≡ true → (c == line_feed) ≡ false
    → (c == hash) ≡ false → (c == backslash) ≡ false → is_quote c ≡ true → Fits (unquoted blanks) m
    → LeadsTo m c (between c)
opening_step blanks m c small t u v w fits = elim (outside_modes blanks m fits) [
  | inl same ↦ (Inside c, rw same (rw (t, v, w) refl), (refl, small))
  | inr same ↦ (Inside c, rw same (rw (t, u, v, w) refl), (refl, small))
]

-- an ASCII character leads to a mode that fits
outside_step : (blanks : Blanks) (next : Place) (m : LineMode) (c : ℕ) → nat_lt c 128 ≡ true
    → place_leads (unquoted blanks) c ≡ Some next → Fits (unquoted blanks) m → LeadsTo m c next
outside_step blanks next m c small h fits =
    elim (cases_Bool (c == line_feed)) [
      | inl t ↦ let none : None ≡ Some next = rw t at h in cc
      | inr t ↦
          elim (cases_Bool (c == hash)) [
            | inl u ↦
                let is : c ≡ hash = eqb-true c hash u in
                let goes : hash_leads blanks ≡ Some next = rw (t, u) at h in
                rw is (hash_step blanks next m goes fits)
            | inr u ↦
                elim (cases_Bool (c == backslash)) [
                  | inl v ↦
                      let is : c ≡ backslash = eqb-true c backslash v in
                      let some : Some unquoted_escape ≡ Some next = rw (t, u, v) at h in
                      let same : unquoted_escape ≡ next = cc in rw (← same, is) (escape_step blanks m fits)
                  | inr v ↦
                      elim (cases_Bool (is_quote c)) [
                        | inl w ↦
                            let some : Some (between c) ≡ Some next = rw (t, u, v, w) at h in
                            let same : between c ≡ next = cc in
                            rw (← same) (opening_step blanks m c small t u v w fits)
                        | inr w ↦
                            let some : Some (unquoted (blanks_after blanks c)) ≡ Some next = rw (t, u, v, w) at h in
                            let same : unquoted (blanks_after blanks c) ≡ next = cc in
                            let calm : IsCalm c = record { feed = t; comment = u; escape = v; quote = w } in
                            rw (← same) (calm_step blanks m c calm fits)
                      ]
                ]
          ]
    ]

-- so does one between quotes
quoted_step : (quote : ℕ) (next : Place) (m : LineMode) (c : ℕ) → place_leads (between quote) c ≡ Some next
    → Fits (between quote) m → LeadsTo m c next
quoted_step quote next m c h fits =
    elim (cases_Bool (c == line_feed)) [
      | inl t ↦ let none : None ≡ Some next = rw t at h in cc
      | inr t ↦
          elim (cases_Bool (c == quote)) [
            | inl u ↦
                let some : Some (unquoted Even) ≡ Some next = rw (t, u) at h in
                let same : unquoted Even ≡ next = cc in rw (← same) (Outside, rw fits.0 (rw u refl), refl)
            | inr u ↦
                elim (cases_Bool (c == backslash)) [
                  | inl v ↦
                      let some : Some (between_escape quote) ≡ Some next = rw (t, u, v) at h in
                      let same : between_escape quote ≡ next = cc in
                      rw (← same) (InsideEscaping quote, rw fits.0 (rw (u, v) refl), (refl, fits.1))
                  | inr v ↦
                      let some : Some (between quote) ≡ Some next = rw (t, u, v) at h in
                      let same : between quote ≡ next = cc in
                      rw (← same) (Inside quote, rw fits.0 (rw (u, v) refl), (refl, fits.1))
                ]
          ]
    ]

-- so does one at any place
step : (place next : Place) (m : LineMode) (c : ℕ) → nat_lt c 128 ≡ true → place_leads place c ≡ Some next
    → Fits place m → LeadsTo m c next
step (unquoted blanks) next m c small h fits = outside_step blanks next m c small h fits
step unquoted_escape next m c small h fits =
    elim (cases_Bool (c == line_feed)) [
      | inl t ↦ let none : None ≡ Some next = rw t at h in cc
      | inr t ↦
          let some : Some (unquoted Even) ≡ Some next = rw t at h in
          let same : unquoted Even ≡ next = cc in rw (← same) (Outside, rw fits (rw t refl), refl)
    ]
step (between quote) next m c small h fits = quoted_step quote next m c h fits
step (between_escape quote) next m c small h fits =
    elim (cases_Bool (c == line_feed)) [
      | inl t ↦ let none : None ≡ Some next = rw t at h in cc
      | inr t ↦
          let some : Some (between quote) ≡ Some next = rw t at h in
          let same : between quote ≡ next = cc in rw (← same) (Inside quote, rw fits.0 refl, (refl, fits.1))
    ]

-- Characters from 128 on, and their bytes, which are from 128 on, too.

abbrev pub are_wide : List ℕ → Bool
are_wide bytes = list_all (λ b. nat_le 128 b) bytes

-- such a byte is calm, and leads as follows
wide_calm : (b : ℕ) → nat_le 128 b ≡ true → IsCalm b
wide_calm b h = record {
  feed = grind (arith, nat_tests);
  comment = grind (arith, nat_tests);
  escape = grind (arith, nat_tests);
  quote = grind (arith, nat_tests);
}

wide_blanks : (blanks : Blanks) (b : ℕ) → nat_le 128 b ≡ true → blanks_after blanks b ≡ Unknown
wide_blanks blanks b h =
    let none : is_space_or_tab b ≡ false = grind (arith, nat_tests) in
    let hidden : (nat_le 33 b && nat_le b 126) ≡ false = grind (arith, nat_tests) in rw (none, hidden) refl

wide_outside : (blanks : Blanks) (b : ℕ) → nat_le 128 b ≡ true
    → place_leads (unquoted blanks) b ≡ Some (unquoted Unknown)
wide_outside blanks b h =
    let calm = wide_calm b h in
    rw (calm.feed, calm.comment, calm.escape, calm.quote) (ap (λ it. Some (unquoted it)) (wide_blanks blanks b h))

wide_escape : (b : ℕ) → nat_le 128 b ≡ true → place_leads unquoted_escape b ≡ Some (unquoted Even)
wide_escape b h = let calm = wide_calm b h in rw calm.feed refl

wide_other : (quote b : ℕ) → nat_lt quote 128 ≡ true → nat_le 128 b ≡ true → (b == quote) ≡ false
wide_other quote b narrow h = grind (arith, nat_tests)

wide_between : (quote b : ℕ) → nat_lt quote 128 ≡ true → nat_le 128 b ≡ true
    → place_leads (between quote) b ≡ Some (between quote)
wide_between quote b narrow h =
    let calm = wide_calm b h in rw (calm.feed, wide_other quote b narrow h, calm.escape) refl

wide_between_escape : (quote b : ℕ) → nat_le 128 b ≡ true
    → place_leads (between_escape quote) b ≡ Some (between quote)
wide_between_escape quote b h = let calm = wide_calm b h in rw calm.feed refl

-- such bytes outside quotes leave it unknown whether a blank ends there
pub over_outside : (blanks : Blanks) (b : ℕ) (bytes : List ℕ) → are_wide (b ∷ bytes) ≡ true
    → place_after (unquoted blanks) (b ∷ bytes) ≡ Some (unquoted Unknown)
over_outside blanks b [] h =
    let parts = and_parts (nat_le 128 b) true h in rw (wide_outside blanks b parts.0) refl
over_outside blanks b (d ∷ bytes) h =
    let parts = and_parts (nat_le 128 b) (are_wide (d ∷ bytes)) h in
    rw (wide_outside blanks b parts.0) (over_outside Unknown d bytes parts.1)

-- such bytes stay between quotes
over_between : (quote : ℕ) (bytes : List ℕ) → nat_lt quote 128 ≡ true → are_wide bytes ≡ true
    → place_after (between quote) bytes ≡ Some (between quote)
over_between quote [] narrow h = refl
over_between quote (b ∷ bytes) narrow h =
    let parts = and_parts (nat_le 128 b) (are_wide bytes) h in
    rw (wide_between quote b narrow parts.0) (over_between quote bytes narrow parts.1)

-- the character leads to a mode that fits where they lead
wide_step : (place next : Place) (m : LineMode) (c b : ℕ) (bytes : List ℕ) → nat_le 128 c ≡ true
    → are_wide (b ∷ bytes) ≡ true → place_after place (b ∷ bytes) ≡ Some next → Fits place m → LeadsTo m c next
wide_step (unquoted blanks) next m c b bytes large h led fits =
    let some : Some (unquoted Unknown) ≡ Some next = sym (over_outside blanks b bytes h) ∙ led in
    let same : unquoted Unknown ≡ next = cc in rw (← same) (other_step blanks m c (wide_calm c large) fits)
wide_step unquoted_escape next m c b [] large h led fits =
    let parts = and_parts (nat_le 128 b) true h in
    let some : Some (unquoted Even) ≡ Some next = rw (wide_escape b parts.0) at led in
    let same : unquoted Even ≡ next = cc in
    let calm = wide_calm c large in rw (← same) (Outside, rw fits (rw calm.feed refl), refl)
wide_step unquoted_escape next m c b (d ∷ bytes) large h led fits =
    let parts = and_parts (nat_le 128 b) (are_wide (d ∷ bytes)) h in
    let goes : place_after (unquoted Even) (d ∷ bytes) ≡ Some next = rw (wide_escape b parts.0) at led in
    let some : Some (unquoted Unknown) ≡ Some next = sym (over_outside Even d bytes parts.1) ∙ goes in
    let same : unquoted Unknown ≡ next = cc in
    let calm = wide_calm c large in rw (← same) (Outside, rw fits (rw calm.feed refl), inl refl)
wide_step (between quote) next m c b bytes large h led fits =
    let some : Some (between quote) ≡ Some next = sym (over_between quote (b ∷ bytes) fits.1 h) ∙ led in
    let same : between quote ≡ next = cc in
    let calm = wide_calm c large in
    let other = wide_other quote c fits.1 large in
    rw (← same) (Inside quote, rw fits.0 (rw (other, calm.escape) refl), (refl, fits.1))
wide_step (between_escape quote) next m c b bytes large h led fits =
    let parts = and_parts (nat_le 128 b) (are_wide bytes) h in
    let goes : place_after (between quote) bytes ≡ Some next = rw (wide_between_escape quote b parts.0) at led in
    let some : Some (between quote) ≡ Some next = sym (over_between quote bytes fits.1 parts.1) ∙ goes in
    let same : between quote ≡ next = cc in rw (← same) (Inside quote, rw fits.0 refl, (refl, fits.1))

-- the bytes of a character from 128 on are such bytes
pub encoded_wide : (c : ℕ) → 128 ≤ c → are_wide (encode c) ≡ true
unfolding encode
encoded_wide c h = grind (arith, nat_tests)

pub encoded_some : (c : ℕ) → 1 ≤ length (encode c)
unfolding encode
encoded_some c = grind (arith, nat_tests)

-- the same of any such bytes, if there are some
wide_led : (place next : Place) (m : LineMode) (c : ℕ) (bytes : List ℕ) → nat_le 128 c ≡ true → 1 ≤ length bytes
    → are_wide bytes ≡ true → place_after place bytes ≡ Some next → Fits place m → LeadsTo m c next
wide_led place next m c [] large some h led fits = absurd (omega (arith, some))
wide_led place next m c (b ∷ bytes) large some h led fits = wide_step place next m c b bytes large h led fits

-- a character leads to a mode that fits where its bytes lead
char_led : (place next : Place) (m : LineMode) (c : ℕ) → place_after place (encode c) ≡ Some next → Fits place m
    → LeadsTo m c next
char_led place next m c led fits =
    elim (cases_lt c 128) [
      | inl small ↦
          let one = on_some (place_leads place c) (λ n. place_after n []) (rw (encode_ascii c small) at led) in
          step place next m c (lt-ltb c 128 small) (one.1 ∙ one.2) fits
      | inr large ↦
          wide_led place next m c (encode c) (le-leb 128 c large) (encoded_some c) (encoded_wide c large) led fits
    ]

-- so a walk over characters goes on in such a mode
pub text_led : (place there : Place) (m : LineMode) (cs : List ℕ) → place_after place (encode_utf8_all cs) ≡ Some there
    → Fits place m → (n : LineMode) × ((seen : List ℕ) → walk m seen cs ≡ going n) × Fits there n
text_led place there m [] led fits =
    let some : Some place ≡ Some there = led in
    let same : place ≡ there = cc in (m, λ seen. refl, rw (← same) fits)
text_led place there m (c ∷ cs) led fits =
    let parts = after_both place (encode c) (encode_utf8_all cs) led in
    let one = char_led place parts.0 m c parts.1 fits in
    let later = text_led parts.0 there one.0 cs parts.2 one.2 in
    (later.0, λ seen. rw one.1 (later.1 (seen ++ c ∷ [])), later.2)

-- at the `#` of a comment, the walk ends
comment_ends : (blanks : Blanks) (b : ℕ) (n : LineMode) → b ≡ hash → is_odd blanks ≡ true → Fits (unquoted blanks) n
    → leads n b ≡ None
comment_ends Even b n same odd fits = let no : false ≡ true = odd in cc
comment_ends Odd b n same odd fits = rw (same, fits) refl
comment_ends Unknown b n same odd fits = let no : false ≡ true = odd in cc

-- so a walk ends at any byte that ends the line
pub ended_by : (there : Place) (b : ℕ) (n : LineMode) → ends_line there b ≡ true → Fits there n → leads n b ≡ None
ended_by (unquoted blanks) b n is fits =
    elim (cases_Bool (b == line_feed)) [
      | inl feed ↦
          let same : b ≡ line_feed = eqb-true b line_feed feed in
          elim (outside_modes blanks n fits) [
            | inl mode ↦ rw (same, mode) refl
            | inr mode ↦ rw (same, mode) refl
          ]
      | inr other ↦
          let parts = and_parts (b == hash) (is_odd blanks) (rw other at is) in
          let same : b ≡ hash = eqb-true b hash parts.0 in comment_ends blanks b n same parts.1 fits
    ]
ended_by unquoted_escape b n is fits = let no : false ≡ true = is in cc
ended_by (between quote) b n is fits = let no : false ≡ true = is in cc
ended_by (between_escape quote) b n is fits = let no : false ≡ true = is in cc

-- What is kept before a comment ends with a blank, so it has no carriage return at its end.

-- where a step of a walk goes on, it has a mode
walked_on : (m : LineMode) (next : Option LineMode) (c : ℕ) (seen : List ℕ) (later : LineMode → Walk)
    → walked next c seen later ≡ going m → (n : LineMode) × (next ≡ Some n) × (later n ≡ going m)
walked_on m None c seen later h = let no : ended (kept_before c seen) ≡ going m = h in cc
walked_on m (Some n) c seen later h = (n, refl, h)

-- only a blank leads to the mode after one
blank_last_outside : (c : ℕ) → leads_outside c ≡ Some AfterBlank → is_blank c ≡ true
blank_last_outside c h = elim (outside_leads c) [
  | inl is ↦ let no : None ≡ Some AfterBlank = sym is.1 ∙ h in cc
  | inr (inl is) ↦ let no : Some Escaping ≡ Some AfterBlank = sym is.1 ∙ h in cc
  | inr (inr (inl is)) ↦ let no : Some (Inside c) ≡ Some AfterBlank = sym is.1 ∙ h in cc
  | inr (inr (inr (inl is))) ↦ is.0
  | inr (inr (inr (inr is))) ↦ let no : Some Outside ≡ Some AfterBlank = sym is.1 ∙ h in cc
]

blank_last : (m : LineMode) (c : ℕ) → leads m c ≡ Some AfterBlank → is_blank c ≡ true
blank_last Outside c h = blank_last_outside c h
blank_last Escaping c h = elim (escaping_leads c) [
  | inl is ↦ let no : None ≡ Some AfterBlank = sym is.1 ∙ h in cc
  | inr is ↦ let no : Some Outside ≡ Some AfterBlank = sym is.1 ∙ h in cc
]
blank_last (Inside quote) c h = elim (inside_leads quote c) [
  | inl is ↦ let no : Some Outside ≡ Some AfterBlank = sym is.1 ∙ h in cc
  | inr (inl is) ↦ let no : Some (InsideEscaping quote) ≡ Some AfterBlank = sym is.1 ∙ h in cc
  | inr (inr is) ↦ let no : Some (Inside quote) ≡ Some AfterBlank = sym is.1 ∙ h in cc
]
blank_last (InsideEscaping quote) c h = let no : Some (Inside quote) ≡ Some AfterBlank = h in cc
blank_last AfterBlank c h = elim (blank_leads c) [
  | inl is ↦ let no : None ≡ Some AfterBlank = sym is.1 ∙ h in cc
  | inr (inl is) ↦ blank_last_outside c (sym is.1 ∙ h)
  | inr (inr is) ↦ let no : Some Outside ≡ Some AfterBlank = sym is.1 ∙ h in cc
]

-- the last of some characters after which a blank came last
last_of : (m : LineMode) (seen : List ℕ) (c : ℕ) (cs : List ℕ) → walk m seen (c ∷ cs) ≡ going AfterBlank
    → (front : List ℕ) × (last : ℕ) × (c ∷ cs ≡ front ++ last ∷ []) × (is_blank last ≡ true)
last_of m seen c [] h =
    let one = walked_on AfterBlank (leads m c) c seen (λ n. walk n (seen ++ c ∷ []) []) h in
    let goes : going one.0 ≡ going AfterBlank = one.2 in
    let same : one.0 ≡ AfterBlank = cc in ([], c, refl, blank_last m c (one.1 ∙ ap Some same))
last_of m seen c (d ∷ cs) h =
    let one = walked_on AfterBlank (leads m c) c seen (λ n. walk n (seen ++ c ∷ []) (d ∷ cs)) h in
    let later = last_of one.0 (seen ++ c ∷ []) d cs one.2 in
    (c ∷ later.0, later.1, ap (λ more. c ∷ more) later.2, later.3)

-- no blank is a carriage return
no_return : (c : ℕ) → is_blank c ≡ true → (c == carriage_return) ≡ false
no_return c h = grind (arith, nat_tests)

-- so a text that a walk leads over to the mode after a blank has none at its end
kept_whole : (seen cs : List ℕ) → walk Outside seen cs ≡ going AfterBlank
    → without_carriage_return (seen ++ cs) ≡ seen ++ cs
kept_whole seen [] h = let no : going Outside ≡ going AfterBlank = h in cc
kept_whole seen (c ∷ cs) h =
    let last = last_of Outside seen c cs h in
    let parts : seen ++ c ∷ cs ≡ (seen ++ last.0) ++ last.1 ∷ [] =
    ap (λ more. seen ++ more) last.2 ∙ sym (append_assoc seen last.0 (last.1 ∷ [])) in
    rw parts (not_returned (seen ++ last.0) last.1 (no_return last.1 last.3))

-- an odd number of blanks is the mode after a blank
odd_mode : (blanks : Blanks) (n : LineMode) → is_odd blanks ≡ true → Fits (unquoted blanks) n → n ≡ AfterBlank
odd_mode Even n odd fits = let no : false ≡ true = odd in cc
odd_mode Odd n odd fits = fits
odd_mode Unknown n odd fits = let no : false ≡ true = odd in cc

-- so of any line the walk keeps the text without a carriage return at its end
pub kept_there : (there : Place) (b : ℕ) (n : LineMode) (seen cs : List ℕ) → ends_line there b ≡ true → Fits there n
    → walk Outside seen cs ≡ going n → kept_before b (seen ++ cs) ≡ without_carriage_return (seen ++ cs)
kept_there (unquoted blanks) b n seen cs is fits goes =
    elim (cases_Bool (b == line_feed)) [
      | inl feed ↦ rw feed refl
      | inr other ↦
          let parts = and_parts (b == hash) (is_odd blanks) (rw other at is) in
          rw other (sym (kept_whole seen cs (goes ∙ ap going (odd_mode blanks n parts.1 fits))))
    ]
kept_there unquoted_escape b n seen cs is fits goes = let no : false ≡ true = is in cc
kept_there (between quote) b n seen cs is fits goes = let no : false ≡ true = is in cc
kept_there (between_escape quote) b n seen cs is fits goes = let no : false ≡ true = is in cc
