-- A line that is written alone is written so before later lines, if it ends with a line feed.
use Rattle.std.proofs.Common.{◌≡◌, ◌≢◌, ℕ, inl, inr, Bool, true, false, not, ◌||◌, List, [], ◌∷◌, ◌++◌}
use Rattle.std.proofs.Common.{refl, sym, ap, ◌∙◌, append_assoc, append-nil, length, length-append, arith, map}
use Rattle.std.specs.Prelude.{◌==◌, ◌↔◌, ◌&&◌, cond, if◌then◌else◌}
use Rattle.std.specs.Char.{is_whitespace}
use Rattle.std.specs.Str.{drop_trailing_whitespace, encode_utf8_all}
use Rattle.std.proofs.Math.Utf8.{encode}
use Rattle.std.proofs.lemmas.Bool.{cases_Bool, eqb-true}
use Rattle.std.proofs.lemmas.Bool.Decides.{nat_tests}
use Rattle.std.proofs.lemmas.List.{nil_from_length}
use Rattle.std.proofs.lemmas.Str.{encodes-append}
use Rattle.dotenvy.specs.Dialect.{Dialect}
use Rattle.dotenvy.specs.LogicalLine.{HasText}
use Rattle.dotenvy.specs.Outcome.{trimmed}
use Rattle.dotenvy.specs.Value.{segments_text, close_text, Close, no_close, lone_backslash, bare_name, tail}
use Rattle.dotenvy_format.specs.Characters.{carriage_return, equals_sign, hash, is_empty_or_comment, line_feed, space}
use Rattle.dotenvy_format.proofs.lines.Cuts.{encode_none, encode_some, ten}
use Rattle.dotenvy_format.proofs.lines.NextLine.{ends_join, ends_line, ends_line-append}
use Rattle.dotenvy_format.specs.PhysicalLines.{no_line_feed}
use Rattle.dotenvy_editor.specs.declared.writing.How.{How}
use Rattle.dotenvy_editor.specs.Assignments.{IsOldValue, IsSpot, Spot, meant_close, spot_text}
use Rattle.dotenvy_editor.specs.Forms.{candidates, old_forms, plain_forms, comment_of, end_of, form_lines, is_long}
use Rattle.dotenvy_editor.specs.Forms.{is_nil, tails, where_true}
use Rattle.dotenvy_editor.specs.Lines.{IsFirst, IsWritten, WritesLine, tried_lines}
use Rattle.dotenvy_editor.specs.Portable.{spot_forms}
use Rattle.dotenvy_editor.specs.Slices.{HasLine}
use Rattle.dotenvy_editor.proofs.NotedLines.{some_behind}
use Rattle.dotenvy_editor.proofs.SlicesAlone.{ends_same, stands_alone}
use Rattle.dotenvy_editor.proofs.SliceTexts.{line_bytes}
use Rattle.dotenvy_editor.proofs.TrimmedTexts.{trimmed_front}

-- Bytes and texts that end with a line feed.
-- bytes without a line feed don't end with one
none_ends : (bytes : List ℕ) → no_line_feed bytes ≡ true → ends_line bytes ≡ false
none_ends [] none = refl
none_ends (c ∷ []) none = grind (arith, nat_tests)
none_ends (c ∷ d ∷ bytes) none = none_ends (d ∷ bytes) (grind (arith, nat_tests))

-- the bytes of a character end with a line feed just where it is one
character_ends : (c : ℕ) → ends_line (encode c) ≡ (c == line_feed)
character_ends c = elim (cases_Bool (c == line_feed)) [
  | inl is ↦ rw is (ap ends_line (sym (append-nil (encode c)) ∙ ten c [] is))
  | inr not ↦ rw not (none_ends (encode c) (encode_none c not))
]

-- what ends a text ends it after another, too
ends_behind : (front bytes : List ℕ) → bytes ≢ [] → ends_line (front ++ bytes) ≡ ends_line bytes
ends_behind front [] some = absurd (some refl)
ends_behind front (c ∷ bytes) some = ends_line-append front c bytes

-- a character has bytes
bytes_some : (c : ℕ) (cs : List ℕ) → encode_utf8_all (c ∷ cs) ≢ []
bytes_some c cs e =
    let some = encode_some c in let none = ap length e in
    omega (arith, length-append (encode c) (encode_utf8_all cs), none)

-- the bytes of a text end with a line feed just where it does
pub text_ends : (text : List ℕ) → ends_line (encode_utf8_all text) ≡ ends_line text
text_ends [] = refl
text_ends (c ∷ []) = ap ends_line (append-nil (encode c)) ∙ character_ends c
text_ends (c ∷ d ∷ text) =
    ends_behind (encode c) (encode_utf8_all (d ∷ text)) (bytes_some d text) ∙ text_ends (d ∷ text)

-- a text that is trimmed has no line feed at its end
trimmed_ends : (text : List ℕ) → ends_line (drop_trailing_whitespace text) ≡ false
trimmed_ends [] = refl
trimmed_ends (c ∷ text) = at (drop_trailing_whitespace text) (trimmed_ends text)
  where
    feed_is : (c : ℕ) → is_whitespace c ≡ false → (c == line_feed) ≡ false
    feed_is c not = elim (cases_Bool (c == line_feed)) [
      | inl is ↦ let e = rw (eqb-true c line_feed is) at not in cc
      | inr other ↦ other
    ]

    at : (left : List ℕ) → ends_line left ≡ false →
        ends_line (cond (is_whitespace c && length left == 0) [] (c ∷ left)) ≡ false
    at [] h = elim (cases_Bool (is_whitespace c)) [
      | inl is ↦ rw is refl
      | inr not ↦ rw not (feed_is c not)
    ]
    at (d ∷ left) h =
        let some : (length (d ∷ left) == 0) ≡ false = grind (arith, nat_tests) in
        rw some (elim (cases_Bool (is_whitespace c)) [
          | inl is ↦ rw is h
          | inr not ↦ rw not h
        ])

-- What comes after the value.
-- bytes that are themselves and more, are themselves and nothing
nothing_more : (bytes more : List ℕ) → bytes ≡ bytes ++ more → more ≡ []
nothing_more bytes more e =
    let k = ap length e in nil_from_length more (omega (arith, length-append bytes more, k))

-- the front of two texts that are nothing together is nothing
front_nothing : (xs ys : List ℕ) → xs ++ ys ≡ [] → xs ≡ []
front_nothing [] ys e = refl
front_nothing (x ∷ xs) ys e = cc

-- the end of a value is what has a meaning of it, and more
close_front : (close : Close) → (more : List ℕ) × (close_text close ≡ meant_close close ++ more)
close_front no_close = ([], refl)
close_front lone_backslash = ([], sym (append-nil (close_text lone_backslash)))
close_front (bare_name name) = ([], sym (append-nil (close_text (bare_name name))))
close_front (tail blank blanks comment) = (close_text (tail blank blanks comment), refl)

-- what is assigned is the old value, and more, if it is something
old_front : (dialect : Dialect) (assigned old : List ℕ) → IsOldValue dialect assigned old →
    (more : List ℕ) × (assigned ≡ old ++ more)
old_front dialect assigned old (inl (empty, is)) = (assigned, rw is refl)
old_front dialect assigned old (inr (inl (some, part))) =
    let (more, is) = close_front part.close in (
      more,
      part.spelled ∙ ap (◌++◌ (segments_text part.segments)) is
          ∙ sym (append_assoc (segments_text part.segments) (meant_close part.close) more)
          ∙ ap (λ text. text ++ more) (sym part.part),
    )
old_front dialect assigned old (inr (inr (some, never, is))) = ([], is_all is)
  where
    is_all : old ≡ assigned → assigned ≡ old ++ []
    is_all e = sym e ∙ sym (append-nil old)

-- where the line ends with a line feed, so does what comes after the value
module _ {dialect : Dialect} {key text bytes : List ℕ} {spot : Spot} (is : IsSpot dialect key text bytes spot) where
  -- a line with nothing after the value, of which something is assigned, is the trimmed text
  whole_trimmed : HasLine bytes text → spot.rest ≡ [] → (more : List ℕ) →
      trimmed text ≡ (spot.front ++ spot.old) ++ more → encode_utf8_all (trimmed text) ≡ bytes
  whole_trimmed line none more spelled =
      let (cut, kept) = line_bytes bytes text line in
      let (white, split) = trimmed_front text in
      let front = spot.front ++ spot.old in
      let own : bytes ≡ encode_utf8_all front =
      is.spelled ∙ ap (λ rest. encode_utf8_all (spot.front ++ (spot.old ++ rest))) none
      ∙ ap (λ old. encode_utf8_all (spot.front ++ old)) (append-nil spot.old) in
      let whole : bytes ≡ encode_utf8_all (front ++ (more ++ (white ++ cut))) =
      kept ∙ ap (λ t. encode_utf8_all (t ++ cut)) (split ∙ ap (λ t. t ++ white) spelled)
      ∙ ap encode_utf8_all
      (append_assoc (front ++ more) white cut ∙ append_assoc front more (white ++ cut)) in
      let both : bytes ≡ bytes ++ encode_utf8_all (more ++ (white ++ cut)) =
      whole ∙ encodes-append front (more ++ (white ++ cut))
      ∙ ap (λ b. b ++ encode_utf8_all (more ++ (white ++ cut))) (sym own) in
      let nothing = nothing_more bytes (encode_utf8_all (more ++ (white ++ cut))) both in
      let none_more : encode_utf8_all more ≡ [] =
      front_nothing (encode_utf8_all more) (encode_utf8_all (white ++ cut))
      (sym (encodes-append more (white ++ cut)) ∙ nothing) in
      ap encode_utf8_all spelled ∙ encodes-append front more ∙ ap (◌++◌ (encode_utf8_all front)) none_more
      ∙ append-nil (encode_utf8_all front) ∙ sym own

-- the front of an assignment, with what is assigned, is the trimmed text
front_spelled : (indent prefix key before after assigned old more : List ℕ) → assigned ≡ old ++ more →
    indent ++ (prefix ++ (key ++ (before ++ equals_sign ∷ (after ++ assigned))))
    ≡ ((indent ++ (prefix ++ (key ++ (before ++ equals_sign ∷ after)))) ++ old) ++ more
front_spelled indent prefix key before after assigned old more e = rw e (simp append_assoc)

-- a front that ends with `=` has no line feed at its end
equals_end : (indent prefix key before : List ℕ) →
    ends_line (indent ++ (prefix ++ (key ++ (before ++ equals_sign ∷ [])))) ≡ false
equals_end indent prefix key before =
    ends_behind indent (prefix ++ (key ++ (before ++ equals_sign ∷ []))) (λ e. three prefix key before e)
    ∙ ends_behind prefix (key ++ (before ++ equals_sign ∷ [])) (λ e. two key before e)
    ∙ ends_behind key (before ++ equals_sign ∷ []) (λ e. one before e)
    ∙ ends_behind before (equals_sign ∷ []) (λ e. cc)
  where
    one : (xs : List ℕ) → xs ++ equals_sign ∷ [] ≢ []
    one [] e = cc
    one (x ∷ xs) e = cc

    two : (xs ys : List ℕ) → xs ++ (ys ++ equals_sign ∷ []) ≢ []
    two [] ys e = one ys e
    two (x ∷ xs) ys e = cc

    three : (xs ys zs : List ℕ) → xs ++ (ys ++ (zs ++ equals_sign ∷ [])) ≢ []
    three [] ys zs e = two ys zs e
    three (x ∷ xs) ys zs e = cc

-- where the line of an assignment ends with a line feed, something comes after its value
rest_some : {dialect : Dialect} {key text bytes : List ℕ} {spot : Spot} (is : IsSpot dialect key text bytes spot) →
    HasLine bytes text → ends_line bytes ≡ true → spot.rest ≢ []
rest_some {dialect = dialect} {key} {text} {bytes} {spot} is line ends none =
    let s = is.statement in
    elim (cases_Bool (is_empty_or_comment is.assigned)) [
      | inl empty ↦ at_equals empty is.is_old
      | inr some ↦
          let (more, begins) = old_front dialect is.assigned spot.old is.is_old in
          let front : spot.front ≡ s.indent ++ (s.prefix ++ (key ++ (s.before ++ equals_sign ∷ s.after))) =
          rw some at is.front_is in
          let spelled : trimmed text ≡ (spot.front ++ spot.old) ++ more =
          s.spelled ∙ front_spelled s.indent s.prefix key s.before s.after is.assigned spot.old more begins
          ∙ ap (λ f. (f ++ spot.old) ++ more) (sym front) in
          let whole = whole_trimmed is line none more spelled in
          let e : true ≡ false =
          sym ends ∙ ap ends_line (sym whole) ∙ text_ends (trimmed text) ∙ trimmed_ends text in
          cc
    ]
  where
    at_equals : is_empty_or_comment is.assigned ≡ true → IsOldValue dialect is.assigned spot.old → ⊥
    at_equals empty (inl (also, nothing)) =
        let s = is.statement in
        let front : spot.front ≡ s.indent ++ (s.prefix ++ (key ++ (s.before ++ equals_sign ∷ []))) =
        rw empty at is.front_is in
        let own : bytes ≡ encode_utf8_all spot.front =
        is.spelled ∙ ap (λ rest. encode_utf8_all (spot.front ++ (spot.old ++ rest))) none
        ∙ ap (λ old. encode_utf8_all (spot.front ++ (old ++ []))) nothing
        ∙ ap encode_utf8_all (append-nil spot.front) in
        let e : true ≡ false =
        sym ends ∙ ap ends_line own ∙ text_ends spot.front ∙ ap ends_line front
        ∙ equals_end s.indent s.prefix key s.before in
        cc
    at_equals empty (inr (inl (some, part))) = let e = rw empty at some in cc
    at_equals empty (inr (inr (some, never, all))) = let e = rw empty at some in cc

-- where the line of an assignment ends with a line feed, so does what comes after its value
rest_ends : {dialect : Dialect} {key text bytes : List ℕ} {spot : Spot} (is : IsSpot dialect key text bytes spot) →
    HasLine bytes text → ends_line bytes ≡ true → ends_line spot.rest ≡ true
rest_ends {bytes = bytes} {spot = spot} is line ends =
    let some = rest_some is line ends in
    sym (ends_behind spot.old spot.rest some)
    ∙ sym (ends_behind spot.front (spot.old ++ spot.rest) (some_behind spot.old spot.rest some))
    ∙ sym (text_ends (spot_text spot)) ∙ ap ends_line (sym is.spelled) ∙ ends

-- The lines that are tried.
-- each of these texts ends with a line feed
abbrev EachEnds : List (List ℕ) → Type 0
EachEnds [] = Unit {0}
EachEnds (text ∷ texts) = (ends_line text ≡ true) × EachEnds texts

each-append : (xs ys : List (List ℕ)) → EachEnds xs → EachEnds ys → EachEnds (xs ++ ys)
each-append [] ys each also = also
each-append (x ∷ xs) ys each also = (each.0, each-append xs ys each.1 also)

-- a form where the test holds
each_true : (holds : Bool) (text : List ℕ) → (holds ≡ true → ends_line text ≡ true) → EachEnds (where_true holds text)
each_true true text ends = (ends refl, tt)
each_true false text ends = tt

-- the comment of a rest that ends with a line feed ends with it
comment_ends : (rest : List ℕ) → ends_line rest ≡ true → comment_of rest ≢ [] → ends_line (comment_of rest) ≡ true
comment_ends [] ends some = absurd (some refl)
comment_ends (c ∷ []) ends some =
    (elim (c == hash) as (λ b.
    (if b then c ∷ [] else []) ≢ [] → ends_line (if b then c ∷ [] else []) ≡ true) [
      | true ↦ λ s. ends
      | false ↦ λ s. absurd (s refl)
    ]) some
comment_ends (c ∷ d ∷ rest) ends some =
    (elim (c == hash) as (λ b.
    (if b then c ∷ d ∷ rest else comment_of (d ∷ rest)) ≢ [] →
    ends_line (if b then c ∷ d ∷ rest else comment_of (d ∷ rest)) ≡ true) [
      | true ↦ λ s. ends
      | false ↦ λ s. comment_ends (d ∷ rest) ends s
    ]) some

-- the end of a rest that ends with a line feed ends with it
end_ends : (rest : List ℕ) → ends_line rest ≡ true → ends_line (end_of rest) ≡ true
end_ends [] ends = cc
end_ends (c ∷ []) ends = let is = eqb-true c line_feed ends in rw is refl
end_ends (c ∷ d ∷ []) ends =
    let is = eqb-true d line_feed ends in
    rw is (elim (cases_Bool (c == carriage_return)) [
      | inl returns ↦ rw returns refl
      | inr not ↦ rw not refl
    ])
end_ends (c ∷ d ∷ e ∷ rest) ends = end_ends (d ∷ e ∷ rest) ends

-- a text that is not nil isn't empty
not_nil : (text : List ℕ) → is_nil text ≡ false → text ≢ []
not_nil [] h e = cc
not_nil (c ∷ text) h e = cc

-- a comment that is written after one blank ends as it does
blank_ends : (comment : List ℕ) → comment ≢ [] → ends_line (space ∷ comment) ≡ ends_line comment
blank_ends [] some = absurd (some refl)
blank_ends (c ∷ comment) some = refl

-- of a negated disjunction the first part doesn't hold
first_not : (b c : Bool) → not (b || c) ≡ true → b ≡ false
first_not true c h = cc
first_not false c h = refl

-- each tail of a rest that ends with a line feed ends with one
tails_end : (rest : List ℕ) → ends_line rest ≡ true → EachEnds (tails rest)
tails_end rest ends =
    let comment = comment_of rest in (
      ends,
      each-append (where_true (not (is_nil comment || is_long rest)) (space ∷ comment))
          (where_true (is_nil comment) (end_of rest))
          (each_true (not (is_nil comment || is_long rest)) (space ∷ comment) (λ holds.
          let some = not_nil comment (first_not (is_nil comment) (is_long rest) holds) in
          blank_ends comment some ∙ comment_ends rest ends some))
          (each_true (is_nil comment) (end_of rest) (λ holds. end_ends rest ends)),
    )

-- each line with this form ends with a line feed, where its tails do
form_ends : (front form : List ℕ) (rests : List (List ℕ)) → EachEnds rests →
    EachEnds (map (λ rest. front ++ (form ++ rest)) rests)
form_ends front form [] each = tt
form_ends front form (rest ∷ rests) each =
    (ends_join front (form ++ rest) (ends_join form rest each.0), form_ends front form rests each.1)

-- each line that is tried ends with a line feed, where the rest does
candidates_end : (spot : Spot) (forms : List (List ℕ)) → ends_line spot.rest ≡ true → EachEnds (candidates spot forms)
candidates_end spot [] ends = tt
candidates_end spot (form ∷ forms) ends =
    each-append (form_lines spot form) (candidates spot forms)
    (form_ends spot.front form (tails spot.rest) (tails_end spot.rest ends)) (candidates_end spot forms ends)

tried_end : (how : How) (value : List ℕ) (spot : Spot) → ends_line spot.rest ≡ true →
    EachEnds (tried_lines how value spot)
tried_end how value spot ends = elim (cases_Bool how.is_portable) [
  | inl is ↦ rw is (candidates_end spot (spot_forms value spot) ends)
  | inr not ↦
      rw not (
        ends_join spot.front (spot.old ++ spot.rest) (ends_join spot.old spot.rest ends),
        candidates_end spot (old_forms spot.old value ++ plain_forms value) ends,
      )
]

-- The first line that is written.
-- a line that ends with a line feed is written alone just where it is before later bytes
written_same : (dialect : Dialect) (key value text later : List ℕ) → ends_line text ≡ true →
    IsWritten dialect key value (encode_utf8_all text) [] ↔ IsWritten dialect key value (encode_utf8_all text) later
written_same dialect key value text later ends =
    let fed = ends_same (encode_utf8_all text) ∙ text_ends text ∙ ends in (
      λ is. record {
        text = is.text;
        pieces = is.pieces;
        next = (stands_alone (encode_utf8_all text) later (HasText is.text) fed (λ is_open. is_open)).0 is.next;
        says = is.says;
        means = is.means;
      },
      λ is. record {
        text = is.text;
        pieces = is.pieces;
        next = (stands_alone (encode_utf8_all text) later (HasText is.text) fed (λ is_open. is_open)).1 is.next;
        says = is.says;
        means = is.means;
      },
    )

-- the first of texts of which P holds is the first of which Q holds, where they are the same
first_same : (P Q : List ℕ → Type 0) (texts : List (List ℕ)) (text : List ℕ) → EachEnds texts →
    ((t : List ℕ) → ends_line t ≡ true → P t ↔ Q t) → IsFirst P texts text → IsFirst Q texts text
first_same P Q [] text each same first = first
first_same P Q (one ∷ texts) text each same (inl (is, e)) = inl ((same one each.0).0 is, e)
first_same P Q (one ∷ texts) text each same (inr (not, later)) =
    inr (λ is. not ((same one each.0).1 is), first_same P Q texts text each.1 same later)

-- what a setting writes in a spot alone, it writes before later bytes
pub writes_before : {how : How} {key value text bytes : List ℕ} {spot : Spot} {line : List ℕ} (later : List ℕ) →
    IsSpot how.dialect key text bytes spot → HasLine bytes text → (later ≢ [] → ends_line bytes ≡ true) →
    WritesLine how key value spot [] line → WritesLine how key value spot later line
writes_before [] is has ends writes = writes
writes_before {how = how} {key} {value} {spot = spot} (c ∷ later) is has ends writes =
    let fed = rest_ends is has (ends (λ e. cc)) in record {
      text = writes.text;
      bytes = writes.bytes;
      first = first_same (λ t. IsWritten how.dialect key value (encode_utf8_all t) [])
          (λ t. IsWritten how.dialect key value (encode_utf8_all t) (c ∷ later)) (tried_lines how value spot)
          writes.text (tried_end how value spot fed)
          (λ t. written_same how.dialect key value t (c ∷ later)) writes.first;
    }
