-- A line with another key in the place of its key is a line that says the same of the other key.
use Rattle.std.proofs.Common.{◌≡◌, ◌≢◌, ℕ, suc, ◌+◌, ◌<◌, ◌≤◌, Bool, true, false, ◌&&◌, ◌||◌, not, List, [], ◌∷◌, ◌++◌}
use Rattle.std.proofs.Common.{map, refl, sym, ◌∙◌, ap, append_assoc, append-nil, length, length-append}
use Rattle.std.proofs.Common.{Some, None, inl, inr, arith, cond}
use Rattle.std.specs.Prelude.{◌==◌, ◌⊎◌, encode_utf8_all}
use Rattle.std.specs.Char.{is_whitespace}
use Rattle.std.specs.List.{list_all}
use Rattle.std.specs.Str.{drop_trailing_whitespace, skip_leading_whitespace}
use Rattle.std.proofs.Math.Utf8.{encode, scalar, scalars}
use Rattle.std.proofs.lemmas.Bool.{and_parts, cases_Bool}
use Rattle.std.proofs.lemmas.Bool.Decides.{nat_tests}
use Rattle.std.proofs.lemmas.List.{nil_from_length}
use Rattle.std.proofs.lemmas.List.Folds.{list_all-append}
use Rattle.std.proofs.lemmas.Str.{encodes-append, encodes_same}
use Rattle.dotenvy_format.specs.declared.walk.LineMode.{LineMode}
use Rattle.dotenvy_format.specs.declared.walk.LineMode.TheVariants.{AfterBlank, Escaping, Inside, InsideEscaping}
use Rattle.dotenvy_format.specs.declared.walk.LineMode.TheVariants.{Outside}
use Rattle.dotenvy_format.specs.Characters.{begins_with, carriage_return, continues_key, equals_sign, hash}
use Rattle.dotenvy_format.specs.Characters.{is_empty_or_comment, line_feed}
use Rattle.dotenvy_format.specs.Keys.{is_key}
use Rattle.dotenvy_format.specs.PhysicalLines.{AreCut, line_texts, no_line_feed}
use Rattle.dotenvy_format.specs.PhysicalLines.{physical_lines}
use Rattle.dotenvy_format.specs.LogicalLine.{HasText, IsNext, IsWhole, Logical}
use Rattle.dotenvy_format.specs.LogicalLine.{without_carriage_return}
use Rattle.dotenvy_format.specs.Outcome.{trimmed}
use Rattle.dotenvy_format.specs.Statement.{IsPrefix, IsStatement, is_white_space}
use Rattle.dotenvy_format.specs.inside.Walk.{Walk, ended, going, kept_before, leads, walk, walked}
use Rattle.dotenvy_format.proofs.KeyCharacters.{key_continues}
use Rattle.dotenvy_format.proofs.lines.Cuts.{encode_some, lines_some, line_texts-encodes}
use Rattle.dotenvy_format.proofs.lines.Splitting.{walk-append, whole_walks}
use Rattle.dotenvy_format.proofs.lines.NextLine.{Lines, after_walk, at_input_end, ends_line, ends_line-append}
use Rattle.dotenvy_format.proofs.lines.NextLine.{next_from}
use Rattle.dotenvy_format.proofs.lines.SplitLines.{is_skipped, next_of-is, next_once, next_shown}
use Rattle.dotenvy_format.proofs.lines.EntriesOnce.{cut_line_texts}
use Rattle.dotenvy_format.proofs.statements.Statements.{skip_white}
use Rattle.dotenvy_editor.specs.Slices.{IsNextSlice, line_count}
use Rattle.dotenvy_editor.proofs.SlicesAlone.{alone_is, alone_next, texts_count}
use Rattle.dotenvy_editor.proofs.TrimmedTexts.{trimmed_front}
use Rattle.dotenvy_editor.proofs.SlicesChained.{same_rest}
use Rattle.dotenvy_editor.proofs.SliceTexts.{all_first, kept_front, return_front, text_alone}
use Rattle.dotenvy_editor.proofs.EntriesMarked.{word_first}

-- The walk over what is in front of a key, and over the key.
-- outside quotes, after a whole token or a blank
abbrev pub IsPlain : LineMode → Type 0
IsPlain Outside = Unit {0}
IsPlain AfterBlank = Unit {0}
IsPlain _ = ⊥

-- white space, or a character of a key
abbrev pub is_front : ℕ → Bool
is_front c = is_whitespace c || continues_key c

-- where such a character leads: it is a line feed, which ends the line, or the line goes on outside quotes
abbrev Leads : LineMode → ℕ → Type 0
Leads m c =
    ((c ≡ line_feed) × (leads m c ≡ None))
    ⊎ (((c == line_feed) ≡ false)
    × ((leads m c ≡ Some Outside) ⊎ (leads m c ≡ Some AfterBlank)))

outside_goes : (c : ℕ) → is_front c ≡ true → Leads Outside c
outside_goes c h = grind (arith, nat_tests, h)

blank_goes : (c : ℕ) → is_front c ≡ true → Leads AfterBlank c
blank_goes c h = grind (arith, nat_tests, h)

front_goes : (m : LineMode) (c : ℕ) → IsPlain m → is_front c ≡ true → Leads m c
front_goes Outside c plain h = outside_goes c h
front_goes AfterBlank c plain h = blank_goes c h
front_goes Escaping c plain h = absurd plain
front_goes (Inside quote) c plain h = absurd plain
front_goes (InsideEscaping quote) c plain h = absurd plain

-- a character of a key leads outside
outside_key : (c : ℕ) → continues_key c ≡ true → leads Outside c ≡ Some Outside
outside_key c h = grind (arith, nat_tests, h)

blank_key : (c : ℕ) → continues_key c ≡ true → leads AfterBlank c ≡ Some Outside
blank_key c h = grind (arith, nat_tests, h)

plain_key : (m : LineMode) (c : ℕ) → IsPlain m → continues_key c ≡ true → leads m c ≡ Some Outside
plain_key Outside c plain h = outside_key c h
plain_key AfterBlank c plain h = blank_key c h
plain_key Escaping c plain h = absurd plain
plain_key (Inside quote) c plain h = absurd plain
plain_key (InsideEscaping quote) c plain h = absurd plain

-- a walk ended in the text, and kept less of it
abbrev EndsWithin : LineMode → (seen text : List ℕ) → Type 0
EndsWithin m seen text =
    (kept : List ℕ) × (walk m seen text ≡ ended kept) × (length kept < length seen + length text)

-- a walk passed the text, which has no line feed
abbrev Passes : LineMode → (seen text : List ℕ) → Type 0
Passes m seen text =
    (no_line_feed text ≡ true) × (n : LineMode) × (walk m seen text ≡ going n) × IsPlain n

-- a walk over what may be in front of a key ends within it, or passes it
front_walk : (m : LineMode) (seen text : List ℕ) → IsPlain m → list_all is_front text ≡ true →
    EndsWithin m seen text ⊎ Passes m seen text
front_walk m seen [] plain h = inr (refl, m, refl, plain)
front_walk m seen (c ∷ text) plain h =
    let p = all_first is_front c text h in
    elim (front_goes m c plain p.0) [
      | inl (is, none) ↦
          let front = return_front seen in
          let size = ap length front.1 in
          let sum = length-append (without_carriage_return seen) front.0 in
          inl (without_carriage_return seen, rw (none, is) refl, omega (arith, size, sum))
      | inr (differs, inl lead) ↦ on Outside differs lead tt (front_walk Outside (seen ++ c ∷ []) text tt p.1)
      | inr (differs, inr lead) ↦ on AfterBlank differs lead tt (front_walk AfterBlank (seen ++ c ∷ []) text tt p.1)
    ]
  where
    on : (n : LineMode) → (c == line_feed) ≡ false → leads m c ≡ Some n → IsPlain n →
        EndsWithin n (seen ++ c ∷ []) text ⊎ Passes n (seen ++ c ∷ []) text →
        EndsWithin m seen (c ∷ text) ⊎ Passes m seen (c ∷ text)
    on n differs lead plain_n (inl (kept, ends, less)) =
        inl (kept, rw lead ends, omega (arith, less, length-append seen (c ∷ [])))
    on n differs lead plain_n (inr (none, k, goes, plain_k)) = inr (rw differs none, k, rw lead goes, plain_k)

-- a walk passes characters of a key
run_walk : (seen key more : List ℕ) → list_all continues_key key ≡ true →
    walk Outside seen (key ++ more) ≡ walk Outside (seen ++ key) more
run_walk seen [] more h = rw append-nil refl
run_walk seen (c ∷ key) more h =
    let p = all_first continues_key c key h in
    rw (outside_key c p.0) (rw (append_assoc seen (c ∷ []) key) at (run_walk (seen ++ c ∷ []) key more p.1))

-- a walk passes a key, and is outside after it
key_walk : (m : LineMode) (seen key more : List ℕ) → IsPlain m → is_key key ≡ true →
    walk m seen (key ++ more) ≡ walk Outside (seen ++ key) more
key_walk m seen [] more plain h = cc
key_walk m seen (c ∷ key) more plain h =
    let p = all_first continues_key c key (key_continues (c ∷ key) h) in
    rw (plain_key m c plain p.0) (rw (append_assoc seen (c ∷ []) key) at (run_walk (seen ++ c ∷ []) key more p.1))

-- Walks after two texts.
-- after a text that ends in no carriage return, one at the end of what follows goes
return_behind : (seen more : List ℕ) → without_carriage_return seen ≡ seen →
    without_carriage_return (seen ++ more) ≡ seen ++ without_carriage_return more
return_behind [] more h = refl
return_behind (c ∷ []) [] h = h
return_behind (c ∷ []) (d ∷ more) h = refl
return_behind (c ∷ d ∷ seen) more h =
    let rest : without_carriage_return (d ∷ seen) ≡ d ∷ seen = cc in
    ap (◌∷◌ c) (return_behind (d ∷ seen) more rest)

-- a walk after the other text goes as this one, and keeps the other text in the place of the first
abbrev WalksAlike : (seen other : List ℕ) → Walk → Walk → Type 0
WalksAlike seen other (going m) w = w ≡ going m
WalksAlike seen other (ended kept) w = (more : List ℕ) × (kept ≡ seen ++ more) × (w ≡ ended (other ++ more))

-- what is kept before a character that ends the line, after a text
kept_behind : (c : ℕ) (seen more : List ℕ) → without_carriage_return seen ≡ seen →
    kept_before c (seen ++ more) ≡ seen ++ kept_before c more
kept_behind c seen more h = elim (cases_Bool (c == line_feed)) [
  | inl is ↦ rw is (return_behind seen more h)
  | inr differs ↦ rw differs refl
]

walks_alike : (m : LineMode) (seen other more text : List ℕ) → without_carriage_return seen ≡ seen →
    without_carriage_return other ≡ other →
    WalksAlike seen other (walk m (seen ++ more) text) (walk m (other ++ more) text)
walks_alike m seen other more [] h k = refl
walks_alike m seen other more (c ∷ text) h k =
    elim (leads m c) as (λ o.
    WalksAlike seen other (walked o c (seen ++ more) (λ n. walk n ((seen ++ more) ++ c ∷ []) text))
    (walked o c (other ++ more) (λ n. walk n ((other ++ more) ++ c ∷ []) text))) [
      | None ↦ (
        kept_before c more,
        kept_behind c seen more h,
        ap ended (kept_behind c other more k),
      )
      | Some n ↦
          rw (append_assoc seen more (c ∷ []), append_assoc other more (c ∷ []))
          (walks_alike n seen other (more ++ c ∷ []) text h k)
    ]

-- where a next logical line is a text, the other one is the same with the other text in the place of the first
abbrev NextAlike : (seen other : List ℕ) → ℕ × Logical → ℕ × Logical → Type 0
NextAlike seen other p q =
    (kept : List ℕ) → p.1 ≡ HasText kept →
    (more : List ℕ) × (kept ≡ seen ++ more) × (q.0 ≡ p.0) × (q.1 ≡ HasText (other ++ more))

-- at the end of the input
end_alike : (m : LineMode) (seen other more : List ℕ) →
    NextAlike seen other (0, at_input_end m (seen ++ more)) (0, at_input_end m (other ++ more))
end_alike Outside seen other more kept e = (more, sym (text_is e), refl, refl)
  where
    text_is : {xs ys : List ℕ} → HasText xs ≡ HasText ys → xs ≡ ys
    text_is h = cc
end_alike Escaping seen other more kept e = cc
end_alike (Inside quote) seen other more kept e = cc
end_alike (InsideEscaping quote) seen other more kept e = cc
end_alike AfterBlank seen other more kept e = cc

next_alike : (m : LineMode) (seen other more : List ℕ) (lines : Lines) → without_carriage_return seen ≡ seen →
    without_carriage_return other ≡ other →
    NextAlike seen other (next_from m (seen ++ more) lines) (next_from m (other ++ more) lines)
next_alike m seen other more [] h k = end_alike m seen other more
next_alike m seen other more (None ∷ lines) h k = λ kept e. cc
next_alike m seen other more (Some text ∷ lines) h k =
    at (walk m (seen ++ more) text) (walk m (other ++ more) text) (walks_alike m seen other more text h k)
    (λ n.
    rw (append_assoc seen more text, append_assoc other more text)
    (next_alike n seen other (more ++ text) lines h k))
  where
    at : (v w : Walk) → WalksAlike seen other v w →
        ((n : LineMode) →
        NextAlike seen other (next_from n ((seen ++ more) ++ text) lines)
        (next_from n ((other ++ more) ++ text) lines)) →
        NextAlike seen other (after_walk v (λ n. next_from n ((seen ++ more) ++ text) lines))
        (after_walk w (λ n. next_from n ((other ++ more) ++ text) lines))
    at (going n) w e rest kept is =
        let r = rest n kept is in rw e (r.0, r.1, ap suc r.2, r.3)
    at (ended text_kept) w (y, f, e) rest kept is =
        let same : text_kept ≡ kept = cc in rw e (y, sym same ∙ f, refl, refl)

-- The physical lines of a text with a key.
-- a text without a line feed is in front of the first line of what follows it
front_lines : (front more line : List ℕ) (lines : List (List ℕ)) → no_line_feed front ≡ true →
    physical_lines more ≡ line ∷ lines → physical_lines (front ++ more) ≡ (front ++ line) ∷ lines
front_lines [] more line lines h e = e
front_lines (c ∷ front) more line lines h e =
    let p = all_first (λ d. not (d == line_feed)) c front h in
    rw (not_feed c p.0, front_lines front more line lines p.1 e) refl
  where
    not_feed : (c : ℕ) → not (c == line_feed) ≡ true → (c == line_feed) ≡ false
    not_feed c h = grind (arith, nat_tests)

-- a key has no line feed, and no carriage return at its end
key_no_feed : (key : List ℕ) → list_all continues_key key ≡ true → no_line_feed key ≡ true
key_no_feed [] h = refl
key_no_feed (c ∷ key) h =
    let p = all_first continues_key c key h in rw (not_feed c p.0, key_no_feed key p.1) refl
  where
    not_feed : (c : ℕ) → continues_key c ≡ true → not (c == line_feed) ≡ true
    not_feed c h = grind (arith, nat_tests, h)

key_no_return : (key : List ℕ) → list_all continues_key key ≡ true → without_carriage_return key ≡ key
key_no_return [] h = refl
key_no_return (c ∷ []) h =
    let p = all_first continues_key c [] h in rw (not_return c p.0) refl
  where
    not_return : (c : ℕ) → continues_key c ≡ true → (c == carriage_return) ≡ false
    not_return c h = grind (arith, nat_tests, h)
key_no_return (c ∷ d ∷ key) h =
    let p = all_first continues_key c (d ∷ key) h in ap (◌∷◌ c) (key_no_return (d ∷ key) p.1)

-- with any text before a key, none is at the end
behind_no_return : (front key : List ℕ) → is_key key ≡ true →
    without_carriage_return (front ++ key) ≡ front ++ key
behind_no_return [] key is = key_no_return key (key_continues key is)
behind_no_return (c ∷ []) [] is = cc
behind_no_return (c ∷ []) (d ∷ key) is = ap (◌∷◌ c) (key_no_return (d ∷ key) (key_continues (d ∷ key) is))
behind_no_return (c ∷ d ∷ front) key is = ap (◌∷◌ c) (behind_no_return (d ∷ front) key is)

-- the loop over the lines of a text with a key is that after the key
key_next : (n : LineMode) (front key line : List ℕ) (lines : Lines) → walk Outside [] front ≡ going n → IsPlain n →
    is_key key ≡ true →
    next_from Outside [] (Some (front ++ (key ++ line)) ∷ lines) ≡ next_from Outside (front ++ key) (Some line ∷ lines)
key_next n front key line lines goes plain is =
    let walks : walk Outside [] (front ++ (key ++ line)) ≡ walk Outside (front ++ key) line =
    walk-append Outside [] front (key ++ line) ∙ rw goes (key_walk n front key line plain is) in
    rw (walks, ← append_assoc front key line) refl

-- White space at the end.
-- where something is left of what follows, all before it stays
trim_behind : (front more : List ℕ) → 0 < length (drop_trailing_whitespace more) →
    drop_trailing_whitespace (front ++ more) ≡ front ++ drop_trailing_whitespace more
trim_behind [] more some = refl
trim_behind (c ∷ front) more some =
    let rest = trim_behind front more some in
    let size = length-append front (drop_trailing_whitespace more) in
    let differs : (length (front ++ drop_trailing_whitespace more) == 0) ≡ false =
    positive _ (omega (arith, size)) in
    rw (rest, differs, and_false (is_whitespace c)) refl
  where
    positive : (n : ℕ) → 0 < n → (n == 0) ≡ false
    positive n h = grind (arith, nat_tests)

    and_false : (b : Bool) → (b && false) ≡ false
    and_false true = refl
    and_false false = refl

-- where nothing is left of what follows, no more than what is before it stays
trim_short : (front more : List ℕ) → drop_trailing_whitespace more ≡ [] →
    length (drop_trailing_whitespace (front ++ more)) ≤ length front
trim_short [] more none = rw none (omega arith)
trim_short (c ∷ front) more none =
    let rest = trim_short front more none in
    elim (is_whitespace c && length (drop_trailing_whitespace (front ++ more)) == 0) as (λ b.
    length (cond b [] (c ∷ drop_trailing_whitespace (front ++ more))) ≤ suc (length front)) [
      | true ↦ omega arith
      | false ↦ omega arith
    ]

-- where a text is trimmed to a front and more, what follows the front is trimmed to this
trim_more : (front more left : List ℕ) → drop_trailing_whitespace (front ++ more) ≡ front ++ left → left ≢ [] →
    drop_trailing_whitespace more ≡ left
trim_more front more left e some = at (drop_trailing_whitespace more) refl
  where
    at : (rest : List ℕ) → drop_trailing_whitespace more ≡ rest → drop_trailing_whitespace more ≡ left
    at [] f =
        let short = trim_short front more f in
        let size = ap length e in
        absurd (some (nil_from_length left (omega (arith, short, size, length-append front left))))
    at (c ∷ rest) f =
        let size : length (drop_trailing_whitespace more) ≡ suc (length rest) = ap length f in
        let is = trim_behind front more (omega (arith, size)) in
        same_rest front (drop_trailing_whitespace more) left (sym is ∙ e)

-- The line with the other key.
-- all that may be in front of a key
fronts : (indent prefix : List ℕ) → is_white_space indent ≡ true → IsPrefix prefix →
    list_all is_front (indent ++ prefix) ≡ true
fronts indent prefix white is =
    rw (list_all-append is_front indent prefix, white_front indent white) (prefix_front prefix is)
  where
    white_front : (text : List ℕ) → list_all is_whitespace text ≡ true → list_all is_front text ≡ true
    white_front [] h = refl
    white_front (c ∷ text) h = let p = all_first is_whitespace c text h in rw (p.0, white_front text p.1) refl

    prefix_front : (prefix : List ℕ) → IsPrefix prefix → list_all is_front prefix ≡ true
    prefix_front prefix (inl none) = rw none refl
    prefix_front prefix (inr (first, gap, exports, white)) = rw exports (white_front (first ∷ gap) white)

-- a text with a key isn't skipped
word_shown : (indent prefix key more : List ℕ) → is_white_space indent ≡ true → IsPrefix prefix → is_key key ≡ true →
    begins_with hash (skip_leading_whitespace (indent ++ (prefix ++ (key ++ more)))) ≡ false
word_shown indent prefix key more white is_prefix is =
    let word = word_first prefix key more is is_prefix in
    rw (skip_white indent (prefix ++ (key ++ more)) white word.0) (no_hash (prefix ++ (key ++ more)) word.1)
  where
    no_hash : (text : List ℕ) → is_empty_or_comment text ≡ false → begins_with hash text ≡ false
    no_hash [] h = cc
    no_hash (c ∷ text) h = h

-- a text with a key, as lines
lines_of_key : (front key later bytes line : List ℕ) (rest : List (List ℕ)) → no_line_feed front ≡ true →
    is_key key ≡ true → scalars (front ++ (key ++ later)) ≡ true → bytes ≡ encode_utf8_all (front ++ (key ++ later)) →
    physical_lines later ≡ line ∷ rest → line_texts bytes ≡ Some (front ++ (key ++ line)) ∷ map Some rest
lines_of_key front key later bytes line rest none is are spelled e =
    let behind = front_lines key later line rest (key_no_feed key (key_continues key is)) e in
    let all = front_lines front (key ++ later) (key ++ line) rest none behind in
    ap line_texts spelled ∙ line_texts-encodes (front ++ (key ++ later)) are ∙ ap (map Some) all

-- some text has a first line
first_line : (text : List ℕ) → text ≢ [] →
    (line : List ℕ) × (rest : List (List ℕ)) × (physical_lines text ≡ line ∷ rest)
first_line [] some = absurd (some refl)
first_line (c ∷ text) some = at (physical_lines (c ∷ text)) refl
  where
    at : (lines : List (List ℕ)) → physical_lines (c ∷ text) ≡ lines →
        (line : List ℕ) × (rest : List (List ℕ)) × (physical_lines (c ∷ text) ≡ line ∷ rest)
    at [] e = absurd (lines_some c text e)
    at (line ∷ rest) e = (line, rest, e)

-- characters of a key are Unicode scalar values
key_scalars : (key : List ℕ) → list_all continues_key key ≡ true → scalars key ≡ true
key_scalars [] h = refl
key_scalars (c ∷ key) h = let p = all_first continues_key c key h in rw (one c p.0, key_scalars key p.1) refl
  where
    one : (c : ℕ) → continues_key c ≡ true → scalar c ≡ true
    one c h = grind (arith, nat_tests, h)

-- a text of scalar values, with another key
other_scalars : (front old new later : List ℕ) → is_key new ≡ true → scalars (front ++ (old ++ later)) ≡ true →
    scalars (front ++ (new ++ later)) ≡ true
other_scalars front old new later is are =
    let outer = and_parts (scalars front) (scalars (old ++ later))
    (sym (list_all-append scalar front (old ++ later)) ∙ are) in
    let inner = and_parts (scalars old) (scalars later) (sym (list_all-append scalar old later) ∙ outer.1) in
    rw (
      list_all-append scalar front (new ++ later),
      list_all-append scalar new later,
      outer.0,
      key_scalars new (key_continues new is),
      inner.1,
    ) refl

-- equal texts of logical lines
text_same : {xs ys : List ℕ} → HasText xs ≡ HasText ys → xs ≡ ys
text_same h = cc

-- the next logical line of lines of which the first isn't skipped
next_is : (lines : Lines) (k : ℕ) (o : Logical) → lines ≢ [] → AreCut lines → is_skipped lines ≡ false →
    IsNext lines k o → next_from Outside [] lines ≡ (k, o)
next_is lines k o some cut shown is = sym (next_shown lines shown) ∙ next_once lines k o some cut is

-- what the loop says of such lines is their next logical line
is_next : (lines : Lines) (k : ℕ) (o : Logical) → lines ≢ [] → AreCut lines → is_skipped lines ≡ false →
    (next_from Outside [] lines).0 ≡ k → (next_from Outside [] lines).1 ≡ o → IsNext lines k o
is_next lines k o some cut shown number kind =
    let is = next_of-is lines some cut in
    let e = next_shown lines shown in
    rw (← number, ← kind) (rw e at is)

-- the line with another key, where what is in front of the key is passed, keeps what was kept, with the other key
pub record KeepsOther (front old new kept line : List ℕ) : Type 0 where
  pub more : List ℕ
  pub kept_is : kept ≡ (front ++ old) ++ more
  pub alone : IsNextSlice line (HasText ((front ++ new) ++ more)) []

keeps_other : (front old new kept later bytes line first : List ℕ) (rest : List (List ℕ)) →
    list_all is_front front ≡ true → is_key old ≡ true → is_key new ≡ true → physical_lines later ≡ first ∷ rest →
    ((key more : List ℕ) → is_key key ≡ true →
    begins_with hash (skip_leading_whitespace (front ++ (key ++ more))) ≡ false) →
    scalars (front ++ (old ++ later)) ≡ true → bytes ≡ encode_utf8_all (front ++ (old ++ later)) →
    line ≡ encode_utf8_all (front ++ (new ++ later)) → length front ≤ length kept →
    IsWhole (front ++ (old ++ later)) kept (Unit {0}) → IsNextSlice bytes (HasText kept) [] →
    KeepsOther front old new kept line
keeps_other front old new kept later bytes line first rest fronts is_old is_new e shown are spelled line_is long whole
    alone = elim (front_walk Outside [] front tt fronts) [ inl ends ↦ absurd (never ends) | inr passes ↦ other passes ]
  where
    never : EndsWithin Outside [] front → ⊥
    never (short, goes, less) =
        let walks : walk Outside [] (front ++ (old ++ later)) ≡ ended short =
        walk-append Outside [] front (old ++ later) ∙ rw goes refl in
        elim (whole_walks whole) [
          | inl h ↦ let same : kept ≡ short = cc in let size = ap length same in omega (arith, size, less, long)
          | inr h ↦ let passed = h.0 in cc
        ]

    other : Passes Outside [] front → KeepsOther front old new kept line
    other (none, n, goes, plain) =
        let old_lines : Lines = Some (front ++ (old ++ first)) ∷ map Some rest in
        let new_lines : Lines = Some (front ++ (new ++ first)) ∷ map Some rest in
        let a : line_texts bytes ≡ old_lines =
        lines_of_key front old later bytes first rest none is_old are spelled e in
        let b : line_texts line ≡ new_lines =
        lines_of_key front new later line first rest none is_new (other_scalars front old new later is_new are) line_is
        e in
        let next : IsNext old_lines (line_count bytes) (HasText kept) =
        rw a at (alone_next bytes (HasText kept) alone) in
        let is =
        next_is old_lines (line_count bytes) (HasText kept) (λ z. cc) (rw a at (cut_line_texts bytes))
        (shown old first is_old) next in
        let alike = next_alike Outside (front ++ old) (front ++ new) [] (Some first ∷ map Some rest)
        (behind_no_return front old is_old) (behind_no_return front new is_new) in
        let same = rw (append-nil (front ++ old), append-nil (front ++ new)) at alike in
        let from_old = key_next n front old first (map Some rest) goes plain is_old in
        let from_new = key_next n front new first (map Some rest) goes plain is_new in
        let found = sym from_old ∙ is in
        let r = same kept (ap (λ (p : ℕ × Logical). p.1) found) in
        let count_a = ap length a in
        let count_b = ap length b in
        let count : line_count bytes ≡ line_count line =
        omega (arith, count_a, count_b, texts_count bytes, texts_count line) in
        let number = ap (λ (p : ℕ × Logical). p.0) from_new ∙ r.2 ∙ ap (λ (p : ℕ × Logical). p.0) found ∙ count in
        let kind = ap (λ (p : ℕ × Logical). p.1) from_new ∙ r.3 in
        let some : line ≢ [] = λ z. let k : line_texts line ≡ [] = rw z refl in
        let j : new_lines ≡ [] = sym b ∙ k in cc in
        record {
          more = r.0;
          kept_is = r.1;
          alone =
              alone_is line (HasText ((front ++ new) ++ r.0)) some
              (rw b (is_next new_lines (line_count line) (HasText ((front ++ new) ++ r.0)) (λ z. cc)
              (rw b at (cut_line_texts line)) (shown new first is_new) number kind));
        }

-- bytes after others end with a line feed just where they do alone
ends_some : (xs ys : List ℕ) → 0 < length ys → ends_line (xs ++ ys) ≡ ends_line ys
ends_some xs [] h = absurd (omega arith)
ends_some xs (c ∷ ys) h = ends_line-append xs c ys

-- a text after a key ends with a line feed just where it does alone
ends_behind : (front key later : List ℕ) → later ≢ [] →
    ends_line (encode_utf8_all (front ++ (key ++ later))) ≡ ends_line (encode_utf8_all later)
ends_behind front key [] some = absurd (some refl)
ends_behind front key (c ∷ later) some =
    let all = encode_utf8_all (c ∷ later) in
    let own = length-append (encode c) (encode_utf8_all later) in
    let size : 0 < length all = omega (arith, own, encode_some c) in
    let keyed = length-append (encode_utf8_all key) all in
    rw (encodes-append front (key ++ c ∷ later), encodes-append key (c ∷ later))
    (ends_some (encode_utf8_all front) (encode_utf8_all key ++ all) (omega (arith, size, keyed))
    ∙ ends_some (encode_utf8_all key) all size)

-- a line ends with a line feed where it does with another key
ends_alike : (front old new later bytes line : List ℕ) → later ≢ [] →
    bytes ≡ encode_utf8_all (front ++ (old ++ later)) → line ≡ encode_utf8_all (front ++ (new ++ later)) →
    ends_line bytes ≡ true → ends_line line ≡ true
ends_alike front old new later bytes line some a b end =
    rw (b, ends_behind front new later some) (rw (a, ends_behind front old later some) at end)

-- some text is long
long_some : (text : List ℕ) → text ≢ [] → 0 < length text
long_some [] some = absurd (some refl)
long_some (c ∷ text) some = omega arith

-- something is after the key of a text, if something is after it in the trimmed text
behind_some : (front old later left white more kept : List ℕ) → left ≢ [] →
    kept ≡ (front ++ (old ++ left)) ++ white → front ++ (old ++ later) ≡ kept ++ more → later ≢ []
behind_some front old later left white more kept some e f none =
    let a = ap length e in
    let b = ap length f in
    let c = ap length none in
    some (nil_from_length left (omega (
      arith,
      a,
      b,
      c,
      length-append front (old ++ later),
      length-append old later,
      length-append (front ++ (old ++ left)) white,
      length-append front (old ++ left),
      length-append old left,
      length-append kept more,
    )))

-- a line with a key by its characters
record HasKey (front old later kept : List ℕ) : Type 0 where
  some : later ≢ []
  long : length front ≤ length kept
  are_scalars : scalars (front ++ (old ++ later)) ≡ true
  whole : IsWhole (front ++ (old ++ later)) kept (Unit {0})

has_key : (front old later left kept bytes : List ℕ) → IsNextSlice bytes (HasText kept) [] →
    trimmed kept ≡ front ++ (old ++ left) → left ≢ [] → bytes ≡ encode_utf8_all (front ++ (old ++ later)) →
    HasKey front old later kept
has_key front old later left kept bytes alone trims some spelled =
    let t = text_alone bytes kept alone in
    let is : t.text ≡ front ++ (old ++ later) =
    encodes_same t.text (front ++ (old ++ later)) (sym t.spells ∙ spelled) in
    let trim = trimmed_front kept in
    let cut = kept_front t.whole in
    let size = ap length trim.1 in
    let trim_size = ap length trims in
    record {
      some =
          behind_some front old later left trim.0 cut.0 kept some (trim.1 ∙ ap (λ x. x ++ trim.0) trims)
          (sym is ∙ cut.1);
      long =
          omega (
            arith,
            size,
            trim_size,
            length-append (trimmed kept) trim.0,
            length-append front (old ++ left),
          );
      are_scalars = rw is at t.are_scalars;
      whole = rw is at t.whole;
    }

-- with another key, the text is trimmed to the same after it
trimmed_other : (front old new more kept left : List ℕ) → kept ≡ (front ++ old) ++ more →
    trimmed kept ≡ front ++ (old ++ left) → left ≢ [] → trimmed ((front ++ new) ++ more) ≡ (front ++ new) ++ left
trimmed_other front old new more kept left e trims some =
    let old_is : trimmed ((front ++ old) ++ more) ≡ (front ++ old) ++ left =
    ap trimmed (sym e) ∙ trims ∙ sym (append_assoc front old left) in
    let rest : trimmed more ≡ left = trim_more (front ++ old) more left old_is some in
    let size = ap length rest in
    trim_behind (front ++ new) more (omega (arith, size, long_some left some)) ∙ ap (◌++◌ (front ++ new)) rest

-- a trimmed text by its parts
in_parts : (indent prefix key left text : List ℕ) → trimmed text ≡ ((indent ++ prefix) ++ key) ++ left →
    trimmed text ≡ indent ++ (prefix ++ (key ++ left))
in_parts indent prefix key left text e =
    e ∙ append_assoc (indent ++ prefix) key left ∙ append_assoc indent prefix (key ++ left)

-- a list with an element isn't empty
element_some : (xs : List ℕ) (c : ℕ) (ys : List ℕ) → xs ++ c ∷ ys ≢ []
element_some [] c ys e = cc
element_some (x ∷ xs) c ys e = cc

-- a line in which another key is in the place of its key is a line that assigns the same to the other key
pub record IsRenamed (new assigned bytes line : List ℕ) : Type 0 where
  pub kept : List ℕ
  pub ends : ends_line bytes ≡ true → ends_line line ≡ true
  pub alone : IsNextSlice line (HasText kept) []
  pub statement : IsStatement (trimmed kept) new assigned

pub renamed_line : (old new kept assigned later bytes line : List ℕ) → is_key new ≡ true →
    (statement : IsStatement (trimmed kept) old assigned) →
    bytes ≡ encode_utf8_all (statement.indent ++ (statement.prefix ++ (old ++ later))) →
    line ≡ encode_utf8_all (statement.indent ++ (statement.prefix ++ (new ++ later))) →
    IsNextSlice bytes (HasText kept) [] → IsRenamed new assigned bytes line
renamed_line old new kept assigned later bytes line is_new st spelled line_is alone =
    let front = st.indent ++ st.prefix in
    let left = st.before ++ equals_sign ∷ (st.after ++ assigned) in
    let joined = λ (more : List ℕ). sym (append_assoc st.indent st.prefix more) in
    let trims : trimmed kept ≡ front ++ (old ++ left) = st.spelled ∙ joined (old ++ left) in
    let some : left ≢ [] = element_some st.before equals_sign (st.after ++ assigned) in
    let a : bytes ≡ encode_utf8_all (front ++ (old ++ later)) =
    spelled ∙ ap encode_utf8_all (joined (old ++ later)) in
    let b : line ≡ encode_utf8_all (front ++ (new ++ later)) =
    line_is ∙ ap encode_utf8_all (joined (new ++ later)) in
    let h = has_key front old later left kept bytes alone trims some a in
    let white = indent_white st in
    let first = first_line later h.some in
    let k = keeps_other front old new kept later bytes line first.0 first.1
    (fronts st.indent st.prefix white st.is_prefix) st.is_key is_new first.2
    (λ key more is.
    ap (λ x. begins_with hash (skip_leading_whitespace x)) (sym (joined (key ++ more)))
    ∙ word_shown st.indent st.prefix key more white st.is_prefix is)
    h.are_scalars a b h.long h.whole alone in
    let trims_new = trimmed_other front old new k.more kept left k.kept_is trims some in
    record {
      kept = (front ++ new) ++ k.more;
      ends = ends_alike front old new later bytes line h.some a b;
      alone = k.alone;
      statement = record {
        indent = st.indent;
        prefix = st.prefix;
        before = st.before;
        after = st.after;
        white_space = st.white_space;
        is_prefix = st.is_prefix;
        is_key = is_new;
        trimmed = st.trimmed;
        spelled = in_parts st.indent st.prefix new left ((front ++ new) ++ k.more) trims_new;
      };
    }
  where
    indent_white : {text key : List ℕ} (is : IsStatement text key assigned) → is_white_space is.indent ≡ true
    indent_white is =
        let all = and_parts _ _ is.white_space in let both = and_parts _ _ all.0 in both.0
