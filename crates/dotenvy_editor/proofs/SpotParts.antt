-- The parts of an assignment's line.
use Rattle.std.proofs.Common.{◌≡◌, ◌≢◌, ℕ, true, not, List, [], ◌∷◌, ◌++◌, length, refl, sym, ap, ◌∙◌}
use Rattle.std.proofs.Common.{◌≤◌, arith, inl, inr, append_assoc, append-nil, drop, take, length-append}
use Rattle.std.proofs.Math.Seq.{drop-append_seam, take-append_seam}
use Rattle.std.specs.Prelude.{Option, Some, None, ◌&&◌, if◌then◌else◌}
use Rattle.std.specs.Char.{is_whitespace}
use Rattle.std.specs.List.{list_all}
use Rattle.std.specs.Str.{chars, encode_utf8_all, IsCharBoundary, IsUtf8, all_scalars, trim_end}
use Rattle.std.proofs.lemmas.Bool.{and_parts, cases_Bool}
use Rattle.std.proofs.lemmas.Bool.Decides.{nat_tests}
use Rattle.std.proofs.lemmas.List.{append_cancel_right}
use Rattle.std.proofs.lemmas.List.Folds.{list_all-append}
use Rattle.std.proofs.Math.Utf8.{scalar}
use Rattle.std.proofs.lemmas.Str.{
  chars-encodes,
  chars_from_encodes,
  IsCharBoundary-from_take,
  IsUtf8-drop,
  encode_ascii,
  encodes-append,
  encodes-chars,
  scalars-chars,
}
use Rattle.dotenvy.specs.Dialect.{Dialect}
use Rattle.dotenvy.specs.Characters.{byte_len, continues_key, equals_sign, is_empty_or_comment}
use Rattle.dotenvy.specs.Keys.{is_key}
use Rattle.dotenvy.specs.Outcome.{trimmed}
use Rattle.dotenvy.specs.Statement.{IsStatement, is_white_space}
use Rattle.dotenvy.specs.Value.{Close, no_close, lone_backslash, bare_name, tail, close_text, segments_text}
use Rattle.dotenvy_format.proofs.KeyCharacters.{key_continues}
use Rattle.dotenvy_format.proofs.statements.StatementParts.{chars-trim_end}
use Rattle.dotenvy_editor.specs.Assignments.{IsOldValue, IsSpot, meant_close}
use Rattle.dotenvy_editor.specs.declared.values.Value.{Value}
use Rattle.dotenvy_editor.specs.Slices.{HasLine}
use Rattle.dotenvy_editor.specs.Told.{TellsPart}
use Rattle.dotenvy_editor.proofs.SliceTexts.{line_bytes}
use Rattle.dotenvy_editor.proofs.TrimmedTexts.{trimmed_front, trimmed_to}

-- the text of a statement up to its key's end, up to `=`, and up to what is assigned
abbrev pub named_text : {line key assigned : List ℕ} → IsStatement line key assigned → List ℕ
named_text {key = key} s = s.indent ++ (s.prefix ++ key)

abbrev pub before_equals : {line key assigned : List ℕ} → IsStatement line key assigned → List ℕ
before_equals {key = key} s = s.indent ++ (s.prefix ++ (key ++ s.before))

abbrev pub before_value : {line key assigned : List ℕ} → IsStatement line key assigned → List ℕ
before_value {key = key} s = s.indent ++ (s.prefix ++ (key ++ (s.before ++ equals_sign ∷ s.after)))

-- a statement is the text up to what is assigned, and that
pub statement_cut : {line key assigned : List ℕ} (s : IsStatement line key assigned) →
    line ≡ before_value s ++ assigned
statement_cut s = s.spelled ∙ sym (simp append_assoc)

-- the text up to what is assigned is that up to `=`, `=` and white space
equals_cut : {line key assigned : List ℕ} (s : IsStatement line key assigned) →
    before_value s ≡ before_equals s ++ (equals_sign ∷ [] ++ s.after)
equals_cut s = sym (simp append_assoc)

-- the white space in a statement, one piece each
white_parts : {line key assigned : List ℕ} (s : IsStatement line key assigned) →
    (is_white_space s.before ≡ true) × (is_white_space s.after ≡ true)
white_parts s =
    let all = and_parts _ _ s.white_space in
    let both = and_parts _ _ all.0 in (both.1, all.1)

-- the text up to what is assigned, without white space at its end, ends with `=`
pub trimmed-before_value : {line key assigned : List ℕ} (s : IsStatement line key assigned) →
    trimmed (before_value s) ≡ before_equals s ++ equals_sign ∷ []
trimmed-before_value s =
    rw (equals_cut s)
    (trimmed_to (before_equals s) (equals_sign ∷ []) s.after (λ e. cc) refl (white_parts s).1)

-- no character of a key is white space
key_visible : (c : ℕ) → continues_key c ≡ true → not (is_whitespace c) ≡ true
key_visible c h = grind (arith, nat_tests)

-- a row of characters of a key has no white space
keys_visible : (key : List ℕ) → list_all continues_key key ≡ true → list_all (λ c. not (is_whitespace c)) key ≡ true
keys_visible [] h = refl
keys_visible (c ∷ key) h =
    let parts = and_parts (continues_key c) (list_all continues_key key) h in
    rw (key_visible c parts.0, keys_visible key parts.1) refl

-- a key has a character
key_some : (key : List ℕ) → is_key key ≡ true → key ≢ []
key_some [] h e = cc
key_some (c ∷ key) h e = cc

-- the text up to `=`, without white space at its end, ends with the key
pub trimmed-before_equals : {line key assigned : List ℕ} (s : IsStatement line key assigned) →
    trimmed (before_equals s) ≡ named_text s
trimmed-before_equals {key = key} s =
    let visible = keys_visible key (key_continues key s.is_key) in
    let cut : before_equals s ≡ (s.indent ++ s.prefix) ++ (key ++ s.before) = sym (append_assoc s.indent s.prefix _) in
    rw (cut, trimmed_to (s.indent ++ s.prefix) key s.before (key_some key s.is_key) visible (white_parts s).0)
    (append_assoc s.indent s.prefix key)

-- a text without white space at its end has the bytes of its characters without it
pub trimmed_bytes : (text end : List ℕ) → IsUtf8 text → end ≡ trim_end text →
    end ≡ encode_utf8_all (trimmed (chars text))
unfolding trim_end
trimmed_bytes text end u is = is

-- a text that has `=` cut off its end, and then white space
pub equals_cut_off : (named key trimmed_key front : List ℕ) → IsUtf8 named → chars named ≡ front ++ equals_sign ∷ [] →
    named ≡ key ++ 61 ∷ [] → trimmed_key ≡ trim_end key → trimmed_key ≡ encode_utf8_all (trimmed front)
equals_cut_off named key trimmed_key front u is cut ends =
    let bytes : encode_utf8_all (front ++ equals_sign ∷ []) ≡ named =
    rw (← is) (encodes-chars named u) in
    let same : key ≡ encode_utf8_all front =
    append_cancel_right key (encode_utf8_all front) (61 ∷ []) (
    sym cut ∙ sym bytes ∙ encodes-append front (equals_sign ∷ [])
    ∙ rw (encode_ascii 61 (omega arith)) refl
    ) in
    let all : (all_scalars front && all_scalars (equals_sign ∷ [])) ≡ true =
    sym (list_all-append scalar front (equals_sign ∷ [])) ∙ rw is at (scalars-chars named u) in
    let are = (and_parts _ _ all).0 in
    let utf8 : IsUtf8 key = rw same (front, (are, refl)) in
    let chars_are : chars key ≡ front = rw same (chars-encodes front are) in
    trimmed_bytes key trimmed_key utf8 ends ∙ ap (λ cs. encode_utf8_all (trimmed cs)) chars_are

-- the text of the end of a value begins with its part that has a meaning
close_front : (close : Close) → (rest : List ℕ) × (close_text close ≡ meant_close close ++ rest)
close_front no_close = ([], refl)
close_front lone_backslash = ([], refl)
close_front (bare_name name) = ([], sym (append-nil (close_text (bare_name name))))
close_front (tail blank blanks comment) = (close_text (tail blank blanks comment), refl)

-- what is assigned begins with its old value
pub old_front : (dialect : Dialect) (assigned old : List ℕ) → IsOldValue dialect assigned old →
    (rest : List ℕ) × (assigned ≡ old ++ rest)
old_front dialect assigned old (inl (empty, none)) = (assigned, rw none refl)
old_front dialect assigned old (inr (inl (some, part))) =
    let (rest, is) = close_front part.close in
    (rest, part.spelled ∙ ap (λ cs. segments_text part.segments ++ cs) is ∙ rw (part.part, append_assoc) refl)
old_front dialect assigned old (inr (inr (some, none, all))) = ([], rw all (sym (append-nil assigned)))

-- nothing and a comment have an empty old value
empty_old : (dialect : Dialect) (assigned old : List ℕ) → is_empty_or_comment assigned ≡ true →
    IsOldValue dialect assigned old → old ≡ []
empty_old dialect assigned old h (inl (empty, none)) = none
empty_old dialect assigned old h (inr (inl (some, part))) = absurd (grind arith)
empty_old dialect assigned old h (inr (inr (some, none, all))) = absurd (grind arith)

-- the front of a spot, by what is assigned
abbrev pub spot_front : {line key assigned : List ℕ} → IsStatement line key assigned → List ℕ
spot_front {key = key} {assigned = assigned} s =
    s.indent
    ++ (s.prefix ++ (key ++ (s.before ++ equals_sign
    ∷ (if is_empty_or_comment assigned then [] else s.after))))

-- the front of a spot is the text up to what is assigned, or only up to `=`
pub front_is : {line key assigned : List ℕ} (s : IsStatement line key assigned) →
    (if is_empty_or_comment assigned then trimmed (before_value s) else before_value s) ≡ spot_front s
front_is {assigned = assigned} s =
    elim (cases_Bool (is_empty_or_comment assigned)) [
      | inl h ↦ rw h (trimmed-before_value s ∙ simp append_assoc)
      | inr h ↦ rw h refl
    ]

-- after its front and its old value a statement has a rest
spot_split : {line key assigned old : List ℕ} (dialect : Dialect) (s : IsStatement line key assigned) →
    IsOldValue dialect assigned old → (behind : List ℕ) × (line ≡ spot_front s ++ (old ++ behind))
spot_split {line} {key} {assigned} {old} dialect s is_old =
    elim (cases_Bool (is_empty_or_comment assigned)) [
      | inl h ↦ (
        s.after ++ assigned,
        rw (h, empty_old dialect assigned old h is_old) (s.spelled ∙ sym (simp append_assoc)),
      )
      | inr h ↦
          let (rest, is) = old_front dialect assigned old is_old in
          (rest, rw h (statement_cut s ∙ ap (λ cs. before_value s ++ cs) is))
    ]

-- texts one after another, joined in another order
spot_joined : (front old behind white cut : List ℕ) →
    ((front ++ (old ++ behind)) ++ white) ++ cut ≡ front ++ (old ++ (behind ++ (white ++ cut)))
spot_joined front old behind white cut = simp append_assoc

-- the line of an assignment is a spot of its value
pub spot_is : {dialect : Dialect} {bytes text key assigned old : List ℕ} → HasLine bytes text →
    (s : IsStatement (trimmed text) key assigned) → IsOldValue dialect assigned old →
    (rest : List ℕ)
    × IsSpot dialect key text bytes (record { front = spot_front s; old = old; rest = rest })
    × (bytes ≡ encode_utf8_all (spot_front s) ++ (encode_utf8_all old ++ encode_utf8_all rest))
spot_is {dialect} {bytes} {text} {key} {assigned} {old} line s is_old =
    let (cut, bytes_are) = line_bytes bytes text line in
    let (white, text_is) = trimmed_front text in
    let (behind, split) = spot_split dialect s is_old in
    let rest = behind ++ (white ++ cut) in
    let spelled : text ++ cut ≡ spot_front s ++ (old ++ rest) =
    ap (λ cs. cs ++ cut) text_is ∙ ap (λ cs. (cs ++ white) ++ cut) split
    ∙ spot_joined (spot_front s) old behind white cut in (
      rest,
      record {
        assigned = assigned;
        statement = s;
        is_old = is_old;
        front_is = refl;
        spelled = rw spelled at bytes_are;
      },
      rw (spelled, encodes-append (spot_front s) (old ++ rest), encodes-append old rest) at bytes_are,
    )

-- the text up to `=`, as it is cut off a line
pub named_chars : {line key assigned : List ℕ} (s : IsStatement line key assigned) (before named : List ℕ) →
    IsUtf8 before → before ≡ encode_utf8_all (before_value s) → named ≡ trim_end before →
    chars named ≡ before_equals s ++ equals_sign ∷ []
named_chars s before named u is ends =
    chars-trim_end before named u ends ∙ ap trimmed (sym (chars_from_encodes (before_value s) before u (sym is)))
    ∙ trimmed-before_value s

-- a text whose last character is `=` ends with its byte
pub ends_equals : (named front : List ℕ) → IsUtf8 named → chars named ≡ front ++ equals_sign ∷ [] →
    named ≡ encode_utf8_all front ++ 61 ∷ []
ends_equals named front u is =
    sym (encodes-chars named u) ∙ ap encode_utf8_all is ∙ encodes-append front (equals_sign ∷ [])
    ∙ rw (encode_ascii 61 (omega arith)) refl

-- bytes that are cut in three
pub record AreCut (n m : ℕ) (bytes a b c : List ℕ) : Type 0 where
  pub within : n ≤ length bytes
  pub front_is : take n bytes ≡ a
  pub within_back : m ≤ length (drop n bytes)
  pub old_is : take m (drop n bytes) ≡ b
  pub rest_is : drop m (drop n bytes) ≡ c

-- three parts of bytes are cut by the lengths of the first two
pub are_cut : {n m : ℕ} {bytes a b c : List ℕ} → n ≡ length a → m ≡ length b → bytes ≡ a ++ (b ++ c) →
    AreCut n m bytes a b c
are_cut {n} {m} {bytes} {a} {b} {c} first second is =
    let total = ap length is ∙ length-append a (b ++ c) in
    let back : drop n bytes ≡ b ++ c = rw (first, is) (drop-append_seam a (b ++ c)) in
    let behind = ap length back ∙ length-append b c in record {
      within = omega (arith, total, first);
      front_is = rw (first, is) (take-append_seam a (b ++ c));
      within_back = omega (arith, behind, second);
      old_is = rw (back, second) (take-append_seam b c);
      rest_is = rw (back, second) (drop-append_seam b c);
    }

-- the bytes of three parts are those of their texts
cut_spelled : {bytes front old first second : List ℕ} (third rest : List ℕ) → first ≡ front → second ≡ old →
    encode_utf8_all third ≡ encode_utf8_all rest →
    bytes ≡ encode_utf8_all front ++ (encode_utf8_all old ++ encode_utf8_all rest) →
    bytes ≡ encode_utf8_all (first ++ (second ++ third))
cut_spelled {first = first} {second = second} third rest front old same is =
    rw (encodes-append first (second ++ third), encodes-append second third, front, old, same) is

-- the front and the old value of a spot have characters only, as the text has
spot_scalars : {key assigned old : List ℕ} (dialect : Dialect) (text : List ℕ)
    (s : IsStatement (trimmed text) key assigned) → IsOldValue dialect assigned old → all_scalars text ≡ true →
    (all_scalars (spot_front s) ≡ true) × (all_scalars old ≡ true)
spot_scalars {old = old} dialect text s is_old all =
    let (white, text_is) = trimmed_front text in
    let (behind, split) = spot_split dialect s is_old in
    let is : text ≡ spot_front s ++ (old ++ (behind ++ white)) =
    text_is ∙ ap (λ cs. cs ++ white) split ∙ simp append_assoc in
    let front =
    and_parts _ _ (sym (list_all-append scalar (spot_front s) (old ++ (behind ++ white)))
    ∙ sym (ap (λ cs. all_scalars cs) is) ∙ all) in
    let back = and_parts _ _ (sym (list_all-append scalar old (behind ++ white)) ∙ front.1) in (front.0, back.0)

-- the text of an assignment's line, cut at its spot
pub record IsSpotCut (dialect : Dialect) (key text bytes : List ℕ) (front_len old_len : ℕ) : Type 0 where
  pub boundary : IsCharBoundary bytes front_len
  pub boundary_back : IsCharBoundary (drop front_len bytes) old_len
  pub is_spot :
      IsSpot dialect key text bytes (record {
        front = chars (take front_len bytes);
        old = chars (take old_len (drop front_len bytes));
        rest = chars (drop old_len (drop front_len bytes));
      })

-- a line is cut at the spot by the lengths of its front and of the old value
pub spot_cut : {dialect : Dialect} {bytes text key assigned old : List ℕ} {front_len old_len : ℕ} → IsUtf8 bytes →
    all_scalars text ≡ true → HasLine bytes text → (s : IsStatement (trimmed text) key assigned) →
    IsOldValue dialect assigned old →
    front_len ≡ byte_len (if is_empty_or_comment assigned then trimmed (before_value s) else before_value s) →
    old_len ≡ byte_len old → IsSpotCut dialect key text bytes front_len old_len
spot_cut {dialect} {bytes} {text} {old = old} {front_len} {old_len} u all line s is_old front len =
    let (rest, is_spot, bytes_are) = spot_is line s is_old in
    let cut = are_cut (front ∙ ap byte_len (front_is s)) len bytes_are in
    let are = spot_scalars dialect text s is_old all in
    let place : IsCharBoundary bytes front_len =
    IsCharBoundary-from_take bytes front_len u cut.within (rw cut.front_is (spot_front s, (are.0, refl))) in
    let back = IsUtf8-drop bytes front_len u place in
    let place_back : IsCharBoundary (drop front_len bytes) old_len =
    IsCharBoundary-from_take (drop front_len bytes) old_len back cut.within_back (rw cut.old_is (old, (are.1, refl))) in
    let behind = encodes-chars _ (IsUtf8-drop (drop front_len bytes) old_len back place_back) in
    let first : chars (take front_len bytes) ≡ spot_front s = rw cut.front_is (chars-encodes (spot_front s) are.0) in
    let second : chars (take old_len (drop front_len bytes)) ≡ old = rw cut.old_is (chars-encodes old are.1) in
    record {
      boundary = place;
      boundary_back = place_back;
      is_spot = record {
        assigned = is_spot.assigned;
        statement = is_spot.statement;
        is_old = rw second is_spot.is_old;
        front_is = first ∙ is_spot.front_is;
        spelled = cut_spelled _ rest first second (behind ∙ cut.rest_is) bytes_are;
      };
    }

-- an old value of what is assigned, where the code tells of it
pub old_of : {dialect : Dialect} {assigned : List ℕ} (value : Option Value) → TellsPart dialect assigned value →
    (old : List ℕ) × IsOldValue dialect assigned old
old_of {assigned = assigned} None none = (assigned, inr (inr (none.0, none.1, refl)))
old_of (Some value) (old, is, len) = (old, is)
