-- Slices of a text and their characters.
use Rattle.std.proofs.Common.{◌≡◌, ◌≢◌, ℕ, ◌<◌, arith, Bool, true, not, List, [], ◌∷◌, ◌++◌, refl, sym, ap}
use Rattle.std.proofs.Common.{take, drop, length, length-drop, length-append, zero-add, false, get_or}
use Rattle.std.specs.Prelude.{◌==◌}
use Rattle.std.specs.Char.{encode_utf8, len_utf8}
use Rattle.std.specs.List.{list_all}
use Rattle.std.specs.Str.{chars, encode_utf8_all, IsUtf8, IsCharBoundary, NonePass, NoCharPasses}
use Rattle.std.specs.Str.{skip_leading_whitespace, trim_start}
use Rattle.std.specs.Char.{is_whitespace}
use Rattle.std.proofs.Math.Utf8.{encode}
use Rattle.std.proofs.lemmas.Bool.Decides.{nat_tests}
use Rattle.std.specs.Str.Pattern.{HasCharAt}
use Rattle.std.proofs.lemmas.Bool.{ne_eqb}
use Rattle.std.proofs.lemmas.Str.{chars-nil, chars_past_char, chars-append, chars_from_encodes}
use Rattle.std.proofs.lemmas.Str.{IsUtf8-take, IsUtf8-drop, IsUtf8-past_char, encodes-chars, length-encode}
use Rattle.std.proofs.lemmas.Str.{len_utf8_bounds}
use Rattle.std.proofs.lemmas.Str.{IsCharBoundary-before_ascii, IsCharBoundary-past_char, IsCharBoundary-at_seam}
use Rattle.std.proofs.lemmas.Str.Pattern.{drop_at_char}
use Rattle.std.proofs.lemmas.List.{take-append-drop, take_at, append-nil}
use Rattle.std.proofs.Math.Seq.{take-append_seam}
use Rattle.dotenvy_format.specs.Characters.{begins_with}
use Rattle.dotenvy_format.specs.inside.Slices.{BeginsWith, begins_visibly}

-- a first byte that is visible is a character, and no white space
pub visible_first : (c : ℕ) (cs : List ℕ) → begins_visibly (encode_utf8_all (c ∷ cs)) ≡ true
    → (is_whitespace c ≡ false) × (get_or (encode_utf8_all (c ∷ cs)) 0 0 ≡ c)
unfolding encode
visible_first c cs h = grind (arith, nat_tests)

-- nothing is skipped before it
visible_stays : (cs : List ℕ) → begins_visibly (encode_utf8_all cs) ≡ true → skip_leading_whitespace cs ≡ cs
visible_stays [] h = refl
visible_stays (c ∷ cs) h = rw (visible_first c cs h).0 refl

-- so a text that begins with one has no white space at its start
pub visible_trimmed : (text : List ℕ) → IsUtf8 text → begins_visibly text ≡ true → text ≡ trim_start text
unfolding trim_start
visible_trimmed text u h =
    rw (visible_stays (chars text) (rw (encodes-chars text u) h), encodes-chars text u) refl

-- a text that begins with a character's bytes begins with that character, and a text follows
pub begins_with_first : (text rest : List ℕ) (c : ℕ) → IsUtf8 text → text ≡ encode_utf8 c ++ rest →
    BeginsWith text c rest
begins_with_first text rest c u h =
    record { bytes = h; follows = IsUtf8-past_char text rest c u h; characters = chars_past_char text rest c u h }

-- where a text begins with a character's bytes, these are a text, of that character alone
pub first_alone : (text rest : List ℕ) (c : ℕ) → IsUtf8 text → text ≡ encode_utf8 c ++ rest →
    IsUtf8 (encode_utf8 c) × (chars (encode_utf8 c) ≡ c ∷ [])
first_alone text rest c u h =
    let seam = IsCharBoundary-at_seam text (encode_utf8 c) rest h (IsUtf8-past_char text rest c u h) in
    let one = rw (h, take-append_seam) at (IsUtf8-take text (length (encode_utf8 c)) u seam) in
    (one, rw (chars_past_char (encode_utf8 c) [] c one (sym (append-nil (encode_utf8 c))), chars-nil))

-- what follows a text's first character is shorter than the text
pub begins_shorter : {text rest : List ℕ} {c : ℕ} → BeginsWith text c rest → length rest < length text
begins_shorter {rest} {c} begins =
    let size = ap length begins.bytes in
    omega (arith, length-encode c, len_utf8_bounds c, length-append (encode_utf8 c) rest)

-- a text without bytes has no characters
pub no_characters : (text : List ℕ) → text ≡ [] → chars text ≡ []
no_characters text h = rw h chars-nil

-- where none of the characters passes, each of them fails
none_pass : (passes : ℕ → Bool) (cs : List ℕ) → NonePass passes cs → list_all (λ c. not (passes c)) cs ≡ true
none_pass passes [] h = refl
none_pass passes (c ∷ cs) h = rw (h.0, none_pass passes cs h.1)

-- in a text of which no character passes, each fails
pub characters_fail : (passes : ℕ → Bool) (text : List ℕ) → IsUtf8 text → NoCharPasses passes text →
    list_all (λ c. not (passes c)) (chars text) ≡ true
characters_fail passes text u h = rw (chars_from_encodes h.0 text u h.1) at (none_pass passes h.0 h.2)

-- a text cut at the first place of a character
pub record IsCut (c : ℕ) (text front rest : List ℕ) : Type 0 where
  pub spelled : chars text ≡ chars front ++ c ∷ chars rest
  pub none_before : list_all (λ d. not (d == c)) (chars front) ≡ true
  pub front_utf8 : IsUtf8 front
  pub rest_utf8 : IsUtf8 rest

-- a text cut at the first place of an ASCII character has it nowhere before, and a text on each side
pub cut_once : (c : ℕ) (text front rest : List ℕ) (i j : ℕ) → IsUtf8 text → c < 128 →
    NoCharPasses (λ d. d == c) (take i text) → HasCharAt c text i j → front ≡ take i text → rest ≡ drop j text →
    IsCut c text front rest
cut_once c text front rest i j u small none at f r =
    let within : i < length text = omega (arith, length-drop i text, ap length (drop_at_char c text i j at small)) in
    let before = IsCharBoundary-before_ascii text i within (rw (at.byte small) small) in
    let uf = IsUtf8-take text i u before in
    let ud = IsUtf8-drop text i u before in
    rw (f, r) record {
      spelled =
          rw (
            ← chars_past_char (drop i text) (drop j text) c ud at.split,
            ← chars-append (take i text) (drop i text) uf,
            take-append-drop,
          ) refl;
      none_before = characters_fail (λ d. d == c) (take i text) uf none;
      front_utf8 = uf;
      rest_utf8 = IsUtf8-past_char (drop i text) (drop j text) c ud at.split;
    }

-- a text that doesn't begin with a character's bytes doesn't begin with that character
pub not_first : (c : ℕ) (text : List ℕ) → IsUtf8 text → ((rest : List ℕ) → text ≢ encode_utf8 c ++ rest) →
    not (begins_with c (chars text)) ≡ true
not_first c text u h = at (chars text) (rw (encodes-chars text u) h)
  where
    at : (cs : List ℕ) → ((rest : List ℕ) → encode_utf8_all cs ≢ encode_utf8 c ++ rest) →
        not (begins_with c cs) ≡ true
    at [] none = refl
    at (d ∷ ds) none = rw (ne_eqb d c (λ e. none (encode_utf8_all ds) (rw e refl)))

-- a text may be cut after its first character
pub past_first : (text rest : List ℕ) (c : ℕ) → IsUtf8 text → text ≡ encode_utf8 c ++ rest →
    IsCharBoundary text (len_utf8 c)
past_first text rest c u h = rw zero-add at (IsCharBoundary-past_char text rest 0 c (omega arith) u h)

-- the first bytes of a text, as many as its first character has, are those of that character
pub take_first : (text rest : List ℕ) (c : ℕ) → text ≡ encode_utf8 c ++ rest → take (len_utf8 c) text ≡ encode_utf8 c
take_first text rest c h = rw h (take_at (encode_utf8 c) rest (len_utf8 c) (length-encode c))
