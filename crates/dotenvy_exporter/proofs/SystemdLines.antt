-- A written line, as systemd reads it by its bytes.
use Rattle.std.proofs.Common.{◌≡◌, ◌∙◌, ℕ, Bool, true, false, ◌&&◌, ◌||◌, not, List, [], ◌∷◌, ◌++◌}
use Rattle.std.proofs.Common.{refl, sym, ap, arith, append_assoc, ◌<◌, ◌≤◌, suc, length, get_or, map, inl, inr}
use Rattle.std.specs.Prelude.{Some, ◌==◌, if◌then◌else◌, encode_utf8, encode_utf8_all, IsTrue}
use Rattle.std.specs.Str.{chars}
use lib.Utf8.{encode}
use Rattle.std.proofs.lemmas.Bool.{cases_lt}
use Rattle.std.specs.List.{list_all, flat_map}
use Rattle.std.proofs.lemmas.List.{append-nil}
use Rattle.std.proofs.lemmas.Grind.{flat_map-append}
use Rattle.std.proofs.lemmas.Str.{is_utf8-from_IsUtf8, chars-encodes, encode_ascii, encodes-append}
use Rattle.std.proofs.lemmas.Bool.Decides.{nat_tests}
use Rattle.std.proofs.Math.Utf8.{scalars}
use Rattle.dotenvy_format.specs.Characters.{tab, line_feed, space, double_quote, hash, dollar, equals_sign, backslash}
use Rattle.dotenvy_exporter.specs.Texts.{Pair, has, is_new, same, semicolon}
use Rattle.std.proofs.lemmas.List.Folds.{list_any-append}
use Rattle.dotenvy_exporter.proofs.ShellLines.{name_continues, name_has_none}
use Rattle.dotenvy_exporter.specs.Shell.{begins_shell_name, continues_shell_name, is_shell_name}
use Rattle.dotenvy_exporter.specs.Systemd.{BeforeName, Name, BeforeValue, Double, is_end, is_white}
use Rattle.dotenvy_exporter.specs.Systemd.{is_special, assignments}
use Rattle.dotenvy_exporter.specs.Systemd.{put, then_put, systemd_reads_bytes, named, is_taken, are_taken}
use Rattle.dotenvy_exporter.specs.Systemd.{characters_of, has_noncharacter, is_noncharacter}
use Rattle.dotenvy_items.proofs.WrittenBytes.{ascii_backslash}
use Rattle.dotenvy_exporter.proofs.TextBytes.{has_character, high_bytes}
use Rattle.dotenvy_format.specs.Written.{needs_backslash, written_character, written_pair, written_text}
use Rattle.dotenvy_exporter.proofs.Pairs.{AreAssigned}
use Rattle.dotenvy_exporter.proofs.Tests.{and_left, and_right, not_is, or_left, or_right, scalars-append}

-- a written character adds the character to the value
character_adds : (n v w : List ℕ) (c : ℕ) (rest : List ℕ) →
    assignments Double n v w (written_character c ++ rest) ≡ assignments Double n (v ++ c ∷ []) [] rest
character_adds n v w c rest =
    (elim ((c == backslash || c == double_quote) || c == dollar) as (λ b. ((c == backslash || c == double_quote)
    || c == dollar) ≡ b →
    assignments Double n v w ((if b then backslash ∷ c ∷ [] else c ∷ []) ++ rest) ≡ assignments Double n (v ++ c ∷
    []) [] rest) [
      | true ↦ λ h. let s : is_special c ≡ true = grind (arith, nat_tests) in rw s refl
      | false ↦ λ h.
          let front = or_left (c == backslash || c == double_quote) (c == dollar) h in
          rw (
            or_left (c == backslash) (c == double_quote) front,
            or_right (c == backslash) (c == double_quote)
                front,
          ) refl
    ]) refl

-- a written value and its closing quote and line feed end the pair
value_ends : (n v w value rest : List ℕ) →
    assignments Double n v w (flat_map written_character value ++ double_quote ∷ line_feed ∷ rest)
    ≡ (n, v ++ value) ∷ assignments BeforeName [] [] [] rest
value_ends n v w [] rest = rw (append-nil v) refl
value_ends n v w (c ∷ value) rest =
    ap (assignments Double n v w) (append_assoc (written_character c) (flat_map written_character value)
    (double_quote ∷ line_feed ∷ rest))
    ∙ character_adds n v w c (flat_map written_character value ++ double_quote ∷ line_feed ∷ rest)
    ∙ value_ends n (v ++ c ∷ []) [] value rest
    ∙ rw (append_assoc v (c ∷ []) value) refl

-- what a later character of a name is not
record Plain (c : ℕ) : Type 0 where
  pub no_end : is_end c ≡ false
  pub no_equals : (c == equals_sign) ≡ false
  pub no_blank : (c == space || c == tab) ≡ false
  pub no_white : is_white c ≡ false
  pub no_comment : (c == hash || c == semicolon) ≡ false

plain : (c : ℕ) → continues_shell_name c ≡ true → Plain c
plain c h = record {
  no_end = grind (arith, nat_tests, h);
  no_equals = grind (arith, nat_tests, h);
  no_blank = grind (arith, nat_tests, h);
  no_white = grind (arith, nat_tests, h);
  no_comment = grind (arith, nat_tests, h);
}

-- a name's later characters and `=` come before the value
name_ends : (n name rest : List ℕ) → list_all continues_shell_name name ≡ true →
    assignments Name n [] [] (name ++ equals_sign ∷ rest) ≡ assignments BeforeValue (n ++ name) [] [] rest
name_ends n [] rest h = rw (append-nil n) refl
name_ends n (c ∷ name) rest h =
    let p = plain c (and_left (continues_shell_name c) (list_all continues_shell_name name) h) in
    rw (p.no_end, p.no_equals, p.no_blank)
    (name_ends (n ++ c ∷ []) name rest (and_right (continues_shell_name c) (list_all continues_shell_name name) h)
    ∙ rw (append_assoc n (c ∷ []) name) refl)

-- a written line gives its pair, whatever follows
line_gives : (name value rest : List ℕ) → is_shell_name name ≡ true →
    assignments BeforeName [] [] [] (written_pair (name, value) ++ rest) ≡ (name, value) ∷ assignments BeforeName
    [] [] [] rest
line_gives [] value rest h = cc
line_gives (c ∷ name) value rest h =
    let begins = and_left (begins_shell_name c) (list_all continues_shell_name name) h in
    let later = and_right (begins_shell_name c) (list_all continues_shell_name name) h in
    let may : continues_shell_name c ≡ true = rw begins refl in
    let p = plain c may in
    let split : written_pair (c ∷ name, value) ++ rest ≡ c ∷ (name ++ equals_sign ∷ double_quote ∷ (flat_map
    written_character value ++ double_quote ∷ line_feed ∷ rest)) = simp append_assoc in
    let first : assignments BeforeName [] [] [] (c ∷ (name ++ equals_sign ∷ double_quote ∷ (flat_map
    written_character value ++ double_quote ∷ line_feed ∷ rest)))
    ≡ assignments Name (c ∷ []) [] [] (name ++ equals_sign ∷ double_quote ∷ (flat_map written_character value ++
    double_quote ∷ line_feed ∷ rest)) = rw (p.no_comment, p.no_white) refl in
    ap (assignments BeforeName [] [] []) split
    ∙ first
    ∙ name_ends (c ∷ []) name (double_quote ∷ (flat_map written_character value ++ double_quote ∷ line_feed ∷
    rest)) later
    ∙ value_ends (c ∷ name) [] [] value rest

-- each pair has the name of a shell's variable, a distinct one, and a value without a NUL
abbrev AreLines : List Pair → Type 0
AreLines [] = Unit {0}
AreLines ((name, value) ∷ pairs) =
    IsTrue (is_shell_name name) × IsTrue (is_new name pairs) × (has 0 value ≡ false) × AreLines pairs

-- the assignments of the written pairs are the pairs
all_give : (pairs : List (List ℕ × List ℕ)) → AreLines pairs → assignments BeforeName [] [] [] (written_text
    pairs) ≡ pairs
all_give [] are = refl
all_give ((name, value) ∷ pairs) are =
    line_gives name value (written_text pairs) are.0
    ∙ ap (λ ps. (name, value) ∷ ps) (all_give pairs are.3)

-- no pair of these has this name
absent : List ℕ → List (List ℕ × List ℕ) → Bool
absent name [] = true
absent name ((other, value) ∷ pairs) = not (same other name) && absent name pairs

-- a pair of a new name is put at the end
put_new : (name value : List ℕ) (done : List (List ℕ × List ℕ)) → absent name done ≡ true →
    put (name, value) done ≡ done ++ (name, value) ∷ []
unfolding absent
put_new name value [] h = refl
put_new name value ((other, old) ∷ done) h =
    let one = not_is (same other name) (and_left (not (same other name)) (absent name done) h) in
    rw (one, put_new name value done (and_right (not (same other name)) (absent name done) h)) refl

absent_more : (name other value : List ℕ) (done : List (List ℕ × List ℕ)) → absent name done ≡ true →
    not (same other name) ≡ true → absent name (done ++ (other, value) ∷ []) ≡ true
unfolding absent
absent_more name other value [] h k = rw k refl
absent_more name other value ((first, old) ∷ done) h k =
    rw (
      and_left (not (same first name)) (absent name done) h,
      absent_more name other value done (and_right (not (same first name)) (absent name done) h) k,
    ) refl

-- no pair of the first has a name of the second
abbrev AreAbsent : List (List ℕ × List ℕ) → List (List ℕ × List ℕ) → Type 0
AreAbsent done [] = Unit {0}
AreAbsent done ((name, value) ∷ pairs) = (absent name done ≡ true) × AreAbsent done pairs

one_more : (name value : List ℕ) (done pairs : List (List ℕ × List ℕ)) → AreAbsent done pairs → is_new name pairs
    ≡ true →
    AreAbsent (done ++ (name, value) ∷ []) pairs
one_more name value done [] are h = tt
one_more name value done ((other, old) ∷ pairs) are h = (
  absent_more other name value done are.0 (and_left (not (same name other)) (is_new name pairs) h),
  one_more name value done pairs are.1 (and_right (not (same name other)) (is_new name pairs) h),
)

none_absent : (pairs : List (List ℕ × List ℕ)) → AreAbsent [] pairs
unfolding absent
none_absent [] = tt
none_absent ((name, value) ∷ pairs) = (refl, none_absent pairs)

-- the name of a variable doesn't end before its first byte
named_same : (name value : List ℕ) → is_shell_name name ≡ true → named (name, value) ≡ (name, value)
named_same [] value h = refl
named_same (c ∷ name) value h =
    let p = plain c (and_left (continues_shell_name c) (list_all continues_shell_name name)
    (name_continues (c ∷ name) h)) in
    rw p.no_equals refl

-- pairs of names of their own are put one after another
puts : (done pairs : List (List ℕ × List ℕ)) → AreAbsent done pairs → AreLines pairs → then_put done pairs ≡
    done ++ pairs
puts done [] absents are = sym (append-nil done)
puts done ((name, value) ∷ pairs) absents are =
    rw (named_same name value are.0, put_new name value done absents.0)
    (puts (done ++ (name, value) ∷ []) pairs (one_more name value done pairs absents.1 are.1) are.3
    ∙ append_assoc done ((name, value) ∷ []) pairs)

-- what is written of pairs without a NUL has none
value_clean : (value : List ℕ) → has 0 value ≡ false → has 0 (flat_map written_character value) ≡ false
value_clean [] h = refl
value_clean (c ∷ value) h =
    let later = value_clean value (or_right (c == 0) (has 0 value) h) in
    let own = or_left (c == 0) (has 0 value) h in
    let one : has 0 (written_character c) ≡ false =
    elim (needs_backslash c) as (λ b. has 0 (if b then backslash ∷ c ∷ [] else c ∷ []) ≡ false)
    [ true ↦ rw own refl | false ↦ rw own refl ] in
    rw (list_any-append (λ d. d == 0) (written_character c) (flat_map written_character value), one, later) refl

line_clean : (name value : List ℕ) → is_shell_name name ≡ true → has 0 value ≡ false →
    has 0 (written_pair (name, value)) ≡ false
line_clean name value h v =
    rw (
      list_any-append (λ d. d == 0) name
          (equals_sign ∷ double_quote ∷ (flat_map written_character value ++ double_quote ∷ line_feed ∷ [])),
      list_any-append (λ d. d == 0) (flat_map written_character value) (double_quote ∷ line_feed ∷ []),
      name_has_none 0 name refl (name_continues name h),
      value_clean value v,
    ) refl

text_clean : (pairs : List (List ℕ × List ℕ)) → AreLines pairs → has 0 (written_text pairs) ≡ false
text_clean [] are = refl
text_clean ((name, value) ∷ pairs) are =
    rw (
      list_any-append (λ d. d == 0) (written_pair (name, value)) (written_text pairs),
      line_clean name value are.0 are.2,
      text_clean pairs are.3,
    ) refl

-- bytes from 128 on are written as they are
high_written : (bytes : List ℕ) → ((k : ℕ) → k < length bytes → 128 ≤ get_or bytes k 0) →
    flat_map written_character bytes ≡ bytes
high_written [] high = refl
high_written (b ∷ bytes) high =
    rw (ascii_backslash b (high 0 (omega arith)), high_written bytes (λ k low. high (suc k) (omega arith))) refl

-- a character's bytes are written as the character is
character_bytes : (c : ℕ) → encode_utf8_all (written_character c) ≡ flat_map written_character (encode_utf8 c)
unfolding encode
character_bytes c =
    elim (cases_lt c 128) [
      | inl small ↦
          rw (encode_ascii c small) (elim (needs_backslash c) as (λ b. encode_utf8_all (if b then backslash ∷ c ∷ []
          else c ∷ []) ≡ (if b then backslash ∷ c ∷ [] else c ∷ []) ++ [])
          [ true ↦ rw (encode_ascii c small) refl | false ↦ rw (encode_ascii c small) refl ])
      | inr big ↦
          rw (ascii_backslash c big, append-nil (encode_utf8 c))
          (sym (high_written (encode_utf8 c) (λ k low. high_bytes c big k low)))
    ]

value_bytes : (value : List ℕ) →
    encode_utf8_all (flat_map written_character value) ≡ flat_map written_character (encode_utf8_all value)
value_bytes [] = refl
value_bytes (c ∷ value) =
    encodes-append (written_character c) (flat_map written_character value)
    ∙ rw (
      character_bytes c,
      value_bytes value,
      flat_map-append written_character (encode_utf8 c) (encode_utf8_all value),
    ) refl

-- a name is its own bytes, which are UTF-8 without noncharacters
name_bytes : (name : List ℕ) → list_all continues_shell_name name ≡ true → encode_utf8_all name ≡ name
name_bytes [] h = refl
name_bytes (c ∷ name) h =
    let own = and_left (continues_shell_name c) (list_all continues_shell_name name) h in
    let small : c < 128 = grind (arith, nat_tests, own) in
    rw (
      encode_ascii c small,
      name_bytes name (and_right (continues_shell_name c) (list_all continues_shell_name name) h),
    ) refl

name_taken : (name : List ℕ) → list_all continues_shell_name name ≡ true → has_noncharacter name ≡ false
name_taken [] h = refl
name_taken (c ∷ name) h =
    let own = and_left (continues_shell_name c) (list_all continues_shell_name name) h in
    let one : is_noncharacter c ≡ false = grind (arith, nat_tests, own) in
    rw (one, name_taken name (and_right (continues_shell_name c) (list_all continues_shell_name name) h)) refl

-- so are those of a written line, where its value is by bytes
line_bytes : (name value : List ℕ) → list_all continues_shell_name name ≡ true →
    encode_utf8_all (written_pair (name, value)) ≡ written_pair (name, encode_utf8_all value)
unfolding encode
line_bytes name value h =
    encodes-append name (equals_sign ∷ double_quote ∷ (flat_map written_character value ++ double_quote ∷ line_feed ∷
    []))
    ∙ rw (
      name_bytes name h,
      encodes-append (flat_map written_character value) (double_quote ∷ line_feed ∷ []),
      value_bytes value,
    ) refl

-- pairs with their values by the bytes of these
abbrev encoded : List Pair → List Pair
encoded [] = []
encoded ((name, value) ∷ pairs) = (name, encode_utf8_all value) ∷ encoded pairs

-- the bytes of the written form are the written form of bytes
text_bytes : (pairs : List Pair) → AreAssigned pairs →
    encode_utf8_all (written_text pairs) ≡ written_text (encoded pairs)
text_bytes [] are = refl
text_bytes ((name, value) ∷ pairs) are =
    encodes-append (written_pair (name, value)) (written_text pairs)
    ∙ rw (line_bytes name value (name_continues name are.0), text_bytes pairs are.3) refl

new_encoded : (name : List ℕ) (pairs : List Pair) → is_new name (encoded pairs) ≡ is_new name pairs
new_encoded name [] = refl
new_encoded name ((other, value) ∷ pairs) = rw (new_encoded name pairs) refl

-- what is taken of a text that is spelled by these bytes
taken_bytes : (text : List ℕ) → scalars text ≡ true → has_noncharacter text ≡ false →
    is_taken (encode_utf8_all text) ≡ true
taken_bytes text are none =
    rw (
      is_utf8-from_IsUtf8 (encode_utf8_all text) (text, (are, refl)),
      chars-encodes text are,
      none,
    ) refl

-- what is asked of the bytes of pairs that can be given
record Spelled (pairs : List Pair) : Type 0 where
  pub are_lines : AreLines (encoded pairs)
  pub taken : are_taken (encoded pairs) ≡ true
  pub characters : map characters_of (encoded pairs) ≡ pairs

spelled : (pairs : List Pair) → AreAssigned pairs → Spelled pairs
spelled [] are = record { are_lines = tt; taken = refl; characters = refl }
spelled ((name, value) ∷ pairs) are =
    let both : (scalars name && scalars value) ≡ true = rw (scalars-append name value) at are.1 in
    let own = and_left (scalars name) (scalars value) both in
    let other = and_right (scalars name) (scalars value) both in
    let continues = name_continues name are.0 in
    let bytes = name_bytes name continues in
    let later = spelled pairs are.3 in
    let name_is : is_taken name ≡ true = rw bytes at (taken_bytes name own (name_taken name continues)) in
    let name_reads : chars name ≡ name = rw bytes at (chars-encodes name own) in
    let value_reads = chars-encodes value other in
    let clean : has 0 (encode_utf8_all value) ≡ false =
    sym (has_character 0 (encode_utf8_all value) (omega arith) (value, (other, refl))) ∙ rw value_reads are.4 in
    record {
      are_lines = (are.0, rw (new_encoded name pairs) are.2, clean, later.are_lines);
      taken = rw (name_is, taken_bytes value other are.5, later.taken) refl;
      characters = rw (name_reads, value_reads, later.characters) refl;
    }

-- the bytes are read as the pairs
pub bytes_read : (pairs : List (List ℕ × List ℕ)) → AreAssigned pairs →
    systemd_reads_bytes (encode_utf8_all (written_text pairs)) ≡ Some pairs
bytes_read pairs are =
    let s = spelled pairs are in
    rw (
      text_bytes pairs are,
      text_clean (encoded pairs) s.are_lines,
      all_give (encoded pairs) s.are_lines,
      s.taken,
      puts [] (encoded pairs) (none_absent (encoded pairs)) s.are_lines,
    ) (ap Some s.characters)
