-- A written line, as docker reads it.
use Rattle.std.proofs.Common.{◌≡◌, ◌∙◌, ap, sym, ℕ, true, false, ◌&&◌, ◌||◌, not, List, [], ◌∷◌}
use Rattle.std.proofs.Common.{◌++◌, refl, append_assoc, map}
use Rattle.std.specs.Prelude.{if◌then◌else◌, Some, ◌==◌, encode_utf8_all}
use Rattle.std.specs.List.{list_all}
use Rattle.std.specs.Char.{is_whitespace}
use Rattle.std.proofs.lemmas.List.{append-nil}
use Rattle.std.proofs.lemmas.List.Folds.{list_any-append}
use Rattle.std.proofs.Math.Utf8.{scalars}
use Rattle.dotenvy_format.specs.Characters.{tab, line_feed, carriage_return, space, hash, equals_sign}
use Rattle.dotenvy_exporter.specs.Texts.{mark_character, has}
use Rattle.dotenvy_exporter.specs.Docker.{Item, Gives, docker_lines, without_return, without_mark}
use Rattle.dotenvy_exporter.specs.Docker.{trimmed, fits_scanner}
use Rattle.dotenvy_exporter.specs.Docker.{is_docker_name, line_items, lines_items, docker_reads}
use Rattle.dotenvy_exporter.specs.Docker.{closing, docker_reads_bytes, docker_text, docker_line}
use Rattle.dotenvy_exporter.specs.Docker.{ends_in_return, name_holds, gives}
use Rattle.dotenvy_exporter.proofs.Pairs.{docker_holds, AreHeld}
use Rattle.dotenvy_exporter.proofs.Tests.{and_left, and_right, not_is, or_left, or_right, split_name, scalars-append}
use Rattle.std.proofs.lemmas.Str.{is_utf8-from_IsUtf8, chars-encodes}

-- a text with no line feed, before a line feed, is the first line
line_first : (line rest : List ℕ) → has line_feed line ≡ false →
    docker_lines (line ++ line_feed ∷ rest) ≡ line ∷ docker_lines rest
line_first [] rest h = refl
line_first (c ∷ line) rest h =
    let l = or_left (c == line_feed) (has line_feed line) h in
    let r = line_first line rest (or_right (c == line_feed) (has line_feed line) h) in
    rw (l, r) refl

-- a line that ends in no carriage return loses nothing
no_return : (line : List ℕ) → ends_in_return line ≡ false → without_return line ≡ line
no_return [] h = refl
no_return (c ∷ []) h = rw h refl
no_return (c ∷ d ∷ line) h = rw (no_return (d ∷ line) h) refl

-- what ends a text before which another stands
ends_after : (xs : List ℕ) (value : List ℕ) → ends_in_return value ≡ false → ends_in_return (xs ++ equals_sign ∷
    value) ≡ false
ends_after [] [] h = refl
ends_after [] (c ∷ value) h = h
ends_after (x ∷ []) value h = ends_after [] value h
ends_after (x ∷ y ∷ xs) value h = ends_after (y ∷ xs) value h

-- a carriage return behind a line is dropped
one_return : (line : List ℕ) → without_return (line ++ carriage_return ∷ []) ≡ line
one_return [] = refl
one_return (c ∷ []) = refl
one_return (c ∷ d ∷ line) = rw (one_return (d ∷ line)) refl

-- a written line without its line feed, and without what closes it
abbrev pub bare_line : List ℕ → List ℕ → List ℕ
bare_line name value = name ++ equals_sign ∷ value

abbrev pub closed_line : List ℕ → List ℕ → List ℕ
closed_line name value = name ++ equals_sign ∷ (value ++ closing value)

pub closed : (name value : List ℕ) → without_return (closed_line name value) ≡ bare_line name value
closed name value =
    (elim (ends_in_return value) as (λ b. ends_in_return value ≡ b →
    without_return (name ++ equals_sign ∷ (value ++ (if b then carriage_return ∷ [] else []))) ≡ name ++
    equals_sign ∷ value) [
      | true ↦ λ h. ap without_return (sym (append_assoc name (equals_sign ∷ value) (carriage_return ∷ []))) ∙
          one_return (name ++ equals_sign ∷ value)
      | false ↦ λ h. rw (append-nil value) (no_return (name ++ equals_sign ∷ value) (ends_after name value h))
    ]) refl

-- what a held name's tests say
pub record NameHeld (c : ℕ) (cs : List ℕ) : Type 0 where
  pub not_white : is_whitespace c ≡ false
  pub not_hash : (c == hash) ≡ false
  pub not_mark : (c == mark_character) ≡ false
  pub no_equals : has equals_sign (c ∷ cs) ≡ false
  pub no_feed : has line_feed (c ∷ cs) ≡ false
  pub is_name : is_docker_name (c ∷ cs) ≡ true

pub name_held : (c : ℕ) (cs : List ℕ) → name_holds (c ∷ cs) ≡ true → NameHeld c cs
name_held c cs h =
    let front = and_left _ (not (has space (c ∷ cs)) && not (has tab (c ∷ cs))) h in
    let first = not_is _ (and_left _ (not (has equals_sign (c ∷ cs)) && not (has line_feed (c ∷ cs))) front) in
    let marks = and_right (not (is_whitespace c || c == hash || c == mark_character)) _ front in
    record {
      not_white = or_left (is_whitespace c) (c == hash) (or_left (is_whitespace c || c == hash) _ first);
      not_hash = or_right (is_whitespace c) (c == hash) (or_left (is_whitespace c || c == hash) _ first);
      not_mark = or_right (is_whitespace c || c == hash) (c == mark_character) first;
      no_equals = not_is _ (and_left _ (not (has line_feed (c ∷ cs))) marks);
      no_feed = not_is _ (and_right (not (has equals_sign (c ∷ cs))) _ marks);
      is_name = and_right _ (not (has space (c ∷ cs)) && not (has tab (c ∷ cs))) h;
    }

-- a held name's line is not trimmed and is no comment
line_gives : (name value : List ℕ) (items : List Item) → name_holds name ≡ true →
    line_items (trimmed (bare_line name value)) (Some items) ≡ Some (Gives name value ∷ items)
line_gives [] value items h = cc
line_gives (c ∷ name) value items h =
    let n = name_held c name h in
    rw (n.not_white, n.not_hash, split_name (c ∷ name) value n.no_equals, n.is_name) refl

-- what a held pair's tests say of its line
pub record LineHeld (name value : List ℕ) : Type 0 where
  pub name_held : name_holds name ≡ true
  pub no_feed : has line_feed (closed_line name value) ≡ false
  pub fits : fits_scanner (closed_line name value) ≡ true

name_no_feed : (name : List ℕ) → name_holds name ≡ true → has line_feed name ≡ false
name_no_feed [] h = refl
name_no_feed (c ∷ cs) h = (name_held c cs h).no_feed

closing_no_feed : (value : List ℕ) → has line_feed (closing value) ≡ false
closing_no_feed value =
    elim (ends_in_return value) as (λ b. has line_feed (if b then carriage_return ∷ [] else []) ≡ false) [
      | true ↦
          refl
      | false ↦ refl
    ]

pub line_held : (name value : List ℕ) → docker_holds name value ≡ true → LineHeld name value
line_held name value h =
    let front = and_left (name_holds name && not (has line_feed value)) (fits_scanner (closed_line name value)) h in
    let held = and_left (name_holds name) (not (has line_feed value)) front in
    let feed = not_is (has line_feed value) (and_right (name_holds name) (not (has line_feed value)) front) in
    record {
      name_held = held;
      no_feed =
          list_any-append (λ d. d == line_feed) name (equals_sign ∷ (value ++ closing value))
          ∙ rw (name_no_feed name held, list_any-append (λ d. d == line_feed) value (closing value), feed)
          (closing_no_feed value);
      fits = and_right (name_holds name && not (has line_feed value)) (fits_scanner (closed_line name value)) h;
    }

abbrev pub closed_of : List ℕ × List ℕ → List ℕ
closed_of (name, value) = closed_line name value

-- a written line is the line and a line feed
line_and_feed : (name value rest : List ℕ) → docker_line name value ++ rest ≡ closed_line name value ++ line_feed
    ∷ rest
line_and_feed name value rest = simp append_assoc

-- the lines of the written pairs
pub written_lines : (pairs : List (List ℕ × List ℕ)) → AreHeld pairs → docker_lines (docker_text pairs) ≡ map
    closed_of pairs
written_lines [] are = refl
written_lines ((name, value) ∷ pairs) are =
    ap docker_lines (line_and_feed name value (docker_text pairs))
    ∙ line_first (closed_line name value) (docker_text pairs) (line_held name value are.0).no_feed
    ∙ ap (λ ls. closed_line name value ∷ ls) (written_lines pairs are.2)

-- each fits
pub written_fit : (pairs : List (List ℕ × List ℕ)) → AreHeld pairs → list_all fits_scanner (map closed_of pairs) ≡
    true
written_fit [] are = refl
written_fit ((name, value) ∷ pairs) are = rw ((line_held name value are.0).fits, written_fit pairs are.2) refl

-- each gives its pair
written_give : (pairs : List (List ℕ × List ℕ)) → AreHeld pairs → lines_items (map closed_of pairs) ≡ Some (gives
    pairs)
written_give [] are = refl
written_give ((name, value) ∷ pairs) are =
    let held = line_held name value are.0 in
    rw (written_give pairs are.2, closed name value) (line_gives name value (gives pairs) held.name_held)

-- the text begins with no mark
pub no_mark : (pairs : List (List ℕ × List ℕ)) → AreHeld pairs → without_mark (docker_text pairs) ≡ docker_text pairs
no_mark [] are = refl
no_mark (([], value) ∷ pairs) are = cc
no_mark ((c ∷ name, value) ∷ pairs) are =
    rw ((name_held c name ((line_held (c ∷ name) value are.0).name_held)).not_mark) refl

-- the characters are read as the pairs
pub text_reads : (pairs : List (List ℕ × List ℕ)) → AreHeld pairs → docker_reads (docker_text pairs) ≡ Some (gives
    pairs)
text_reads pairs are =
    rw (no_mark pairs are, written_lines pairs are, written_fit pairs are) (written_give pairs are)

closing_scalars : (value : List ℕ) → scalars (closing value) ≡ true
closing_scalars value =
    elim (ends_in_return value) as (λ b. scalars (if b then carriage_return ∷ [] else []) ≡ true) [
      | true ↦ refl
      | false ↦ refl
    ]

-- the text is of Unicode scalar values
pub text_scalars : (pairs : List (List ℕ × List ℕ)) → AreHeld pairs → scalars (docker_text pairs) ≡ true
text_scalars [] are = refl
text_scalars ((name, value) ∷ pairs) are =
    let both : (scalars name && scalars value) ≡ true = rw (scalars-append name value) at are.1 in
    simp (
      scalars-append,
      and_left (scalars name) (scalars value) both,
      and_right (scalars name) (scalars value)
          both,
      closing_scalars value,
      text_scalars pairs are.2,
    ) refl

-- the bytes are read as the pairs
pub bytes_read : (pairs : List (List ℕ × List ℕ)) → AreHeld pairs →
    docker_reads_bytes (encode_utf8_all (docker_text pairs)) ≡ Some (gives pairs)
bytes_read pairs are =
    let text = text_scalars pairs are in
    rw (
      is_utf8-from_IsUtf8 (encode_utf8_all (docker_text pairs)) (docker_text pairs, (text, refl)),
      chars-encodes (docker_text pairs) text,
    ) (text_reads pairs are)
