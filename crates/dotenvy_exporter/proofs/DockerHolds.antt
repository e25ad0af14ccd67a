-- What a line can give.
use Rattle.std.proofs.Common.{◌≡◌, ℕ, true, false, List, [], ◌∷◌, refl, subst}
use Rattle.std.specs.Prelude.{Option, Some, None, ◌==◌, if◌then◌else◌}
use Rattle.std.specs.List.{list_all}
use Rattle.std.specs.Char.{is_whitespace}
use Rattle.dotenvy_format.specs.Characters.{line_feed, carriage_return, hash, equals_sign}
use Rattle.dotenvy_exporter.specs.Texts.{has, onto_first, onto_part, split_at_equals}
use Rattle.dotenvy_exporter.specs.Docker.{Item, Gives, Asks, docker_lines, without_return}
use Rattle.dotenvy_exporter.specs.Docker.{without_mark, trimmed, fits_scanner}
use Rattle.dotenvy_exporter.specs.Docker.{is_docker_name, then_items, line_items, lines_items, docker_reads}
use Rattle.dotenvy_exporter.specs.Held.{AllCould}
use Rattle.dotenvy_exporter.proofs.Tests.{or_left, or_right}

-- no line has a line feed
abbrev pub NoFeeds : List (List ℕ) → Type 0
NoFeeds [] = Unit {0}
NoFeeds (line ∷ lines) = (has line_feed line ≡ false) × NoFeeds lines

onto_none : (c : ℕ) (lines : List (List ℕ)) → (c == line_feed) ≡ false → NoFeeds lines → NoFeeds (onto_first c lines)
onto_none c [] h are = (rw h refl, tt)
onto_none c (line ∷ lines) h are = (rw (h, are.0) refl, are.1)

pub no_feeds : (text : List ℕ) → NoFeeds (docker_lines text)
no_feeds [] = tt
no_feeds (c ∷ cs) =
    (elim (c == line_feed) as (λ b. (c == line_feed) ≡ b → NoFeeds (if b then [] ∷ docker_lines cs else onto_first
    c (docker_lines cs))) [
      | true ↦ λ h. (refl, no_feeds cs)
      | false ↦ λ h. onto_none c (docker_lines cs) h (no_feeds cs)
    ]) refl

pub none_returned : (line : List ℕ) → has line_feed line ≡ false → has line_feed (without_return line) ≡ false
none_returned [] h = refl
none_returned (c ∷ []) h =
    (elim (c == carriage_return) as (λ b. has line_feed (if b then [] else c ∷ []) ≡ false) [
      | true ↦ refl
      | false
          ↦ h
    ])
none_returned (c ∷ d ∷ cs) h =
    rw (
      or_left (c == line_feed) (has line_feed (d ∷ cs)) h,
      none_returned (d ∷ cs) (or_right (c == line_feed) (has line_feed (d ∷ cs)) h),
    ) refl

pub none_trimmed : (line : List ℕ) → has line_feed line ≡ false → has line_feed (trimmed line) ≡ false
none_trimmed [] h = refl
none_trimmed (c ∷ cs) h =
    (elim (is_whitespace c) as (λ b. has line_feed (if b then trimmed cs else c ∷ cs) ≡ false) [
      | true ↦ none_trimmed cs (or_right (c == line_feed) (has line_feed cs) h)
      | false ↦ h
    ])

-- a trimmed line begins with no white space
abbrev pub NotWhite : List ℕ → Type 0
NotWhite [] = Unit {0}
NotWhite (c ∷ cs) = is_whitespace c ≡ false

pub not_white : (line : List ℕ) → NotWhite (trimmed line)
not_white [] = tt
not_white (c ∷ cs) =
    (elim (is_whitespace c) as (λ b. is_whitespace c ≡ b → NotWhite (if b then trimmed cs else c ∷ cs)) [
      | true ↦ λ h. not_white cs
      | false ↦ λ h. h
    ]) refl

-- the parts of a text around its first `=`: no `=` before it, and no line feed where the text has none
abbrev pub ArePlain : Option (List ℕ × List ℕ) → Type 0
ArePlain None = Unit {0}
ArePlain (Some (name, value)) = (has equals_sign name ≡ false) × (has line_feed name ≡ false) × (has line_feed
    value ≡ false)

onto_plain : (c : ℕ) (parts : Option (List ℕ × List ℕ)) → (c == equals_sign) ≡ false → (c == line_feed) ≡ false →
    ArePlain parts → ArePlain (onto_part c parts)
onto_plain c None h k are = tt
onto_plain c (Some (name, value)) h k are = (rw (h, are.0) refl, rw (k, are.1) refl, are.2)

pub parts_plain : (text : List ℕ) → has line_feed text ≡ false → ArePlain (split_at_equals text)
parts_plain [] h = tt
parts_plain (c ∷ cs) h =
    let later = or_right (c == line_feed) (has line_feed cs) h in
    (elim (c == equals_sign) as (λ b. (c == equals_sign) ≡ b → ArePlain (if b then Some ([], cs) else onto_part c
    (split_at_equals cs))) [
      | true ↦ λ k. (refl, refl, later)
      | false ↦ λ k. onto_plain c (split_at_equals cs) k (or_left (c == line_feed) (has line_feed cs) h)
          (parts_plain cs later)
    ]) refl

-- the items, where there are some, could be
abbrev pub Could : Option (List Item) → Type 0
Could None = Unit {0}
Could (Some items) = AllCould items

-- the name that is before `=` begins as the text does, or is empty
abbrev Begins : ℕ → Option (List ℕ × List ℕ) → Type 0
Begins c None = Unit {0}
Begins c (Some ([], value)) = Unit {0}
Begins c (Some (d ∷ name, value)) = d ≡ c

onto_begins : (c : ℕ) (parts : Option (List ℕ × List ℕ)) → Begins c (onto_part c parts)
onto_begins c None = tt
onto_begins c (Some (name, value)) = refl

begins : (c : ℕ) (cs : List ℕ) → Begins c (split_at_equals (c ∷ cs))
begins c cs =
    (elim (c == equals_sign) as (λ b. Begins c (if b then Some ([], cs) else onto_part c (split_at_equals cs))) [
      | true ↦ tt
      | false ↦ onto_begins c (split_at_equals cs)
    ])

then_could : (c : ℕ) (cs : List ℕ) (parts : Option (List ℕ × List ℕ)) (items : Option (List Item)) →
    is_whitespace c ≡ false → (c == hash) ≡ false → Begins c parts → ArePlain parts → Could items →
    Could (then_items parts (c ∷ cs) items)
then_could c cs parts None w k b plain could = tt
then_could c cs None (Some items) w k b plain could =
    (elim (is_docker_name (c ∷ cs)) as (λ t. Could (if t then Some (Asks (c ∷ cs) ∷ items) else None)) [
      | true ↦
          could
      | false ↦ tt
    ])
then_could c cs (Some ([], value)) (Some items) w k b plain could = tt
then_could c cs (Some (d ∷ name, value)) (Some items) w k b plain could =
    (elim (is_docker_name (d ∷ name)) as (λ t. is_docker_name (d ∷ name) ≡ t →
    Could (if t then Some (Gives (d ∷ name) value ∷ items) else None)) [
      | true ↦ λ h.
          let white : is_whitespace d ≡ false = rw b w in
          let other : (d == hash) ≡ false = rw b k in
          (rw (white, other, h, plain.0, plain.1, plain.2) refl, could)
      | false ↦ λ h. tt
    ]) refl

line_could : (line : List ℕ) (items : Option (List Item)) → has line_feed line ≡ false → NotWhite line → Could items →
    Could (line_items line items)
line_could [] items h w could = could
line_could (c ∷ cs) items h w could =
    (elim (c == hash) as (λ b. (c == hash) ≡ b → Could (if b then items else then_items (split_at_equals (c ∷ cs))
    (c ∷ cs) items)) [
      | true ↦ λ k. could
      | false ↦ λ k. then_could c cs (split_at_equals (c ∷ cs)) items w k (begins c cs) (parts_plain (c ∷ cs) h) could
    ]) refl

pub lines_could : (lines : List (List ℕ)) → NoFeeds lines → Could (lines_items lines)
lines_could [] are = tt
lines_could (line ∷ lines) are =
    line_could (trimmed (without_return line)) (lines_items lines)
    (none_trimmed (without_return line) (none_returned line are.0)) (not_white (without_return line)) (lines_could
    lines are.1)

reads_could : (text : List ℕ) → Could (docker_reads text)
reads_could text =
    (elim (list_all fits_scanner (docker_lines text)) as (λ b.
    Could (if b then lines_items (docker_lines (without_mark text)) else None)) [
      | true ↦ lines_could (docker_lines (without_mark text)) (no_feeds (without_mark text))
      | false ↦ tt
    ])

pub holds_no_other : (text : List ℕ) (items : List Item) → docker_reads text ≡ Some items → AllCould items
holds_no_other text items e = subst Could e (reads_could text)
