-- What docker and kubectl can read.
use Rattle.std.proofs.Common.{◌≡◌, ℕ, true, false, not, ◌&&◌, ◌||◌, List, [], ◌∷◌, ◌++◌, inl, inr, refl, arith}
use Rattle.std.proofs.Common.{ltb-true}
use Rattle.std.specs.Prelude.{◌<◌, ◌==◌, Option, Some, None, is_none, encode_utf8_all, nat_le}
use Rattle.std.specs.Char.{is_whitespace}
use Rattle.std.specs.List.{list_all}
use Rattle.std.specs.Str.{is_utf8, chars}
use Rattle.std.proofs.lemmas.Bool.{cases_Bool}
use Rattle.std.proofs.lemmas.Bool.Decides.{nat_tests}
use Rattle.dotenvy_format.specs.Characters.{byte_len, equals_sign, hash, line_feed, space, tab}
use Rattle.dotenvy_exporter.specs.declared.target.Target.TheVariants as target
use Rattle.dotenvy_exporter.specs.Docker.{Item, Gives, Asks, docker_lines, docker_reads}
use Rattle.dotenvy_exporter.specs.Docker.{docker_reads_pairs}
use Rattle.dotenvy_exporter.specs.Docker.{docker_refusal, fits_scanner, given, given_of}
use Rattle.dotenvy_exporter.specs.Docker.{lines_items, name_holds, trimmed, without_mark}
use Rattle.dotenvy_exporter.specs.Docker.{without_return}
use Rattle.dotenvy_exporter.specs.Held.{AllCould, could_hold}
use Rattle.dotenvy_exporter.specs.Kubernetes.{begins_entry, continues_entry, has_entry_characters, is_kubernetes_key}
use Rattle.dotenvy_exporter.specs.Kubernetes.{is_path_name, key_pairs, keys_pairs, kubernetes_reads}
use Rattle.dotenvy_exporter.specs.Kubernetes.{kubernetes_reads_bytes}
use Rattle.dotenvy_exporter.specs.Kubernetes.{kubernetes_refusal, then_pairs, unmarked, until_long}
use Rattle.dotenvy_exporter.specs.Texts.{Pair, begins_with_mark, has, is_new, mark_character}
use Rattle.dotenvy_exporter.specs.Texts.{onto_pairs, split_at_equals}
use Rattle.dotenvy_exporter.proofs.DockerFits.{AllFit, Fit, FitParts, LinesFit, left_need}
use Rattle.dotenvy_exporter.proofs.DockerFits.{first_len, lines_fit, marked_fit, need, pair_line, parts_fit}
use Rattle.dotenvy_exporter.proofs.DockerHolds.{ArePlain, Could, NoFeeds, lines_could, no_feeds}
use Rattle.dotenvy_exporter.proofs.DockerHolds.{none_returned, none_trimmed, parts_plain}
use Rattle.dotenvy_exporter.proofs.ShellHolds.{Givable}
use Rattle.dotenvy_exporter.proofs.Tests.{and_left, and_right, none_of_others, not_is, or_left, or_right, picked}

-- a pair that docker reads can be given, unless it has a NUL or begins with a mark
pair_givable : (name value : List ℕ) → could_hold name value ≡ true → fits_scanner (pair_line name value) ≡ true →
    (is_none (docker_refusal (name, value)) || (has 0 (name ++ value) || begins_with_mark name)) ≡ true
pair_givable [] value h fits = cc
pair_givable (c ∷ cs) value h fits =
    let name = c ∷ cs in
    let first = and_left (not (is_whitespace c || c == hash) && (not (has space name) && not (has tab name)))
    (not (has equals_sign name) && (not (has line_feed name) && not (has line_feed value))) h in
    let second = and_right (not (is_whitespace c || c == hash) && (not (has space name) && not (has tab name)))
    (not (has equals_sign name) && (not (has line_feed name) && not (has line_feed value))) h in
    let begins = not_is (is_whitespace c || c == hash)
    (and_left (not (is_whitespace c || c == hash)) (not (has space name) && not (has tab name)) first) in
    let blanks = and_right (not (is_whitespace c || c == hash)) (not (has space name) && not (has tab name)) first in
    let spaces = not_is (has space name) (and_left (not (has space name)) (not (has tab name)) blanks) in
    let tabs = not_is (has tab name) (and_right (not (has space name)) (not (has tab name)) blanks) in
    let equals = not_is (has equals_sign name)
    (and_left (not (has equals_sign name)) (not (has line_feed name) && not (has line_feed value)) second) in
    let feeds = and_right (not (has equals_sign name)) (not (has line_feed name) && not (has line_feed value))
    second in
    let own = not_is (has line_feed name) (and_left (not (has line_feed name)) (not (has line_feed value)) feeds) in
    let feed = not_is (has line_feed value) (and_right (not (has line_feed name)) (not (has line_feed value))
    feeds) in
    let white = or_left (is_whitespace c) (c == hash) begins in
    let comment = or_right (is_whitespace c) (c == hash) begins in
    elim (cases_Bool (c == mark_character)) [
      | inl mark ↦
          elim (cases_Bool (has 0 (name ++ value))) [
            | inl nul ↦ rw (white, comment, mark, nul) refl
            | inr clean ↦ rw (white, comment, mark, clean) refl
          ]
      | inr other ↦
          elim (cases_Bool (has 0 (name ++ value))) [
            | inl nul ↦ rw (white, comment, other, equals, own, spaces, tabs, nul) refl
            | inr clean ↦ rw (white, comment, other, equals, own, spaces, tabs, clean, feed, fits) refl
          ]
    ]

-- the pairs of what docker gives can be given
onto_givable : (name value : List ℕ) (pairs : Option (List Pair)) → could_hold name value ≡ true →
    fits_scanner (pair_line name value) ≡ true → Givable target.Docker pairs →
    Givable target.Docker (onto_pairs (name, value) pairs)
onto_givable name value None could fits are = tt
onto_givable name value (Some pairs) could fits are = (pair_givable name value could fits, are)

items_givable : (items : List Item) → AllCould items → AllFit items → Givable target.Docker (given items)
items_givable [] could fit = tt
items_givable (Gives name value ∷ items) could fit =
    onto_givable name value (given items) could.0 fit.0 (items_givable items could.1 fit.1)
items_givable (Asks name ∷ items) could fit = tt

read_givable : (items : Option (List Item)) → Could items → Fit items → Givable target.Docker (given_of items)
read_givable None could fit = tt
read_givable (Some items) could fit = items_givable items could fit

-- docker reads only pairs that it can be given, or that are left out
pub docker_holds : (bytes : List ℕ) → Givable target.Docker (docker_reads_pairs bytes)
docker_holds bytes =
    picked (λ items. Givable target.Docker (given_of items)) (is_utf8 bytes) (docker_reads (chars bytes)) None
    (λ h. picked (λ items. Givable target.Docker (given_of items)) (list_all fits_scanner (docker_lines (chars
    bytes)))
    (lines_items (docker_lines (without_mark (chars bytes)))) None
    (λ k. read_givable (lines_items (docker_lines (without_mark (chars bytes))))
    (lines_could (docker_lines (without_mark (chars bytes))) (no_feeds (without_mark (chars bytes))))
    (lines_fit (docker_lines (without_mark (chars bytes))) (marked_fit (chars bytes) k))) (λ k. tt)) (λ h. tt)

-- what begins a key is no white space
not_white : (c : ℕ) → begins_entry c ≡ true → is_whitespace c ≡ false
not_white c h = grind (arith, nat_tests, h)

-- docker reads a key as it is
key_holds : (name : List ℕ) → has_entry_characters name ≡ true → name_holds name ≡ true
key_holds [] h = cc
key_holds (c ∷ cs) h =
    let begins = and_left (begins_entry c) (list_all continues_entry cs) h in
    let all : list_all continues_entry (c ∷ cs) ≡ true =
    rw (begins, and_right (begins_entry c) (list_all continues_entry cs) h) refl in
    rw (
      not_white c begins,
      or_left (c == hash) (has hash cs) (none_of_others continues_entry hash (c ∷ cs) refl all),
      or_left (c == mark_character) (has mark_character cs)
          (none_of_others continues_entry mark_character (c ∷ cs) refl all),
      none_of_others continues_entry equals_sign (c ∷ cs) refl all,
      none_of_others continues_entry line_feed (c ∷ cs) refl all,
      none_of_others continues_entry space (c ∷ cs) refl all,
      none_of_others continues_entry tab (c ∷ cs) refl all,
    ) refl

-- a pair under a key, in a line that fits, can be given, unless it has a NUL
key_givable : (name value : List ℕ) → is_kubernetes_key name ≡ true → has line_feed value ≡ false →
    fits_scanner (pair_line name value) ≡ true →
    (is_none (kubernetes_refusal (name, value)) || has 0 (name ++ value)) ≡ true
key_givable name value key feed fits =
    let characters = and_left (has_entry_characters name)
    (is_path_name (encode_utf8_all name) && nat_le (byte_len name) 253) key in
    let holds = key_holds name characters in
    elim (cases_Bool (has 0 (name ++ value))) [
      | inl nul ↦ rw (key, holds, nul) refl
      | inr clean ↦ rw (key, holds, clean, feed, fits) refl
    ]

then_givable : (parts : Option Pair) (pairs : Option (List Pair)) → ArePlain parts → FitParts parts →
    Givable target.Kubernetes pairs → Givable target.Kubernetes (then_pairs parts pairs)
then_givable parts None plain fit are = tt
then_givable None (Some pairs) plain fit are = tt
then_givable (Some (name, value)) (Some pairs) plain fit are =
    picked (Givable target.Kubernetes) (is_kubernetes_key name && is_new name pairs) (Some ((name, value) ∷
    pairs)) None
    (λ h. (key_givable name value (and_left (is_kubernetes_key name) (is_new name pairs) h) plain.2 fit, are)) (λ
    h. tt)

line_givable : (line : List ℕ) (pairs : Option (List Pair)) → has line_feed line ≡ false → need line < 65536 →
    Givable target.Kubernetes pairs → Givable target.Kubernetes (key_pairs line pairs)
line_givable [] pairs feed small are = are
line_givable (c ∷ cs) pairs feed small are =
    picked (Givable target.Kubernetes) (c == hash) pairs (then_pairs (split_at_equals (c ∷ cs)) pairs) (λ h. are)
    (λ h. then_givable (split_at_equals (c ∷ cs)) pairs (parts_plain (c ∷ cs) feed) (parts_fit (c ∷ cs) small) are)

lines_givable : (lines : List (List ℕ)) → NoFeeds lines → LinesFit lines → Givable target.Kubernetes (keys_pairs
    lines)
lines_givable [] feeds fit = tt
lines_givable (line ∷ lines) feeds fit =
    line_givable (trimmed (without_return line)) (keys_pairs lines)
    (none_trimmed (without_return line) (none_returned line feeds.0)) (left_need line fit.0)
    (lines_givable lines feeds.1 fit.1)

-- lines until one is too long fit, and have no line feed if all have none
long_fit : (lines : List (List ℕ)) → LinesFit (until_long lines)
long_fit [] = tt
long_fit (line ∷ lines) =
    picked LinesFit (fits_scanner line) (line ∷ until_long lines) []
    (λ h. (ltb-true (byte_len line) 65536 h, long_fit lines)) (λ h. tt)

long_feeds : (lines : List (List ℕ)) → NoFeeds lines → NoFeeds (until_long lines)
long_feeds [] are = tt
long_feeds (line ∷ lines) are =
    picked NoFeeds (fits_scanner line) (line ∷ until_long lines) [] (λ h. (are.0, long_feeds lines are.1)) (λ h. tt)

-- so do those without a mark
unmarked_fit : (lines : List (List ℕ)) → LinesFit lines → LinesFit (unmarked lines)
unmarked_fit [] are = tt
unmarked_fit ([] ∷ lines) are = are
unmarked_fit ((c ∷ cs) ∷ lines) are =
    picked (λ line. LinesFit (line ∷ lines)) (c == mark_character) cs (c ∷ cs)
    (λ h. (let more = first_len c cs in omega (arith, are.0), are.1)) (λ h. are)

unmarked_feeds : (lines : List (List ℕ)) → NoFeeds lines → NoFeeds (unmarked lines)
unmarked_feeds [] are = tt
unmarked_feeds ([] ∷ lines) are = are
unmarked_feeds ((c ∷ cs) ∷ lines) are =
    picked (λ line. NoFeeds (line ∷ lines)) (c == mark_character) cs (c ∷ cs)
    (λ h. (or_right (c == line_feed) (has line_feed cs) are.0, are.1)) (λ h. are)

-- kubectl reads only pairs that it can be given, or that are left out
pub kubernetes_holds : (bytes : List ℕ) → Givable target.Kubernetes (kubernetes_reads_bytes bytes)
kubernetes_holds bytes =
    let lines = until_long (docker_lines (chars bytes)) in
    picked (Givable target.Kubernetes) (is_utf8 bytes) (kubernetes_reads (chars bytes)) None
    (λ h. lines_givable (unmarked lines)
    (unmarked_feeds lines (long_feeds (docker_lines (chars bytes)) (no_feeds (chars bytes))))
    (unmarked_fit lines (long_fit (docker_lines (chars bytes))))) (λ h. tt)
