-- A written line, as kubectl reads it.
use Rattle.std.proofs.Common.{◌≡◌, ℕ, true, ◌&&◌, List, [], ◌∷◌, refl, map}
use Rattle.std.specs.Prelude.{Some, encode_utf8_all}
use Rattle.std.specs.List.{list_all}
use Rattle.std.proofs.lemmas.Str.{is_utf8-from_IsUtf8, chars-encodes}
use Rattle.dotenvy_exporter.specs.Docker.{trimmed, docker_text, fits_scanner, name_holds}
use Rattle.dotenvy_exporter.specs.Texts.{is_new}
use Rattle.dotenvy_exporter.specs.Kubernetes.{is_kubernetes_key, key_pairs, keys_pairs}
use Rattle.dotenvy_exporter.specs.Kubernetes.{kubernetes_reads, kubernetes_reads_bytes, unmarked, until_long}
use Rattle.dotenvy_exporter.proofs.Pairs.{AreHeld, AreKeyed}
use Rattle.dotenvy_exporter.proofs.Tests.{and_left, and_right, split_name}
use Rattle.dotenvy_exporter.proofs.DockerLines.{bare_line, closed_of, closed, name_held, line_held}
use Rattle.dotenvy_exporter.proofs.DockerLines.{written_lines, written_fit, text_scalars}

held_of : (pairs : List (List ℕ × List ℕ)) → AreKeyed pairs → AreHeld pairs
held_of [] are = tt
held_of ((name, value) ∷ pairs) are = (are.0, are.1, held_of pairs are.3)

line_gives : (name value : List ℕ) (pairs : List (List ℕ × List ℕ)) → name_holds name ≡ true →
    (is_kubernetes_key name && is_new name pairs) ≡ true →
    key_pairs (trimmed (bare_line name value)) (Some pairs) ≡ Some ((name, value) ∷ pairs)
line_gives [] value pairs h k = cc
line_gives (c ∷ name) value pairs h k =
    let n = name_held c name h in
    rw (n.not_white, n.not_hash, split_name (c ∷ name) value n.no_equals, k) refl

all_give : (pairs : List (List ℕ × List ℕ)) → AreKeyed pairs → keys_pairs (map closed_of pairs) ≡ Some pairs
all_give [] are = refl
all_give ((name, value) ∷ pairs) are =
    rw (all_give pairs are.3, closed name value) (line_gives name value pairs (line_held name value
    are.0).name_held are.2)

-- lines that all fit are all read
none_long : (lines : List (List ℕ)) → list_all fits_scanner lines ≡ true → until_long lines ≡ lines
none_long [] h = refl
none_long (line ∷ lines) h =
    rw (
      and_left (fits_scanner line) (list_all fits_scanner lines) h,
      none_long lines (and_right (fits_scanner line) (list_all fits_scanner lines) h),
    ) refl

-- the first line of what is written begins with no mark
none_marked : (pairs : List (List ℕ × List ℕ)) → AreHeld pairs → unmarked (map closed_of pairs) ≡ map closed_of pairs
none_marked [] are = refl
none_marked (([], value) ∷ pairs) are = cc
none_marked ((c ∷ name, value) ∷ pairs) are =
    rw ((name_held c name ((line_held (c ∷ name) value are.0).name_held)).not_mark) refl

text_reads : (pairs : List (List ℕ × List ℕ)) → AreKeyed pairs → kubernetes_reads (docker_text pairs) ≡ Some pairs
text_reads pairs are =
    let held = held_of pairs are in
    rw (
      written_lines pairs held,
      none_long (map closed_of pairs) (written_fit pairs held),
      none_marked pairs held,
    ) (all_give pairs are)

pub bytes_read : (pairs : List (List ℕ × List ℕ)) → AreKeyed pairs →
    kubernetes_reads_bytes (encode_utf8_all (docker_text pairs)) ≡ Some pairs
bytes_read pairs are =
    let text = text_scalars pairs (held_of pairs are) in
    rw (
      is_utf8-from_IsUtf8 (encode_utf8_all (docker_text pairs)) (docker_text pairs, (text, refl)),
      chars-encodes (docker_text pairs) text,
    ) (text_reads pairs are)
