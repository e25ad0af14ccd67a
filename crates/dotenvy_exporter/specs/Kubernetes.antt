-- How `kubectl create configmap|secret --from-env-file` reads a text (1.32). What is written for it is what docker is
-- given. It reads up to the first line of 65,536 bytes or more, and nothing (None) of a text that kubectl refuses or
-- that isn't UTF-8, or if a name that it reads has no `=`.
use Rattle.std.specs.Prelude.{ℕ, Bool, false, not, ◌&&◌, ◌||◌, ◌==◌, nat_eq, nat_le, List, []}
use Rattle.std.specs.Prelude.{◌∷◌}
use Rattle.std.specs.Prelude.{if◌then◌else◌, Option, Some, None, codes, encode_utf8_all}
use Rattle.std.specs.Char.{is_ascii_alphabetic, is_ascii_digit}
use Rattle.std.specs.List.{list_all, starts_with}
use Rattle.std.specs.Str.{bytes_eq, is_utf8, chars}
use Rattle.dotenvy_format.specs.Characters.{byte_len, full_stop, hash, underscore}
use Rattle.dotenvy_exporter.specs.declared.refusal.Reason.{Reason}
use Rattle.dotenvy_exporter.specs.declared.refusal.Reason.TheVariants as reason
use Rattle.dotenvy_exporter.specs.Docker.{docker_lines, without_return, without_mark, trimmed}
use Rattle.dotenvy_exporter.specs.Docker.{fits_scanner, docker_refusal}
use Rattle.dotenvy_exporter.specs.Texts.{Pair, hyphen, is_new, split_at_equals}

-- letters of ASCII, `_`, `-` and `.`
abbrev pub begins_entry : ℕ → Bool
begins_entry c = is_ascii_alphabetic c || (c == underscore || (c == hyphen || c == full_stop))

-- these and digits
abbrev pub continues_entry : ℕ → Bool
continues_entry c = begins_entry c || is_ascii_digit c

-- each character can be in a key, with no digit first
abbrev pub has_entry_characters : List ℕ → Bool
has_entry_characters [] = false
has_entry_characters (c ∷ cs) = begins_entry c && list_all continues_entry cs

-- a file can have the name, given by its bytes: it is not `.`, and doesn't begin with `..`
abbrev pub is_path_name : List ℕ → Bool
is_path_name name =
    not (bytes_eq name (codes ".") || starts_with nat_eq name (codes ".."))

-- a key of kubernetes: such a name of at most 253 bytes
abbrev pub is_kubernetes_key : List ℕ → Bool
is_kubernetes_key name =
    has_entry_characters name
    && (is_path_name (encode_utf8_all name) && nat_le (byte_len name) 253)

-- the pairs of a name and of what is after its `=`, and of the lines after it; None is a refusal of
-- the whole, as for a name twice. A line without `=` asks kubectl's environment: nothing is said of it
abbrev pub then_pairs : Option Pair → Option (List Pair) → Option (List Pair)
then_pairs parts None = None
then_pairs None (Some pairs) = None
then_pairs (Some (name, value)) (Some pairs) =
    if is_kubernetes_key name && is_new name pairs then Some ((name, value) ∷ pairs) else None

-- the pairs of a trimmed line and of the lines after it
abbrev pub key_pairs : List ℕ → Option (List Pair) → Option (List Pair)
key_pairs [] pairs = pairs
key_pairs (c ∷ cs) pairs =
    if c == hash then pairs else then_pairs (split_at_equals (c ∷ cs)) pairs

-- the pairs of lines
abbrev pub keys_pairs : List (List ℕ) → Option (List Pair)
keys_pairs [] = Some []
keys_pairs (line ∷ lines) = key_pairs (trimmed (without_return line)) (keys_pairs lines)

-- the lines before the first of 65,536 bytes or more: there reading stops, without a word
abbrev pub until_long : List (List ℕ) → List (List ℕ)
until_long [] = []
until_long (line ∷ lines) = if fits_scanner line then line ∷ until_long lines else []

-- the lines without a byte order mark at the beginning of the first
abbrev pub unmarked : List (List ℕ) → List (List ℕ)
unmarked [] = []
unmarked (line ∷ lines) = without_mark line ∷ lines

-- what kubectl reads of a text: pairs in order, or None where it refuses the file
abbrev pub kubernetes_reads : List ℕ → Option (List Pair)
kubernetes_reads text = keys_pairs (unmarked (until_long (docker_lines text)))

-- what kubectl reads of bytes: it refuses a line that is not UTF-8. Nothing is said of such a line
-- after one that is too long, which it never reads
abbrev pub kubernetes_reads_bytes : List ℕ → Option (List Pair)
kubernetes_reads_bytes bytes = if is_utf8 bytes then kubernetes_reads (chars bytes) else None

-- why kubectl can't be given this pair, if it can't
abbrev pub kubernetes_refusal : Pair → Option Reason
kubernetes_refusal (name, value) =
    if is_kubernetes_key name then docker_refusal (name, value) else Some reason.Name
