-- How long a line is that docker or kubectl reads.
use Rattle.std.proofs.Common.{◌≡◌, ℕ, ◌+◌, ◌<◌, ◌≤◌, true, List, [], ◌∷◌, ◌++◌}
use Rattle.std.proofs.Common.{length, length-append, append_assoc, refl, ap, arith}
use lib.Utf8.{encode}
use Rattle.std.specs.Prelude.{◌==◌, Option, Some, None, encode_utf8, encode_utf8_all}
use Rattle.std.specs.Char.{is_whitespace}
use Rattle.std.specs.List.{list_all}
use Rattle.std.proofs.Common.{ltb-true, lt-ltb}
use Rattle.std.proofs.lemmas.Bool.{eqb-true}
use Rattle.std.proofs.lemmas.Str.{encodes-append, length-le-encodes}
use Rattle.dotenvy_format.specs.Characters.{byte_len, carriage_return, equals_sign, hash}
use Rattle.dotenvy_exporter.specs.Docker.{Item, Gives, Asks, closing, docker_lines, ends_in_return}
use Rattle.dotenvy_exporter.specs.Docker.{fits_scanner, is_docker_name}
use Rattle.dotenvy_exporter.specs.Docker.{line_items, lines_items, then_items, trimmed, without_mark, without_return}
use Rattle.dotenvy_exporter.specs.Texts.{Pair, mark_character, onto_first, onto_part, split_at_equals}
use Rattle.dotenvy_exporter.proofs.Tests.{and_left, and_right, picked}
use Rattle.dotenvy_exporter.proofs.TextBytes.{ends_last}
use Rattle.dotenvy_exporter.proofs.WrittenBytes.{closing_encodes}

-- how many bytes a line takes, and what closes it
abbrev pub need : List ℕ → ℕ
need line = byte_len line + length (closing line)

-- a first character takes its own bytes
pub first_len : (c : ℕ) (cs : List ℕ) → byte_len (c ∷ cs) ≡ length (encode_utf8 c) + byte_len cs
first_len c cs = length-append (encode_utf8 c) (encode_utf8_all cs)

closing_most : (line : List ℕ) → length (closing line) ≤ 1
closing_most line =
    picked (λ xs. length xs ≤ 1) (ends_in_return line) (carriage_return ∷ []) [] (λ h. omega arith) (λ h. omega arith)

-- behind a first character others need no more than with it
need_more : (c : ℕ) (cs : List ℕ) → need cs ≤ need (c ∷ cs)
need_more c [] = omega (arith, first_len c [])
need_more c (d ∷ cs) = omega (arith, first_len c (d ∷ cs))

-- a character in front adds its own bytes to what is needed, where there is room for what closes it
push_need : (c : ℕ) (line : List ℕ) (n : ℕ) → need line ≤ n → 1 ≤ n → need (c ∷ line) ≤ length (encode_utf8 c) + n
push_need c [] n h room = omega (arith, first_len c [], closing_most (c ∷ []))
push_need c (d ∷ cs) n h room = omega (arith, first_len c (d ∷ cs))

-- a line without its carriage return needs no more bytes than the line had
strip_need : (line : List ℕ) → need (without_return line) ≤ byte_len line
strip_need [] = omega arith
strip_need (c ∷ []) =
    picked (λ line. need line ≤ byte_len (c ∷ [])) (c == carriage_return) [] (c ∷ []) (λ h. omega arith)
    (λ h. rw h (omega arith))
strip_need (c ∷ d ∷ cs) =
    let some : 1 ≤ byte_len (d ∷ cs) = omega (arith, length-le-encodes (d ∷ cs)) in
    let all = push_need c (without_return (d ∷ cs)) (byte_len (d ∷ cs)) (strip_need (d ∷ cs)) some in
    omega (arith, all, first_len c (d ∷ cs))

-- nor does it without the white space at its beginning
trim_need : (line : List ℕ) → need (trimmed line) ≤ need line
trim_need [] = omega arith
trim_need (c ∷ cs) =
    picked (λ line. need line ≤ need (c ∷ cs)) (is_whitespace c) (trimmed cs) (c ∷ cs)
    (λ h. let less = trim_need cs in let more = need_more c cs in omega arith) (λ h. omega arith)

-- the parts of a line around its first `=` make up the line
abbrev Parts : List ℕ → Option Pair → Type 0
Parts line None = Unit {0}
Parts line (Some (name, value)) = line ≡ name ++ equals_sign ∷ value

onto_parts : (c : ℕ) (line : List ℕ) (parts : Option Pair) → Parts line parts → Parts (c ∷ line) (onto_part c parts)
onto_parts c line None are = tt
onto_parts c line (Some (name, value)) are = ap (λ cs. c ∷ cs) are

pub parts_of : (line : List ℕ) → Parts line (split_at_equals line)
parts_of [] = tt
parts_of (c ∷ cs) =
    picked (Parts (c ∷ cs)) (c == equals_sign) (Some ([], cs)) (onto_part c (split_at_equals cs))
    (λ h. rw (eqb-true c equals_sign h) refl) (λ h. onto_parts c cs (split_at_equals cs) (parts_of cs))

-- the line of a pair
abbrev pub pair_line : List ℕ → List ℕ → List ℕ
pair_line name value = name ++ equals_sign ∷ (value ++ closing value)

-- what closes a value closes the line that ends with it
value_closes : (front value : List ℕ) → length (closing value) ≤ length (closing (front ++ value))
value_closes front [] = omega arith
value_closes front (v ∷ value) = rw (ends_last front (v ∷ value) (omega arith)) (omega arith)

pair_need : (name value : List ℕ) → byte_len (pair_line name value) ≤ need (name ++ equals_sign ∷ value)
pair_need name value =
    let first = ap length (encodes-append name (equals_sign ∷ (value ++ closing value))) in
    let second = ap length (encodes-append value (closing value)) in
    let third = ap length (closing_encodes value) in
    let whole = ap length (encodes-append name (equals_sign ∷ value)) in
    let closes = value_closes (name ++ equals_sign ∷ []) value in
    let line : (name ++ equals_sign ∷ []) ++ value ≡ name ++ equals_sign ∷ value = append_assoc name (equals_sign
    ∷ []) value in
    let ends = rw line at closes in
    omega (
      arith,
      simp length-append at first,
      simp length-append at second,
      simp length-append at whole,
      third,
      ends,
      first_len equals_sign (value ++ closing value),
      first_len equals_sign value,
    )

-- a pair that is cut from a line which needs fewer bytes than docker's limit fits
abbrev pub FitParts : Option Pair → Type 0
FitParts None = Unit {0}
FitParts (Some (name, value)) = fits_scanner (pair_line name value) ≡ true

cut_fits : (line : List ℕ) (parts : Option Pair) → need line < 65536 → Parts line parts → FitParts parts
cut_fits line None h are = tt
cut_fits line (Some (name, value)) h are =
    let small = rw are at h in
    let less = pair_need name value in
    lt-ltb (byte_len (pair_line name value)) 65536 (omega arith)

pub parts_fit : (line : List ℕ) → need line < 65536 → FitParts (split_at_equals line)
parts_fit line h = cut_fits line (split_at_equals line) h (parts_of line)

-- each line fits
abbrev pub LinesFit : List (List ℕ) → Type 0
LinesFit [] = Unit {0}
LinesFit (line ∷ lines) = (byte_len line < 65536) × LinesFit lines

all_fit : (lines : List (List ℕ)) → list_all fits_scanner lines ≡ true → LinesFit lines
all_fit [] h = tt
all_fit (line ∷ lines) h = (
  ltb-true (byte_len line) 65536 (and_left (fits_scanner line) (list_all fits_scanner lines) h),
  all_fit lines (and_right (fits_scanner line) (list_all fits_scanner lines) h),
)

onto_fit : (c : ℕ) (lines : List (List ℕ)) → LinesFit (onto_first c lines) → LinesFit lines
onto_fit c [] are = tt
onto_fit c (line ∷ lines) are = (let less = first_len c line in omega (arith, are.0), are.1)

-- the lines of the text without a mark fit if those of the text do
mark_fits : (c : ℕ) (cs : List ℕ) → LinesFit (docker_lines (c ∷ cs)) → LinesFit (docker_lines (without_mark (c ∷ cs)))
mark_fits c cs are =
    picked (λ text. LinesFit (docker_lines text)) (c == mark_character) cs (c ∷ cs)
    (λ h. onto_fit mark_character (docker_lines cs) (rw (eqb-true c mark_character h) at are)) (λ h. are)

pub marked_fit : (text : List ℕ) → list_all fits_scanner (docker_lines text) ≡ true →
    LinesFit (docker_lines (without_mark text))
marked_fit [] h = tt
marked_fit (c ∷ cs) h = mark_fits c cs (all_fit (docker_lines (c ∷ cs)) h)

-- what is left of a line that fits needs fewer bytes than the limit
pub left_need : (line : List ℕ) → byte_len line < 65536 → need (trimmed (without_return line)) < 65536
left_need line h =
    let trimmed = trim_need (without_return line) in let stripped = strip_need line in omega arith

-- what docker gives fits
abbrev pub AllFit : List Item → Type 0
AllFit [] = Unit {0}
AllFit (Gives name value ∷ items) = (fits_scanner (pair_line name value) ≡ true) × AllFit items
AllFit (Asks name ∷ items) = AllFit items

abbrev pub Fit : Option (List Item) → Type 0
Fit None = Unit {0}
Fit (Some items) = AllFit items

then_fit : (parts : Option Pair) (text : List ℕ) (items : Option (List Item)) → FitParts parts → Fit items →
    Fit (then_items parts text items)
then_fit parts text None are fit = tt
then_fit None text (Some items) are fit =
    picked Fit (is_docker_name text) (Some (Asks text ∷ items)) None (λ h. fit) (λ h. tt)
then_fit (Some (name, value)) text (Some items) are fit =
    picked Fit (is_docker_name name) (Some (Gives name value ∷ items)) None (λ h. (are, fit)) (λ h. tt)

line_fit : (line : List ℕ) (items : Option (List Item)) → need line < 65536 → Fit items → Fit (line_items line items)
line_fit [] items h fit = fit
line_fit (c ∷ cs) items h fit =
    picked Fit (c == hash) items (then_items (split_at_equals (c ∷ cs)) (c ∷ cs) items) (λ k. fit)
    (λ k. then_fit (split_at_equals (c ∷ cs)) (c ∷ cs) items (parts_fit (c ∷ cs) h) fit)

pub lines_fit : (lines : List (List ℕ)) → LinesFit lines → Fit (lines_items lines)
lines_fit [] are = tt
lines_fit (line ∷ lines) are =
    line_fit (trimmed (without_return line)) (lines_items lines) (left_need line are.0) (lines_fit lines are.1)
