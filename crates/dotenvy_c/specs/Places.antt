-- The bytes of a file on which items stand.
use Rattle.std.specs.Prelude.{ℕ, ◌≡◌, ◌-◌, List, drop, length, take}
use Rattle.std.specs.List.{concat}
use Rattle.dotenvy.specs.PhysicalLines.{physical_lines}

-- how many bytes the first so many physical lines of a file are
abbrev pub lines_len : ℕ → List ℕ → ℕ
lines_len count file = length (concat (take count (physical_lines file)))

-- where the physical lines with these numbers begin in a file; they count from 1, and 0 is none
abbrev pub lines_at : List ℕ → ℕ × ℕ → ℕ
lines_at file lines = lines_len (lines.0 - 1) file

-- how many bytes these lines are
abbrev pub lines_bytes : List ℕ → ℕ × ℕ → ℕ
lines_bytes file lines = lines_len lines.1 file - lines_at file lines

-- the bytes of these lines begin here, and are so many
abbrev pub StandsOn : List ℕ → ℕ × ℕ → ℕ × ℕ → Type 0
StandsOn file lines place = (place.0 ≡ lines_at file lines) × (place.1 ≡ lines_bytes file lines)

-- the rest has the lines of the bytes after the first so many
abbrev pub HasLinesAfter : List ℕ → ℕ → List ℕ → Type 0
HasLinesAfter bytes count rest = physical_lines rest ≡ drop count (physical_lines bytes)
