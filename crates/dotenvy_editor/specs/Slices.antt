-- Slices: a file cut into its logical lines, each with its bytes.
use Rattle.std.specs.Prelude.{ℕ, ◌≡◌, ◌≢◌, ◌+◌, List, [], ◌∷◌, ◌++◌, length}
use Rattle.std.specs.List.{flat_map}
use Rattle.dotenvy.specs.LogicalLine.{Logical, HasText, IsNext}
use Rattle.dotenvy.specs.PhysicalLines.{physical_lines, line_texts}

-- a slice: the bytes of one logical line, and what that line is
pub record Slice : Type 0 where
  pub bytes : List ℕ
  pub logical : Logical

-- the bytes of slices, one after another
abbrev pub slices_bytes : List Slice → List ℕ
slices_bytes slices = flat_map (λ slice. slice.bytes) slices

-- how many physical lines these bytes are
abbrev pub line_count : List ℕ → ℕ
line_count bytes = length (physical_lines bytes)

-- these first bytes are whole physical lines, and others follow
abbrev pub AreWholeLines : List ℕ → List ℕ → Type 0
AreWholeLines bytes later =
    physical_lines (bytes ++ later) ≡ physical_lines bytes ++ physical_lines later

-- these first bytes are all physical lines of the next logical line, which is this one
abbrev pub IsNextSlice : List ℕ → Logical → List ℕ → Type 0
IsNextSlice bytes logical later =
    (bytes ≢ []) × AreWholeLines bytes later
    × IsNext (line_texts (bytes ++ later)) (line_count bytes) logical

-- the bytes are a logical line with this text, in a file in which more may follow
abbrev pub HasLine : List ℕ → List ℕ → Type 0
HasLine bytes text = (later : List ℕ) × IsNextSlice bytes (HasText text) later

-- the bytes, cut into all their logical lines, are these slices
abbrev pub AreSlices : List ℕ → List Slice → Type 0
AreSlices bytes [] = bytes ≡ []
AreSlices bytes (slice ∷ slices) =
    (later : List ℕ) × (bytes ≡ slice.bytes ++ later)
    × IsNextSlice slice.bytes slice.logical later × AreSlices later slices

-- these slices come one after another, before the later bytes
abbrev pub ComeBefore : List Slice → List ℕ → Type 0
ComeBefore [] later = Unit {0}
ComeBefore (slice ∷ slices) later =
    IsNextSlice slice.bytes slice.logical (slices_bytes slices ++ later) × ComeBefore slices later

-- P holds of none of these slices
abbrev pub NoneIs : (Slice → Type 0) → List Slice → Type 0
NoneIs P [] = Unit {0}
NoneIs P (slice ∷ slices) = ¬ (P slice) × NoneIs P slices

-- the number, counted from 1, of the physical line at which a slice begins after these
abbrev pub line_after : List Slice → ℕ
line_after before = line_count (slices_bytes before) + 1

-- the number of the last physical line of a slice that comes after these
abbrev pub last_line_after : List Slice → Slice → ℕ
last_line_after before slice = line_count (slices_bytes before ++ slice.bytes)
