-- How many of the first bytes of a file are whole statements, whatever follows them.
use Rattle.std.specs.Prelude.{ℕ, ◌≡◌, ◌⊎◌, List, [], ◌++◌, length}
use Rattle.dotenvy.specs.LogicalLine.{IsOpenEnd}
use Rattle.dotenvy.specs.Decided.{up_to_last_line_feed}
use Rattle.dotenvy_editor.specs.Slices.{Slice, ComeBefore, IsNextSlice, NoneIs, slices_bytes}

-- the slice stays open
abbrev pub StaysOpen : Slice → Type 0
StaysOpen slice = IsOpenEnd slice.logical

-- nothing is left, or a line that stays open is next
abbrev pub EndsOpen : List ℕ → Type 0
EndsOpen left =
    (left ≡ [])
    ⊎ ((slice : Slice) × (later : List ℕ) × (left ≡ slice.bytes ++ later)
    × IsNextSlice slice.bytes slice.logical later × StaysOpen slice)

-- so many bytes are the logical lines up to the last line feed, one after another, but for one that
-- stays open and what comes after it
pub record IsWholeLen (bytes : List ℕ) (count : ℕ) : Type 0 where
  pub slices : List Slice
  pub left : List ℕ
  pub cut : up_to_last_line_feed bytes ≡ slices_bytes slices ++ left
  pub come : ComeBefore slices left
  pub closed : NoneIs StaysOpen slices
  pub ends : EndsOpen left
  pub counts : count ≡ length (slices_bytes slices)
