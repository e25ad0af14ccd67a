-- What the first bytes of a file decide, whatever follows: all logical lines up to the last line feed, but no open one.
use Rattle.std.specs.Prelude.{ℕ, ◌==◌, List, [], ◌∷◌, if◌then◌else◌}
use Rattle.dotenvy_format.specs.declared.dialect.Dialect.{Dialect}
use Rattle.dotenvy_format.specs.Characters.{line_feed}
use Rattle.dotenvy_format.specs.LogicalLine.{Logical, Skip, HasText, StaysOpen, Broken}
use Rattle.dotenvy_format.specs.PhysicalLines.{line_texts}
use Rattle.dotenvy_format.specs.Entries.{Entry, AreLogicalLines, GiveAll}

-- the text with c added at its start, or the empty text if it is empty
abbrev pub before_some : ℕ → List ℕ → List ℕ
before_some c [] = []
before_some c (d ∷ cs) = c ∷ d ∷ cs

-- the bytes up to their last line feed, which is included
abbrev pub up_to_last_line_feed : List ℕ → List ℕ
up_to_last_line_feed [] = []
up_to_last_line_feed (c ∷ cs) =
    if c == line_feed then c ∷ up_to_last_line_feed cs else before_some c (up_to_last_line_feed cs)

-- the logical lines before an open end
abbrev pub without_open_end : List Logical → List Logical
without_open_end [] = []
without_open_end (StaysOpen text index ∷ lines) = []
without_open_end (Skip ∷ lines) = Skip ∷ without_open_end lines
without_open_end (HasText text ∷ lines) = HasText text ∷ without_open_end lines
without_open_end (Broken ∷ lines) = Broken ∷ without_open_end lines

-- the bytes decide these entries, whatever follows them
pub record HasDecided (dialect : Dialect) (bytes : List ℕ) (entries : List Entry) : Type 0 where
  pub lines : List Logical
  pub are_lines : AreLogicalLines (line_texts (up_to_last_line_feed bytes)) lines
  pub give : GiveAll dialect (without_open_end lines) entries
