-- The logical lines of a file's bytes, each with the number of the physical line on which it begins.
use Rattle.std.specs.Prelude.{ℕ, ◌≡◌, ◌≢◌, ◌+◌, List, [], ◌∷◌, map, drop, Option}
use Rattle.std.specs.List.{flat_map}
use Rattle.dotenvy_format.specs.declared.dialect.Dialect.{Dialect}
use Rattle.dotenvy_format.specs.PhysicalLines.{line_texts}
use Rattle.dotenvy_format.specs.LogicalLine.{Logical, IsNext, IsOpenEnd}
use Rattle.dotenvy_format.specs.Entries.{Entry, Gives}
use Rattle.dotenvy_format.specs.Decided.{HasDecided, up_to_last_line_feed}

-- a logical line of a file: the number of its first physical line, how many physical lines it has,
-- what it is, and its entries
pub record FileLine : Type 0 where
  pub number : ℕ
  pub count : ℕ
  pub logical : Logical
  pub entries : List Entry

-- what these lines are
abbrev pub logicals_of : List FileLine → List Logical
logicals_of lines = map (λ line. line.logical) lines

-- the entries of these lines
abbrev pub entries_of : List FileLine → List Entry
entries_of lines = flat_map (λ line. line.entries) lines

-- the first `count` of these physical lines, numbered from here on, are these lines
abbrev pub AreNumbered : Dialect → ℕ → List (Option (List ℕ)) → ℕ → List FileLine → Type 0
AreNumbered dialect number physical count [] = count ≡ 0
AreNumbered dialect number physical count (line ∷ lines) =
    (physical ≢ [])
    × (later : ℕ) × (line.number ≡ number) × IsNext physical line.count line.logical
    × Gives dialect line.logical line.entries
    × AreNumbered dialect (number + line.count) (drop line.count physical) later lines
    × (count ≡ line.count + later)

-- the bytes have these lines, where their first physical line has this number
pub record HasNumbered (dialect : Dialect) (number : ℕ) (bytes : List ℕ) (lines : List FileLine)
    : Type 0 where
  pub count : ℕ
  pub are : AreNumbered dialect number (line_texts bytes) count lines
  pub all : drop count (line_texts bytes) ≡ []

-- these physical lines begin with no logical line, except one that stays open
abbrev pub NoneComplete : List (Option (List ℕ)) → Type 0
NoneComplete physical =
    (count : ℕ) (next : Logical) → physical ≢ [] → IsNext physical count next → IsOpenEnd next

-- whatever follows the bytes, their complete lines are these, whose entries are all that the bytes
-- decide
pub record DecidesNumbered (dialect : Dialect) (number : ℕ) (bytes : List ℕ)
    (lines : List FileLine) : Type 0 where
  pub count : ℕ
  pub are : AreNumbered dialect number (line_texts (up_to_last_line_feed bytes)) count lines
  pub rest : NoneComplete (drop count (line_texts (up_to_last_line_feed bytes)))
  pub decided : HasDecided dialect bytes (entries_of lines)
