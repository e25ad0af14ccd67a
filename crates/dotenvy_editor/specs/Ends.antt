-- The ends of lines where something is appended.
use Rattle.std.specs.Prelude.{ℕ, ◌≡◌, ◌⊎◌, not, Bool, false, ◌||◌, ◌==◌, List, [], ◌∷◌}
use Rattle.std.specs.Prelude.{IsTrue, if◌then◌else◌}
use Rattle.dotenvy.specs.Characters.{line_feed, carriage_return}
use Rattle.dotenvy.specs.LogicalLine.{Logical, Skip, HasText, StaysOpen, Broken}
use Rattle.dotenvy.specs.Outcome.{trimmed, is_nothing}
use Rattle.dotenvy.specs.Statement.{IsStatement}

-- a line feed
abbrev pub feed : List ℕ
feed = line_feed ∷ []

-- a carriage return and a line feed
abbrev pub return_feed : List ℕ
return_feed = carriage_return ∷ line_feed ∷ []

-- the end of a line in a file
abbrev pub IsEnd : List ℕ → Type 0
IsEnd end = (end ≡ feed) ⊎ (end ≡ return_feed)

-- the end of the last line that has one, where `end` is that of the lines before and `c` is the byte before these
abbrev pub last_end_from : List ℕ → ℕ → List ℕ → List ℕ
last_end_from end c [] = end
last_end_from end c (d ∷ bytes) =
    last_end_from
    (if d == line_feed then if c == carriage_return then return_feed else feed else end) d bytes

-- the end of the last line that has one; a line feed where there is none
abbrev pub last_end : List ℕ → List ℕ
last_end bytes = last_end_from feed 0 bytes

-- the last byte is this one
abbrev pub ends_in : ℕ → List ℕ → Bool
ends_in c [] = false
ends_in c (d ∷ []) = d == c
ends_in c (d ∷ e ∷ bytes) = ends_in c (e ∷ bytes)

-- the line is a fault that quotes a carriage return at its end: no statement, so that its whole text is quoted
abbrev pub QuotesReturn : Logical → Type 0
QuotesReturn Skip = ⊥
QuotesReturn (HasText text) =
    IsTrue (not (is_nothing (trimmed text)))
    × ((key rest : List ℕ) → ¬ (IsStatement (trimmed text) key rest))
    × IsTrue (ends_in carriage_return text)
QuotesReturn (StaysOpen text index) = ⊥
QuotesReturn Broken = ⊥

-- what is put between bytes without their mark, of which this is the last logical line, and what is appended
abbrev pub IsGap : List ℕ → Logical → List ℕ → Type 0
IsGap bytes last gap =
    (IsTrue (ends_in line_feed bytes) × (gap ≡ []))
    ⊎ (IsTrue (ends_in carriage_return bytes)
    × ((QuotesReturn last × (gap ≡ return_feed)) ⊎ (¬ (QuotesReturn last) × (gap ≡ feed))))
    ⊎ (IsTrue (not (ends_in line_feed bytes || ends_in carriage_return bytes))
    × (gap ≡ last_end bytes))
