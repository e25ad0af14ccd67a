-- Physical lines: the bytes of a file, cut after each line feed. Characters are cut in the same way.
use Rattle.std.specs.Prelude.{ℕ, Bool, true, false, not, ◌&&◌, IsTrue, List, [], ◌∷◌, map, Option}
use Rattle.std.specs.Prelude.{Some, None, ◌==◌, if◌then◌else◌}
use Rattle.std.specs.List.{list_all}
use Rattle.std.specs.Str.{is_utf8, chars}
use Rattle.dotenvy_format.specs.Characters.{line_feed}

-- the lines with c added at the start of the first one
abbrev pub onto_first : ℕ → List (List ℕ) → List (List ℕ)
onto_first c [] = (c ∷ []) ∷ []
onto_first c (line ∷ lines) = (c ∷ line) ∷ lines

-- the bytes, or characters, cut after each line feed
abbrev pub physical_lines : List ℕ → List (List ℕ)
physical_lines [] = []
physical_lines (c ∷ cs) =
    if c == line_feed then (c ∷ []) ∷ physical_lines cs else onto_first c (physical_lines cs)

-- the text of a line's bytes, or `None` for a broken line, whose bytes are not UTF-8
abbrev pub line_text : List ℕ → Option (List ℕ)
line_text line = if is_utf8 line then Some (chars line) else None

-- the texts of the physical lines of these bytes, with `None` for each broken line
abbrev pub line_texts : List ℕ → List (Option (List ℕ))
line_texts bytes = map line_text (physical_lines bytes)

-- there is no line feed among these bytes or characters
abbrev pub no_line_feed : List ℕ → Bool
no_line_feed cs = list_all (λ c. not (c == line_feed)) cs

-- the text is one line, with its line feed at the end
abbrev pub is_whole_line : List ℕ → Bool
is_whole_line [] = false
is_whole_line (c ∷ []) = c == line_feed
is_whole_line (c ∷ d ∷ cs) = not (c == line_feed) && is_whole_line (d ∷ cs)

-- the text is one line, with or without a line feed at the end
abbrev pub is_last_line : List ℕ → Bool
is_last_line [] = false
is_last_line (c ∷ []) = true
is_last_line (c ∷ d ∷ cs) = not (c == line_feed) && is_last_line (d ∷ cs)

-- these can be the lines of a file: each text ends with its line feed, but the last may lack it; any line may be broken
abbrev pub AreCut : List (Option (List ℕ)) → Type 0
AreCut [] = Unit {0}
AreCut (None ∷ lines) = AreCut lines
AreCut (Some text ∷ []) = IsTrue (is_last_line text)
AreCut (Some text ∷ next ∷ lines) = IsTrue (is_whole_line text) × AreCut (next ∷ lines)
