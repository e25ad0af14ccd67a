-- Where two texts differ, and how that is written for the tool `patch`.
use Rattle.std.specs.Prelude.{ℕ, ◌≡◌, ◌≢◌, ◌+◌, ◌≤◌, ◌==◌, ◌++◌, List, [], ◌∷◌, codes, decimal, length}
use Rattle.std.specs.Prelude.{if◌then◌else◌, map, nat_eq}
use Rattle.std.specs.Borrow.{Bor}
use Rattle.std.specs.List.{ends_with}

-- a text, as bytes, and a line of one with its end
abbrev pub Text : Type 0
Text = List ℕ

-- the texts that the code has
abbrev pub texts : List (Bor Text) → List Text
texts lines = map (λ line. line.now) lines

-- the line feed
abbrev pub feed : ℕ
feed = 10

-- a byte before these lines: a part of the first one, unless it is a line feed
abbrev pub with_byte : ℕ → List Text → List Text
with_byte byte [] = (byte ∷ []) ∷ []
with_byte byte (line ∷ lines) =
    if byte == feed then (byte ∷ []) ∷ line ∷ lines else (byte ∷ line) ∷ lines

-- the lines of a text, each with the line feed that ends it; the last one may have none
abbrev pub lines_of : Text → List Text
lines_of [] = []
lines_of (byte ∷ bytes) = with_byte byte (lines_of bytes)

-- the lines of two texts: those before, of which the last three are shown, those that differ, and those
-- behind, of which the first three are shown
pub record Hunk : Type 0 where
  pub before : List Text
  pub lead : List Text
  pub removed : List Text
  pub added : List Text
  pub trail : List Text
  pub after : List Text

-- the lines of the old text
abbrev pub old_lines : Hunk → List Text
old_lines hunk =
    hunk.before ++ (hunk.lead ++ (hunk.removed ++ (hunk.trail ++ hunk.after)))

-- the lines of the new text
abbrev pub new_lines : Hunk → List Text
new_lines hunk = hunk.before ++ (hunk.lead ++ (hunk.added ++ (hunk.trail ++ hunk.after)))

-- what ends a line that has no line feed
abbrev pub no_feed : Text
no_feed = codes "\n\\ No newline at end of file\n"

-- a line, and behind it, if it has no line feed, a text that says so
abbrev pub ended : Text → Text
ended line = if ends_with nat_eq line (feed ∷ []) then line else line ++ no_feed

-- lines, each behind a sign
abbrev pub marked : ℕ → List Text → Text
marked sign [] = []
marked sign (line ∷ lines) = sign ∷ (ended line ++ marked sign lines)

-- so many lines behind others: the number of the first of them, or of the line before where there is
-- none, and their count, if it is not one
abbrev pub range_text : ℕ → ℕ → Text
range_text before count =
    if count == 0 then decimal before ++ codes ",0"
    else (if count == 1 then decimal (before + 1)
    else decimal (before + 1) ++ (codes "," ++ decimal count))

-- what comes before the lines of a hunk
abbrev pub hunk_head : Hunk → Text
hunk_head hunk =
    codes "@@ -"
    ++ (range_text (length hunk.before)
    (length hunk.lead + (length hunk.removed + length hunk.trail))
    ++ (codes " +"
    ++ (range_text (length hunk.before)
    (length hunk.lead + (length hunk.added + length hunk.trail))
    ++ codes " @@\n")))

-- a hunk, as it is written
abbrev pub hunk_text : Hunk → Text
hunk_text hunk =
    hunk_head hunk
    ++ (marked 32 hunk.lead
    ++ (marked 45 hunk.removed ++ (marked 43 hunk.added ++ marked 32 hunk.trail)))

-- the line with the name of a text, behind a sign
abbrev pub name_line : Text → Text → Text
name_line sign name = sign ++ (name ++ codes "\n")

-- up to three lines are shown around those that differ, and as many where there are more
abbrev pub IsContext : List Text → List Text → Type 0
IsContext shown others = (length shown ≤ 3) × (others ≢ [] → length shown ≡ 3)

-- this is where two texts with these lines differ
pub record IsHunkOf (old new : List Text) (hunk : Hunk) : Type 0 where
  pub is_old : old_lines hunk ≡ old
  pub is_new : new_lines hunk ≡ new
  pub lead : IsContext hunk.lead hunk.before
  pub trail : IsContext hunk.trail hunk.after

-- a hunk for these lines is written behind a text
abbrev pub PushesHunk : List Text → List Text → Text → Text → Type 0
PushesHunk old new before after =
    (hunk : Hunk) × IsHunkOf old new hunk × (after ≡ before ++ hunk_text hunk)

-- the text says where two others differ, so that `patch` makes the new one of the old one: their
-- names, and a hunk
abbrev pub IsDiff : Text → Text → Text → Text → Text → Type 0
IsDiff old_name new_name old new text =
    (hunk : Hunk) × IsHunkOf (lines_of old) (lines_of new) hunk
    × (text
    ≡ name_line (codes "--- ") old_name
    ++ (name_line (codes "+++ ") new_name ++ hunk_text hunk))
