-- How the splitter walks over characters. Contracts of private functions cite it; proofs/lines/Splitting reads tokens.
use Rattle.std.specs.Prelude.{ℕ, ◌≡◌, ◌≤◌, ◌==◌, true, List, [], ◌∷◌, ◌++◌, length, take}
use Rattle.std.specs.Prelude.{Option, Some, None, if◌then◌else◌}
use Rattle.dotenvy_format.specs.declared.walk.LineMode.{LineMode}
use Rattle.dotenvy_format.specs.declared.walk.LineMode.TheVariants.{Outside, Escaping, Inside}
use Rattle.dotenvy_format.specs.declared.walk.LineMode.TheVariants.{InsideEscaping, AfterBlank}
use Rattle.std.specs.Str.{chars, IsCharBoundary, IsUtf8}
use Rattle.dotenvy_format.specs.declared.walk.Walked.{Walked}
use Rattle.dotenvy_format.specs.declared.walk.Walked.TheVariants.{Going, EndedAt}
use Rattle.dotenvy_format.specs.Characters.{is_blank, is_quote, line_feed, backslash, hash, begins_with}
use Rattle.dotenvy_format.specs.Tokens.{stands_for_itself}
use Rattle.dotenvy_format.specs.LogicalLine.{without_carriage_return}
use Rattle.dotenvy_format.specs.inside.Slices.{BeginsLine, is_ascii_in_line}

-- the mode that a character leads to after a whole token, or `None` if it ends the logical line
abbrev pub leads_outside : ℕ → Option LineMode
leads_outside c =
    if c == line_feed then None else
    if c == backslash then Some Escaping else
    if is_quote c then Some (Inside c) else
    if is_blank c then Some AfterBlank else Some Outside

-- the mode that a character leads to, or `None` if it ends the logical line
abbrev pub leads : LineMode → ℕ → Option LineMode
leads Outside c = leads_outside c
leads Escaping c = if c == line_feed then None else Some Outside
leads (Inside quote) c =
    if c == quote then Some Outside else
    (if c == backslash then Some (InsideEscaping quote) else Some (Inside quote))
leads (InsideEscaping quote) c = Some (Inside quote)
leads AfterBlank c =
    if c == hash then None else (if stands_for_itself c then leads_outside c else Some Outside)

-- the text that is kept, of what is before the character that ends the line
abbrev pub kept_before : ℕ → List ℕ → List ℕ
kept_before c seen = if c == line_feed then without_carriage_return seen else seen

-- the result of a walk: the mode at the end of the text, or that the line ended, with the text that is kept
pub data Walk : Type 0 where
  going : LineMode → Walk
  ended : List ℕ → Walk

-- one step of a walk: it goes on from the mode that the character leads to, or the line ended
abbrev pub walked : Option LineMode → ℕ → List ℕ → (LineMode → Walk) → Walk
walked None c seen next = ended (kept_before c seen)
walked (Some m) c seen next = next m

-- the walk over a text that comes after the text `seen`
abbrev pub walk : LineMode → List ℕ → List ℕ → Walk
walk m seen [] = going m
walk m seen (c ∷ cs) = walked (leads m c) c seen (λ n. walk n (seen ++ c ∷ []) cs)

-- the result of the code is that of the walk over the text's characters
abbrev pub WalksText : LineMode → List ℕ → Walked → Type 0
WalksText m text (Going n) = (seen : List ℕ) → walk m seen (chars text) ≡ going n
WalksText m text (EndedAt at c) =
    (at ≤ length text) × IsCharBoundary text at
    × ((seen : List ℕ) →
    walk m seen (chars text) ≡ ended (kept_before c (seen ++ chars (take at text))))

-- the bytes begin with this line and its line feed; the line is ASCII, and begins with `#`
abbrev pub BeginsComment : List ℕ → List ℕ → Type 0
BeginsComment bytes line =
    (begins_with hash line ≡ true) × BeginsLine is_ascii_in_line bytes line

-- the text is some characters that lead from the first mode to the second, and the rest
pub record WalksTo (start : LineMode) (text : List ℕ) (m : LineMode) (rest : List ℕ) : Type 0 where
  pub front : List ℕ
  pub splits : text ≡ front ++ rest
  pub front_text : IsUtf8 front
  pub rest_text : IsUtf8 rest
  pub walks : (seen : List ℕ) → walk start seen (chars front) ≡ going m
