-- Open ends: in which mode their texts leave a walk, and whether a line feed would end them.
use Rattle.std.proofs.Common.{◌≡◌, ◌≢◌, ℕ, true, false, inl, inr, List, [], ◌∷◌, ◌++◌, map, Some, None}
use Rattle.std.proofs.Common.{refl, sym, ap, ◌∙◌, subst}
use Rattle.std.specs.Prelude.{◌==◌}
use Rattle.std.proofs.lemmas.Bool.{cases_Bool}
use Rattle.dotenvy_format.specs.Characters.{byte_len, line_feed}
use Rattle.dotenvy_format.specs.LogicalLine.{Logical, StaysOpen, without_carriage_return}
use Rattle.dotenvy_format.specs.PhysicalLines.{line_text, line_texts, physical_lines}
use Rattle.dotenvy_format.proofs.lines.Cuts.{lines_some}
use Rattle.dotenvy_format.specs.declared.walk.LineMode.{LineMode}
use Rattle.dotenvy_format.specs.declared.walk.LineMode.TheVariants.{Outside, Escaping, Inside}
use Rattle.dotenvy_format.specs.declared.walk.LineMode.TheVariants.{InsideEscaping, AfterBlank}
use Rattle.dotenvy_format.specs.inside.Walk.{ended, going, walk}
use Rattle.dotenvy_format.proofs.lines.EntriesOnce.{cut_line_texts}
use Rattle.dotenvy_format.proofs.lines.NextLine.{Lines, after_walk, mode_ends, next_from}
use Rattle.dotenvy_format.proofs.lines.SplitLines.{next_once, next_shown, skipped_or_not}
use Rattle.dotenvy_format.proofs.lines.Splitting.{IsGoing, going_more, going_start, walk-is, whole_walks}
use Rattle.dotenvy_editor.specs.Refusals.{EndsAtFeed}
use Rattle.dotenvy_editor.specs.Slices.{IsNextSlice, line_count}
use Rattle.dotenvy_editor.specs.inside.Noted.{GoesOn, IsRead, is_inside}
use Rattle.dotenvy_editor.specs.declared.lines.Kind.TheVariants.{Open}
use Rattle.dotenvy_editor.specs.declared.lines.Slice.{Slice as SliceInCode}

-- where the loop over lines leaves a text open, a walk over it goes on
open_from : (m : LineMode) (seen : List ℕ) (lines : Lines) (text : List ℕ) (index : ℕ) → IsGoing seen m →
    (next_from m seen lines).1 ≡ StaysOpen text index → GoesOn text
open_from m seen [] text index goes is = elim (mode_ends m seen) [
  | inl (outside, whole) ↦ let k = sym whole ∙ is in cc
  | inr (inside, opens) ↦
      let k : StaysOpen seen _ ≡ StaysOpen text index = sym opens ∙ is in
      let e : seen ≡ text = cc in (m, rw e at goes, inside)
]
open_from m seen (None ∷ lines) text index goes is = cc
open_from m seen (Some line ∷ lines) text index goes is =
    (elim (walk m seen line) as (λ w.
    walk m seen line ≡ w →
    (after_walk w (λ n. next_from n (seen ++ line) lines)).1 ≡ StaysOpen text index → GoesOn text) [
      | going n ↦
          λ e opens. open_from n (seen ++ line) lines text index (going_more seen m line goes ∙ e) opens
      | ended kept ↦ λ e opens. cc
    ]) refl is

-- two texts, of which the first isn't empty, aren't empty
front_some : (bytes later : List ℕ) → bytes ≢ [] → bytes ++ later ≢ []
front_some [] later some e = some refl
front_some (c ∷ bytes) later some e = cc

-- bytes that are some have lines
lines_of_some : (bytes : List ℕ) → bytes ≢ [] → line_texts bytes ≢ []
lines_of_some [] some e = some refl
lines_of_some (c ∷ bytes) some e = lines_some c bytes (map_nil (physical_lines (c ∷ bytes)) e)
  where
    map_nil : (lines : List (List ℕ)) → map line_text lines ≡ [] → lines ≡ []
    map_nil [] e = refl
    map_nil (l ∷ lines) e = cc

-- a text that stays open leaves a walk in a mode
pub stays_going : (bytes text later : List ℕ) (index : ℕ) → IsNextSlice bytes (StaysOpen text index) later → GoesOn text
stays_going bytes text later index (some, whole, is) =
    let lines = line_texts (bytes ++ later) in
    let more : lines ≢ [] = lines_of_some (bytes ++ later) (front_some bytes later some) in
    let once = next_once lines (line_count bytes) (StaysOpen text index) more (cut_line_texts (bytes ++ later)) is in
    elim (skipped_or_not lines) [
      | inl skipped ↦ absurd (is.0 skipped.0)
      | inr shown ↦
          open_from Outside [] lines text index going_start
          (ap (λ p. p.1) (sym (next_shown lines shown.1) ∙ once))
    ]

-- Whether a line feed would end the line.
-- a walk over a text and a line feed goes on where the mode is in quotes
feed_goes : (m : LineMode) (text : List ℕ) → is_inside m ≡ true →
    (n : LineMode) × (walk m text (line_feed ∷ []) ≡ going n)
feed_goes Outside text inside = cc
feed_goes Escaping text inside = cc
feed_goes AfterBlank text inside = cc
feed_goes (Inside quote) text inside = elim (cases_Bool (line_feed == quote)) [
  | inl is ↦ (Outside, rw is refl)
  | inr not ↦ (Inside quote, rw not refl)
]
feed_goes (InsideEscaping quote) text inside = (Inside quote, refl)

-- in quotes a line feed ends no line
pub inside_open : (m : LineMode) (text : List ℕ) → IsGoing text m → is_inside m ≡ true → ¬ (EndsAtFeed text)
inside_open m text goes inside (kept, whole) =
    let (n, on) = feed_goes m text inside in
    let walks : walk Outside [] (text ++ line_feed ∷ []) ≡ going n =
    going_more text m (line_feed ∷ []) goes ∙ on in
    elim (whole_walks whole) [
      | inl ends ↦ cc
      | inr (outside, same, never) ↦ never
    ]

-- after a backslash or a blank a line feed ends the line
pub alone_ends : (m : LineMode) (text : List ℕ) → IsGoing text m → m ≢ Outside → is_inside m ≡ false →
    EndsAtFeed text
alone_ends Outside text goes out inside = absurd (out refl)
alone_ends Escaping text goes out inside =
    (without_carriage_return text, walk-is ⊥ Escaping text (line_feed ∷ []) goes tt)
alone_ends AfterBlank text goes out inside =
    (without_carriage_return text, walk-is ⊥ AfterBlank text (line_feed ∷ []) goes tt)
alone_ends (Inside quote) text goes out inside = cc
alone_ends (InsideEscaping quote) text goes out inside = cc

-- a walk leads to one mode
pub same_mode : (m n : LineMode) (text : List ℕ) → IsGoing text m → IsGoing text n → m ≡ n
same_mode m n text goes also = let k : going m ≡ going n = sym goes ∙ also in cc

-- a slice that was read as an open end has a text that goes on
pub read_open : (code : SliceInCode) (text : List ℕ) → code.kind ≡ Open → IsRead code text → GoesOn text
read_open code text kind (slice, later, (bytes, of_kind), next) =
    let is : slice.logical ≡ StaysOpen text (byte_len text) = rw kind at of_kind in
    let P : Logical → Type 0 = λ logical. IsNextSlice slice.bytes logical later in
    stays_going slice.bytes text later (byte_len text) (subst P is next)
