-- Slices that are read one after another, and what is noted of them.
use Rattle.std.proofs.Common.{◌≡◌, ◌≢◌, ℕ, inl, inr, true, List, [], ◌∷◌, ◌++◌}
use Rattle.std.proofs.Common.{Option, Some, None, refl, sym, ap, ◌∙◌, subst, append_assoc, append-nil}
use Rattle.std.proofs.lemmas.Grind.{flat_map-append}
use Rattle.dotenvy_format.proofs.lines.NextLine.{ends_line, ends_join}
use Rattle.dotenvy_editor.specs.declared.change.Change.{Change}
use Rattle.dotenvy_editor.specs.declared.notes.Notes.{Notes}
use Rattle.dotenvy_editor.specs.Assignments.{IsUnreadable}
use Rattle.dotenvy_editor.specs.Slices.{AreSlices, ComeBefore, IsNextSlice, NoneIs, Slice}
use Rattle.dotenvy_editor.specs.Slices.{line_after, slices_bytes}
use Rattle.dotenvy_editor.specs.inside.Changing.{key_of}
use Rattle.dotenvy_editor.specs.inside.Noted.{AreNoted, GivesNew, IsFirstOf, IsLast, NotesIf}
use Rattle.dotenvy_editor.specs.inside.Noted.{NotesLine}
use Rattle.dotenvy_editor.proofs.SlicesAlone.{whole_ends_line}

-- the bytes of slices, and of others after them
pub slices_bytes-append : (slices others : List Slice) →
    slices_bytes (slices ++ others) ≡ slices_bytes slices ++ slices_bytes others
slices_bytes-append slices others = flat_map-append (λ slice. slice.bytes) slices others

-- the bytes of slices, and of one after them
pub bytes_more : (slices : List Slice) (slice : Slice) →
    slices_bytes (slices ++ slice ∷ []) ≡ slices_bytes slices ++ slice.bytes
bytes_more slices slice =
    slices_bytes-append slices (slice ∷ []) ∙ ap (◌++◌ (slices_bytes slices)) (append-nil slice.bytes)

-- the bytes of slices and of one after them, before later ones
pub later_more : (slices : List Slice) (slice : Slice) (later : List ℕ) →
    slices_bytes (slices ++ slice ∷ []) ++ later ≡ slices_bytes slices ++ (slice.bytes ++ later)
later_more slices slice later =
    ap (λ bytes. bytes ++ later) (bytes_more slices slice)
    ∙ append_assoc (slices_bytes slices) slice.bytes later

-- one more slice comes after others
pub come_more : (slices : List Slice) (slice : Slice) (later : List ℕ) → ComeBefore slices (slice.bytes ++ later) →
    IsNextSlice slice.bytes slice.logical later → ComeBefore (slices ++ slice ∷ []) later
come_more [] slice later come next = (next, tt)
come_more (first ∷ slices) slice later come next =
    let P : List ℕ → Type 0 = λ bytes. IsNextSlice first.bytes first.logical bytes in
    (subst P (sym (later_more slices slice later)) come.0, come_more slices slice later come.1 next)

-- slices that come before nothing are all slices of their bytes
pub are_all : (slices : List Slice) → ComeBefore slices [] → AreSlices (slices_bytes slices) slices
are_all [] come = refl
are_all (slice ∷ slices) come =
    let P : List ℕ → Type 0 = λ bytes. IsNextSlice slice.bytes slice.logical bytes in
    (slices_bytes slices, refl, subst P (append-nil (slices_bytes slices)) come.0, are_all slices come.1)

-- each slice ends with a line feed
abbrev pub AllEnd : List Slice → Type 0
AllEnd [] = Unit {0}
AllEnd (slice ∷ slices) = (ends_line slice.bytes ≡ true) × AllEnd slices

-- two texts, of which the second isn't empty, aren't empty
pub some_behind : (bytes later : List ℕ) → later ≢ [] → bytes ++ later ≢ []
some_behind [] later some e = some e
some_behind (c ∷ bytes) later some e = cc

-- slices that come before others end with a line feed
pub all_end : (slices : List Slice) (later : List ℕ) → later ≢ [] → ComeBefore slices later → AllEnd slices
all_end [] later some come = tt
all_end (slice ∷ slices) later some come =
    let next = come.0 in (
      whole_ends_line slice.bytes (slices_bytes slices ++ later) next.0
          (some_behind (slices_bytes slices) later some) next.1,
      all_end slices later some come.1,
    )

-- so do their bytes together, if there are any
pub bytes_end : (slices : List Slice) → AllEnd slices → slices_bytes slices ≢ [] →
    ends_line (slices_bytes slices) ≡ true
bytes_end [] all some = absurd (some refl)
bytes_end (slice ∷ slices) all some =
    (elim (slices_bytes slices) as (λ bytes.
    slices_bytes slices ≡ bytes → ends_line (slice.bytes ++ bytes) ≡ true) [
      | [] ↦ λ e. ap ends_line (append-nil slice.bytes) ∙ all.0
      | c ∷ bytes ↦
          λ e.
          ends_join slice.bytes (c ∷ bytes)
          (ap ends_line (sym e) ∙ bytes_end slices all.1 (λ none. let k = sym e ∙ none in cc))
    ]) refl

-- P holds of none of slices and one more
pub none_more : (P : Slice → Type 0) (slices : List Slice) (slice : Slice) → NoneIs P slices → ¬ (P slice) →
    NoneIs P (slices ++ slice ∷ [])
none_more P [] slice none not = (not, tt)
none_more P (first ∷ slices) slice none not = (none.0, none_more P slices slice none.1 not)

-- P holds of one of these slices
pub some_is : (P : Slice → Type 0) (before : List Slice) (slice : Slice) (after : List Slice) → P slice →
    ¬ (NoneIs P (before ++ slice ∷ after))
some_is P [] slice after is none = none.0 is
some_is P (first ∷ before) slice after is none = some_is P before slice after is none.1

-- slices between others, with one more at the end
split_more : {slices : List Slice} (before : List Slice) (one : Slice) (after : List Slice) (slice : Slice) →
    slices ≡ before ++ one ∷ after → slices ++ slice ∷ [] ≡ before ++ one ∷ (after ++ slice ∷ [])
split_more before one after slice are = rw are (append_assoc before (one ∷ after) (slice ∷ []))

-- one more line is noted where it is the first of which P holds
pub first_more : (P : Slice → Type 0) (slices : List Slice) (slice : Slice) (line : ℕ) (old new : Option ℕ) →
    line ≡ line_after slices → IsFirstOf P slices old → NotesIf (P slice) line old new →
    IsFirstOf P (slices ++ slice ∷ []) new
first_more P slices slice line None new place none (inl (is, noted)) =
    rw noted (slices, slice, [], refl, none, is, place)
first_more P slices slice line None new place none (inr (not, noted)) = rw noted (none_more P slices slice none not)
first_more P slices slice line (Some first) new place (before, one, after, are, none, is, at_line) (inl (also, noted)) =
    rw noted (before, one, after ++ slice ∷ [], split_more before one after slice are, none, is, at_line)
first_more P slices slice line (Some first) new place (before, one, after, are, none, is, at_line) (inr (not, noted)) =
    rw noted (before, one, after ++ slice ∷ [], split_more before one after slice are, none, is, at_line)

-- one more line is noted
pub noted_more : {of : Change} {slices : List Slice} {slice : Slice} {line : ℕ} {old new : Notes} →
    line ≡ line_after slices → AreNoted of slices old → NotesLine of slice line old new →
    AreNoted of (slices ++ slice ∷ []) new
noted_more {of = of} {slices} {slice} {line} {old} {new} place noted more = record {
  unreadable = first_more (IsUnreadable (key_of of)) slices slice line old.unreadable new.unreadable place
      noted.unreadable more.unreadable;
  present = first_more (GivesNew of) slices slice line old.present new.present place noted.present more.present;
  last =
      let P : ℕ → Type 0 = λ number. IsLast slice number new.last in
      inr (slices, slice, refl, subst P place more.last);
}
