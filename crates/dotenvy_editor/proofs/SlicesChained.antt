-- Slices of a file: each is a logical line alone, and is closed where others follow it.
use Rattle.std.proofs.Common.{◌≡◌, ◌≢◌, ℕ, true, List, [], ◌∷◌, ◌++◌, map, refl, sym, ◌∙◌, ap, append_assoc}
use Rattle.std.proofs.Common.{◌+◌, length, length-append, drop, inl, inr, arith}
use Rattle.std.proofs.Math.Seq.{drop-append_seam}
use Rattle.std.proofs.lemmas.Grind.{flat_map-append}
use Rattle.dotenvy_format.specs.PhysicalLines.{line_texts, physical_lines}
use Rattle.dotenvy_format.specs.LogicalLine.{Logical, IsOpenEnd}
use Rattle.dotenvy_format.specs.declared.dialect.Dialect.{Dialect}
use Rattle.dotenvy_format.specs.Entries.{AreLogicalLines, Entry, GiveAll, HasEntries}
use Rattle.dotenvy_format.proofs.lines.EntriesOnce.{cut_line_texts, one_list}
use Rattle.dotenvy_format.proofs.lines.NextLine.{ends_line}
use Rattle.dotenvy_editor.specs.Assignments.{AreOthers}
use Rattle.dotenvy_editor.specs.Slices.{Slice, AreSlices, AreWholeLines, IsNextSlice, line_count}
use Rattle.dotenvy_editor.specs.Slices.{slices_bytes}
use Rattle.dotenvy_editor.proofs.SlicesAlone.{alone_of, before_any, open_last, texts_count, texts_join, texts_some}
use Rattle.dotenvy_editor.proofs.SlicesAlone.{whole_ends_line}

-- the slice is a logical line alone
abbrev pub IsAlone : Slice → Type 0
IsAlone slice = IsNextSlice slice.bytes slice.logical []

-- other slices may follow this one
abbrev pub IsClosed : Slice → Type 0
IsClosed slice = (ends_line slice.bytes ≡ true) × ¬ (IsOpenEnd slice.logical)

-- other slices may follow each of these
abbrev pub AllClosed : List Slice → Type 0
AllClosed [] = Unit {0}
AllClosed (slice ∷ slices) = IsClosed slice × AllClosed slices

-- each slice is a logical line alone, and others may follow each but the last
abbrev pub AreChained : List Slice → Type 0
AreChained [] = Unit {0}
AreChained (slice ∷ slices) = IsAlone slice × (slices ≢ [] → IsClosed slice) × AreChained slices

-- what slices are
abbrev pub logicals : List Slice → List Logical
logicals slices = map (λ slice. slice.logical) slices

-- the parts of an empty list are empty
pub nil_left : {A : Type 0} (xs ys : List A) → xs ++ ys ≡ [] → xs ≡ []
nil_left [] ys e = refl
nil_left (x ∷ xs) ys e = cc

pub nil_right : {A : Type 0} (xs ys : List A) → xs ++ ys ≡ [] → ys ≡ []
nil_right [] ys e = e
nil_right (x ∷ xs) ys e = cc

-- what follows the same is the same
pub same_rest : (xs ys zs : List ℕ) → xs ++ ys ≡ xs ++ zs → ys ≡ zs
same_rest [] ys zs e = e
same_rest (x ∷ xs) ys zs e = same_rest xs ys zs (let k : xs ++ ys ≡ xs ++ zs = cc in k)

-- the bytes of joined slices are those of the ones, and then those of the others
pub bytes-append : (xs ys : List Slice) → slices_bytes (xs ++ ys) ≡ slices_bytes xs ++ slices_bytes ys
bytes-append xs ys = flat_map-append (λ slice. slice.bytes) xs ys

-- the counts of whole lines and of those after them add up
pub count_join : (bytes later : List ℕ) → AreWholeLines bytes later →
    line_count (bytes ++ later) ≡ line_count bytes + line_count later
count_join bytes later whole = ap length whole ∙ length-append (physical_lines bytes) (physical_lines later)

-- some slices have bytes
pub bytes_some : (slices : List Slice) → AreChained slices → slices ≢ [] → slices_bytes slices ≢ []
bytes_some [] chain some = absurd (some refl)
bytes_some (slice ∷ slices) chain some =
    let alone = chain.0 in λ e. alone.0 (nil_left slice.bytes (slices_bytes slices) e)

-- bytes with slices are some
pub are_some : (bytes : List ℕ) (slices : List Slice) → AreSlices bytes slices → slices ≢ [] → bytes ≢ []
are_some bytes [] are some = absurd (some refl)
are_some bytes (slice ∷ slices) (later, e, is, are) some =
    λ h. is.0 (nil_left slice.bytes later (sym e ∙ h))

-- the slices of bytes have these bytes, and are chained
pub chain_of : (bytes : List ℕ) (slices : List Slice) → AreSlices bytes slices →
    (bytes ≡ slices_bytes slices) × AreChained slices
chain_of bytes [] are = (are, tt)
chain_of bytes (slice ∷ slices) (later, e, is, are) =
    let rest = chain_of later slices are in (
      e ∙ ap (◌++◌ slice.bytes) rest.0,
      (
        alone_of slice.bytes later slice.logical is,
        λ some.
            let more = are_some later slices are some in (
              whole_ends_line slice.bytes later is.0 more is.1,
              λ is_open. more (open_last slice.bytes later slice.logical is_open is),
            ),
        rest.1,
      ),
    )

-- a slice is the next one before those that may follow it
pub next_slice : (slice : Slice) (others : List Slice) → IsAlone slice → (others ≢ [] → IsClosed slice) →
    IsNextSlice slice.bytes slice.logical (slices_bytes others)
next_slice slice [] alone may = alone
next_slice slice (other ∷ others) alone may =
    let closed = may (λ e. cc) in
    before_any slice.bytes (slices_bytes (other ∷ others)) slice.logical closed.0 closed.1 alone

-- chained slices are the slices of their bytes
pub slices_of : (slices : List Slice) → AreChained slices → AreSlices (slices_bytes slices) slices
slices_of [] chain = refl
slices_of (slice ∷ slices) (alone, may, chain) =
    (slices_bytes slices, refl, next_slice slice slices alone may, slices_of slices chain)

-- bytes that are those of chained slices have these slices
pub slices_are : (bytes : List ℕ) (slices : List Slice) → bytes ≡ slices_bytes slices → AreChained slices →
    AreSlices bytes slices
slices_are bytes slices e chain = rw e (slices_of slices chain)

-- slices join, where the first ones are closed if others follow
pub chain_join : (xs ys : List Slice) → AreChained xs → (ys ≢ [] → AllClosed xs) → AreChained ys → AreChained (xs ++ ys)
chain_join [] ys first all later = later
chain_join (x ∷ xs) ys (alone, closed, first) all later =
    (alone, may xs closed, chain_join xs ys first (λ some. let a = all some in a.1) later)
  where
    may : (zs : List Slice) → (zs ≢ [] → IsClosed x) → zs ++ ys ≢ [] → IsClosed x
    may [] f some = let a = all some in a.0
    may (z ∷ zs) f some = f (λ e. cc)

-- joined slices are chained apart, and the first ones are closed if others follow
pub chain_parts : (xs ys : List Slice) → AreChained (xs ++ ys) →
    AreChained xs × (ys ≢ [] → AllClosed xs) × AreChained ys
chain_parts [] ys chain = (tt, λ some. tt, chain)
chain_parts (x ∷ xs) ys (alone, closed, chain) =
    let rest = chain_parts xs ys chain in (
      (alone, λ some. closed (λ e. some (nil_left xs ys e)), rest.0),
      λ some. (closed (λ e. some (nil_right xs ys e)), rest.1 some),
      rest.2,
    )

-- slices of a front whose last is closed, and slices of what follows it, are the slices of both
pub slices_join : (front later : List ℕ) (xs ys : List Slice) → AreSlices front xs → AllClosed xs → AreSlices later ys →
    AreSlices (front ++ later) (xs ++ ys)
slices_join front later xs ys first closed second =
    let a = chain_of front xs first in
    let b = chain_of later ys second in
    slices_are (front ++ later) (xs ++ ys) (rw (a.0, b.0, bytes-append xs ys))
    (chain_join xs ys a.1 (λ some. closed) b.1)

-- slices cut in two are the slices of a front and of what follows it
pub slices_split : (bytes : List ℕ) (xs ys : List Slice) → AreSlices bytes (xs ++ ys) →
    (later : List ℕ) × (bytes ≡ slices_bytes xs ++ later) × AreSlices later ys
slices_split bytes [] ys are = (bytes, refl, are)
slices_split bytes (x ∷ xs) ys (later, e, is, are) =
    let rest = slices_split later xs ys are in
    (rest.0, e ∙ ap (◌++◌ x.bytes) rest.1 ∙ sym (append_assoc x.bytes (slices_bytes xs) rest.0), rest.2)

-- slices of which some are gone are chained, and where one is left there was one
pub chain_others : (key : List ℕ) (slices others : List Slice) → AreOthers key slices others → AreChained slices →
    AreChained others × (others ≢ [] → slices ≢ [])
chain_others key [] others are chain = (rw are tt, λ some h. some are)
chain_others key (slice ∷ slices) others (inl (assigns, are)) (alone, closed, chain) =
    let rest = chain_others key slices others are chain in (rest.0, λ some h. cc)
chain_others key (slice ∷ slices) others (inr (differs, later, e, are)) (alone, closed, chain) =
    let rest = chain_others key slices later are chain in
    (rw e (alone, λ some. closed (rest.1 some), rest.0), λ some h. cc)

-- one slice may be in the place of another, before others
pub chain_put : (before : List Slice) (old new : Slice) (after others : List Slice) →
    AreChained (before ++ old ∷ after) → IsAlone new → (others ≢ [] → IsClosed new) → AreChained others →
    AreChained (before ++ new ∷ others)
chain_put before old new after others chain alone closed later =
    let parts = chain_parts before (old ∷ after) chain in
    chain_join before (new ∷ others) parts.0 (λ some. parts.1 (λ e. cc)) (alone, closed, later)

-- a slice that stands before these is closed if there are any
pub closed_before : (slice : Slice) (others : List Slice) → AreChained others → ¬ (IsOpenEnd slice.logical) →
    IsNextSlice slice.bytes slice.logical (slices_bytes others) → others ≢ [] → IsClosed slice
closed_before slice others chain closed is some =
    (whole_ends_line slice.bytes (slices_bytes others) is.0 (bytes_some others chain some) is.1, closed)

-- the logical lines of bytes are those of their slices
pub lines_of_slices : (bytes : List ℕ) (slices : List Slice) → AreSlices bytes slices →
    AreLogicalLines (line_texts bytes) (logicals slices)
lines_of_slices bytes [] are = rw are refl
lines_of_slices bytes (slice ∷ slices) (later, e, is, are) =
    let joined = texts_join slice.bytes later is.1 in
    let rest : drop (line_count slice.bytes) (line_texts (slice.bytes ++ later)) ≡ line_texts later =
    rw (joined, ← texts_count slice.bytes) (drop-append_seam (line_texts slice.bytes) (line_texts later)) in
    rw e (
      texts_some (slice.bytes ++ later) (λ h. is.0 (nil_left slice.bytes later h)),
      line_count slice.bytes,
      is.2,
      rw rest (lines_of_slices later slices are),
    )

-- the entries of bytes are those of their slices, joined
pub entries_are : (dialect : Dialect) (bytes : List ℕ) (slices : List Slice) (entries : List Entry) →
    AreSlices bytes slices → GiveAll dialect (logicals slices) entries → HasEntries dialect bytes entries
entries_are dialect bytes slices entries are give =
    record { lines = logicals slices; are_lines = lines_of_slices bytes slices are; give = give }

pub entries_of_slices : (dialect : Dialect) (bytes : List ℕ) (slices : List Slice) (entries : List Entry) →
    AreSlices bytes slices → HasEntries dialect bytes entries → GiveAll dialect (logicals slices) entries
entries_of_slices dialect bytes slices entries are has =
    let same = one_list (line_texts bytes) (logicals slices) has.lines (cut_line_texts bytes)
    (lines_of_slices bytes slices are) has.are_lines in
    rw same has.give

-- the lines of joined slices add up
pub lines_add : (xs ys : List Slice) → AreChained (xs ++ ys) →
    line_count (slices_bytes (xs ++ ys)) ≡ line_count (slices_bytes xs) + line_count (slices_bytes ys)
lines_add [] ys chain = omega arith
lines_add (x ∷ xs) ys (alone, may, chain) =
    let all = next_slice x (xs ++ ys) alone may in
    let front = next_slice x xs alone (λ some. may (λ e. some (nil_left xs ys e))) in
    omega (
      arith,
      lines_add xs ys chain,
      count_join x.bytes (slices_bytes (xs ++ ys)) all.1,
      count_join x.bytes (slices_bytes xs) front.1,
    )
