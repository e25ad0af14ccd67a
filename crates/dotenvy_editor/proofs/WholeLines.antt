-- Whole logical lines that were counted, and the front of the bytes in which they are.
use Rattle.std.proofs.Common.{◌≡◌, ◌≢◌, ℕ, zero, suc, ◌+◌, ◌<◌, ◌≤◌, true, false, List, [], ◌∷◌, ◌++◌, length, take}
use Rattle.std.proofs.Common.{refl, sym, ap, ◌∙◌, arith, inl, inr, Some, None, length-append}
use Rattle.std.specs.Prelude.{◌==◌, slice_index}
use Rattle.std.proofs.lemmas.Bool.{cases_Bool, eqb-true}
use Rattle.memchr.specs.Find.{IsLastByte, is_byte}
use Rattle.dotenvy_format.specs.Characters.{line_feed}
use Rattle.dotenvy_format.specs.Decided.{up_to_last_line_feed}
use Rattle.dotenvy_format.specs.LogicalLine.{Logical, IsOpenEnd}
use Rattle.dotenvy_editor.specs.declared.lines.Kind.{Kind}
use Rattle.dotenvy_editor.specs.declared.lines.Kind.TheVariants.{Text, Open, Broken}
use Rattle.dotenvy_editor.specs.declared.lines.Slice.{Slice as SliceInCode}
use Rattle.dotenvy_editor.specs.Slices.{ComeBefore, NoneIs, Slice, slices_bytes}
use Rattle.dotenvy_editor.specs.TakenSlices.{IsFresh, IsOfKind, LinesState, TakesSlice}
use Rattle.dotenvy_editor.specs.Whole.{IsWholeLen, StaysOpen}
use Rattle.dotenvy_editor.specs.inside.Open.{stays_open}
use Rattle.dotenvy_editor.proofs.NotedLines.{bytes_more, come_more, later_more}

-- The bytes up to the last line feed.
-- where no byte is a line feed, there is no front
up_none : (bytes : List ℕ) → ((k : ℕ) → k < length bytes → slice_index bytes k ≢ line_feed) →
    up_to_last_line_feed bytes ≡ []
up_none [] none = refl
up_none (d ∷ bytes) none = elim (cases_Bool (d == line_feed)) [
  | inl is ↦ absurd (none 0 (omega arith) (eqb-true d line_feed is))
  | inr not ↦ rw (not, up_none bytes (λ k below. none (suc k) (omega (arith, below)))) refl
]

-- the front ends at the last line feed
up_at : (bytes : List ℕ) (place : ℕ) → place < length bytes → slice_index bytes place ≡ line_feed →
    ((k : ℕ) → place < k → k < length bytes → slice_index bytes k ≢ line_feed) →
    up_to_last_line_feed bytes ≡ take (suc place) bytes
up_at [] place within is none = absurd (omega arith)
up_at (d ∷ bytes) zero within is none =
    rw (is, up_none bytes (λ k below. none (suc k) (omega arith) (omega (arith, below)))) refl
up_at (d ∷ []) (suc place) within is none = absurd (omega (arith, within))
up_at (d ∷ c ∷ bytes) (suc place) within is none =
    let later = up_at (c ∷ bytes) place (omega (arith, within)) is
    (λ k after below. none (suc k) (omega (arith, after)) (omega (arith, below))) in
    elim (cases_Bool (d == line_feed)) [ inl feeds ↦ rw (feeds, later) refl | inr other ↦ rw (other, later) refl ]

-- a byte that passes the test for a line feed is one
feed_is : (bytes : List ℕ) (k : ℕ) → is_byte 10 (slice_index bytes k) ≡ true → slice_index bytes k ≡ line_feed
feed_is bytes k is = eqb-true (slice_index bytes k) line_feed is

-- the front, by the place of the last line feed
pub front_at : (bytes : List ℕ) (place : ℕ) → IsLastByte (is_byte 10) bytes (Some place) →
    up_to_last_line_feed bytes ≡ take (suc place) bytes
front_at bytes place (alone, is) =
    up_at bytes place alone.high (feed_is bytes place is)
    (λ k after below feeds. alone.after k (omega (arith, after)) below (rw feeds refl))

-- without a line feed there is no front
pub front_none : (bytes : List ℕ) → IsLastByte (is_byte 10) bytes None → up_to_last_line_feed bytes ≡ []
front_none bytes none = up_none bytes (λ k below feeds. none k (omega arith) below (rw feeds refl))

-- The lines that were counted.
-- whole lines were counted, up to what is left
pub record WholeSoFar (front : List ℕ) (lines : LinesState) (count : ℕ) : Type 0 where
  pub slices : List Slice
  pub cut : front ≡ slices_bytes slices ++ lines.left
  pub come : ComeBefore slices lines.left
  pub closed : NoneIs StaysOpen slices
  pub counts : count ≡ length (slices_bytes slices)

-- a line that stays open, and one that doesn't
is_open : (kind : Kind) (text : List ℕ) (logical : Logical) → IsOfKind kind text logical → stays_open kind ≡ true →
    IsOpenEnd logical
is_open Text text logical is opens = absurd (cc)
is_open Open text logical is opens = rw is tt
is_open Broken text logical is opens = absurd (cc)

is_closed : (kind : Kind) (text : List ℕ) (logical : Logical) → IsOfKind kind text logical →
    stays_open kind ≡ false → ¬ (IsOpenEnd logical)
is_closed Text text logical (inl is) shut = rw is.0 (λ no. no)
is_closed Text text logical (inr is) shut = rw is (λ no. no)
is_closed Open text logical is shut = absurd (cc)
is_closed Broken text logical is shut = rw is (λ no. no)

-- no slice is so, and one more isn't
none_more : (P : Slice → Type 0) (slices : List Slice) (slice : Slice) → NoneIs P slices → ¬ (P slice) →
    NoneIs P (slices ++ slice ∷ [])
none_more P [] slice none not_one = (not_one, tt)
none_more P (first ∷ slices) slice none not_one = (none.0, none_more P slices slice none.1 not_one)

-- no line was counted yet
pub none_counted : {front : List ℕ} {lines : LinesState} → IsFresh lines front → WholeSoFar front lines 0
none_counted fresh = record { slices = []; cut = sym fresh.1; come = tt; closed = tt; counts = refl }

-- one more line was counted
pub one_counted : {front : List ℕ} {old new : LinesState} {slice : SliceInCode} {len : ℕ} →
    WholeSoFar front old len → TakesSlice old slice new → stays_open slice.kind ≡ false →
    WholeSoFar front new (len + length slice.bytes.now)
one_counted {front} {old} {new} {slice} {len} before takes shut =
    let taken : Slice = record { bytes = slice.bytes.now; logical = takes.logical } in record {
      slices = before.slices ++ taken ∷ [];
      cut = before.cut ∙ rw takes.cut (sym (later_more before.slices taken new.left));
      come = come_more before.slices taken new.left (rw takes.cut at before.come) takes.is_next;
      closed =
          none_more StaysOpen before.slices taken before.closed
          (is_closed slice.kind _ takes.logical takes.is_kind shut);
      counts =
          rw (bytes_more before.slices taken, length-append (slices_bytes before.slices) slice.bytes.now, before.counts)
          refl;
    }

-- the next line is within the front
pub fits_more : {front : List ℕ} {old new : LinesState} {slice : SliceInCode} {len : ℕ} →
    WholeSoFar front old len → TakesSlice old slice new → len + length slice.bytes.now ≤ length front
fits_more {front} {old} {new} {slice} {len} before takes =
    let total = ap length before.cut ∙ length-append (slices_bytes before.slices) old.left in
    let next = ap length takes.cut ∙ length-append slice.bytes.now new.left in
    omega (arith, total, next, before.counts)

-- a line that stays open is next
pub ends_open : {bytes : List ℕ} {old new : LinesState} {slice : SliceInCode} {len : ℕ} →
    WholeSoFar (up_to_last_line_feed bytes) old len → TakesSlice old slice new → stays_open slice.kind ≡ true →
    IsWholeLen bytes len
ends_open {old = old} {new = new} {slice = slice} before takes opens = record {
  slices = before.slices;
  left = old.left;
  cut = before.cut;
  come = before.come;
  closed = before.closed;
  ends =
      inr (
        record { bytes = slice.bytes.now; logical = takes.logical },
        new.left,
        takes.cut,
        takes.is_next,
        is_open slice.kind _ takes.logical takes.is_kind opens,
      );
  counts = before.counts;
}

-- nothing is left
pub ends_all : {bytes : List ℕ} {lines : LinesState} {len : ℕ} →
    WholeSoFar (up_to_last_line_feed bytes) lines len → lines.left ≡ [] → IsWholeLen bytes len
ends_all {lines = lines} before none = record {
  slices = before.slices;
  left = lines.left;
  cut = before.cut;
  come = before.come;
  closed = before.closed;
  ends = inl none;
  counts = before.counts;
}
