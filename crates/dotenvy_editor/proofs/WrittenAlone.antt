-- A line that is read back alone.
use Rattle.std.proofs.Common.{◌≡◌, ◌↔◌, ◌∙◌, ℕ, true, false, inl, inr, List, [], ◌∷◌, ◌++◌, refl}
use Rattle.std.proofs.Common.{sym, ap, arith, length, length-append}
use Rattle.std.specs.Str.{chars}
use Rattle.std.proofs.lemmas.List.{append-nil, nil_from_length}
use Rattle.dotenvy.specs.Characters.{byte_len}
use Rattle.dotenvy.specs.Dialect.{Dialect}
use Rattle.dotenvy.specs.LogicalLine.{Logical, HasText, Skip, StaysOpen, Broken}
use Rattle.dotenvy.specs.PhysicalLines.{physical_lines, line_texts}
use Rattle.dotenvy_format.proofs.lines.Cuts.{lines_some}
use Rattle.dotenvy_format.proofs.lines.EntriesOnce.{cut_line_texts}
use Rattle.dotenvy_format.proofs.lines.NextLine.{one_next}
use Rattle.dotenvy_editor.specs.declared.lines.Kind.{Kind}
use Rattle.dotenvy_editor.specs.declared.lines.Kind.TheVariants.{Text, Open}
use Rattle.dotenvy_editor.specs.declared.lines.Kind.TheVariants.{Broken as not_utf8}
use Rattle.dotenvy_editor.specs.declared.lines.Slice.{Slice}
use Rattle.dotenvy_editor.specs.declared.writing.Setting.{Setting}
use Rattle.dotenvy_editor.specs.Lines.{IsWritten}
use Rattle.dotenvy_editor.specs.TakenSlices.{IsFresh, IsOfKind, LinesState, TakesSlice}
use Rattle.dotenvy_editor.specs.inside.Tried.{IsSaidBy}
use Rattle.dotenvy_editor.specs.Slices.{IsNextSlice, line_count}
use Rattle.dotenvy_editor.proofs.SlicesAlone.{texts_some}

-- without a physical line there are no bytes
lines_nil : (bytes : List ℕ) → length (physical_lines bytes) ≡ 0 → bytes ≡ []
lines_nil [] h = refl
lines_nil (c ∷ cs) h = absurd (lines_some c cs (nil_from_length (physical_lines (c ∷ cs)) h))

-- bytes whose next logical line takes all of them have no other next logical line
pub record IsAll (left : List ℕ) (first whole : Logical) : Type 0 where
  pub no_more : left ≡ []
  pub same : first ≡ whole

pub all_of : (bytes left : List ℕ) (first whole : Logical) → IsNextSlice bytes first left →
    IsNextSlice (bytes ++ left) whole [] → IsAll left first whole
all_of bytes left first whole next all =
    let y = rw (append-nil (bytes ++ left)) at all.2 in
    let one = one_next (line_texts (bytes ++ left)) (line_count bytes) (line_count (bytes ++ left)) first whole
    (texts_some (bytes ++ left) all.0) (cut_line_texts (bytes ++ left)) next.2 y in
    let none : length (physical_lines left) ≡ 0 =
    omega (arith, one.0, ap length next.1, length-append (physical_lines bytes) (physical_lines left)) in
    record { no_more = lines_nil left none; same = one.1 }

-- a logical line with a text is of one kind, and has this text
text_kind : (kind : Kind) (text kept : List ℕ) (logical : Logical) → IsOfKind kind text logical →
    logical ≡ HasText kept → (kind ≡ Text) × (text ≡ kept)
text_kind Text text kept logical (inl (skip, none)) e = let f : Skip ≡ HasText kept = sym skip ∙ e in absurd (cc)
text_kind Text text kept logical (inr is) e =
    let f : HasText text ≡ HasText kept = sym is ∙ e in let g : text ≡ kept = cc in (refl, g)
text_kind Open text kept logical is e =
    let f : StaysOpen text (byte_len text) ≡ HasText kept = sym is ∙ e in absurd (cc)
text_kind not_utf8 text kept logical is e = let f : Broken ≡ HasText kept = sym is ∙ e in absurd (cc)

-- what is taken of bytes that are written is all of them, and the text of one line
pub record IsAlone (bytes : List ℕ) (slice : Slice) (new : LinesState) (text : List ℕ) : Type 0 where
  pub is_text : slice.kind ≡ Text
  pub size : length slice.bytes.now ≡ length bytes
  pub text_is : chars new.text ≡ text

alone_next : {bytes : List ℕ} {slice : Slice} {old new : LinesState} → IsFresh old bytes → TakesSlice old slice new →
    (text : List ℕ) → IsNextSlice bytes (HasText text) [] → IsAlone bytes slice new text
alone_next {bytes} {slice} {old} {new} fresh takes text next =
    let cut : bytes ≡ slice.bytes.now ++ new.left = sym fresh.1 ∙ takes.cut in
    let all = all_of slice.bytes.now new.left takes.logical (HasText text) takes.is_next (rw cut at next) in
    let kind = text_kind slice.kind (chars new.text) text takes.logical takes.is_kind all.same in
    let whole : slice.bytes.now ≡ bytes =
    sym (cut ∙ ap (λ more. slice.bytes.now ++ more) all.no_more ∙ append-nil slice.bytes.now) in
    record { is_text = kind.0; size = ap length whole; text_is = kind.1 }

pub alone_of : {dialect : Dialect} {key value bytes : List ℕ} {slice : Slice} {old new : LinesState} →
    IsFresh old bytes → TakesSlice old slice new → (w : IsWritten dialect key value bytes []) →
    IsAlone bytes slice new w.text
alone_of fresh takes w = alone_next fresh takes w.text w.next

-- bytes of which another slice is taken aren't written
pub not_alone : {dialect : Dialect} {key value bytes : List ℕ} {slice : Slice} {old new : LinesState} →
    IsFresh old bytes → TakesSlice old slice new → ¬ ((slice.kind ≡ Text) × (length slice.bytes.now ≡ length bytes)) →
    ¬ (IsWritten dialect key value bytes [])
not_alone fresh takes other w = let is = alone_of fresh takes w in other (is.is_text, is.size)

-- nothing is written where there are no bytes
pub not_empty : {dialect : Dialect} {key value bytes : List ℕ} → bytes ≡ [] → ¬ (IsWritten dialect key value bytes [])
not_empty none w = w.next.0 none

-- a text that says something is that of a logical line, and no comment
text_says : {logical : Logical} (setting : Setting) (text : List ℕ) → IsOfKind Text text logical →
    IsSaidBy setting text → logical ≡ HasText text
text_says setting text (inl (skip, none)) (pieces, says, means) =
    let f : false ≡ true = rw none at says.0 in absurd (cc)
text_says setting text (inr is) said = is

-- the next logical line is all bytes, where it takes as many and is a text
alone_is : (front left bytes text : List ℕ) (logical : Logical) → IsNextSlice front logical left → front ≡ bytes →
    left ≡ [] → logical ≡ HasText text → IsNextSlice bytes (HasText text) []
alone_is front left bytes text logical next whole none is = rw (whole, none, is) at next

-- bytes that are one text are written if the text says it
pub alone_written : {bytes : List ℕ} {slice : Slice} {old new : LinesState} (setting : Setting) →
    IsFresh old bytes → TakesSlice old slice new → slice.kind ≡ Text → length slice.bytes.now ≡ length bytes →
    IsSaidBy setting (chars new.text)
    ↔ IsWritten setting.how.dialect (chars setting.key.now) (chars setting.value.now) bytes []
alone_written {bytes} {slice} {old} {new} setting fresh takes is_text size = (
  λ said.
      let cut : bytes ≡ slice.bytes.now ++ new.left = sym fresh.1 ∙ takes.cut in
      let none : new.left ≡ [] =
      nil_from_length new.left (omega (arith, size, ap length cut, length-append slice.bytes.now new.left)) in
      let whole : slice.bytes.now ≡ bytes =
      sym (cut ∙ ap (λ more. slice.bytes.now ++ more) none ∙ append-nil slice.bytes.now) in
      let logical = text_says setting (chars new.text) (rw is_text at takes.is_kind) said in
      record {
        text = chars new.text;
        pieces = said.0;
        next =
            alone_is slice.bytes.now new.left bytes (chars new.text) takes.logical takes.is_next whole none logical;
        says = said.1;
        means = said.2;
      },
  λ w. let is = alone_of fresh takes w in (w.pieces, rw is.text_is w.says, w.means),
)
