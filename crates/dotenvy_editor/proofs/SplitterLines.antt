-- The next logical line of a splitter that reads bytes in memory.
use Rattle.std.proofs.Common.{◌≡◌, ◌≢◌, ◌⊎◌, ℕ, ◌+◌, ◌≤◌, ◌<◌, List, [], ◌∷◌, ◌++◌, length, drop, take}
use Rattle.std.proofs.Common.{Option, Some, None, Ok, Err, refl, sym, ap, ◌∙◌, arith, inl, inr, length-append}
use Rattle.std.specs.Prelude.{◌^◌, ◌*◌, ◌-◌, string_bytes}
use Rattle.std.specs.Str.{chars}
use Rattle.std.specs.declared.string.String.{String}
use Rattle.std.proofs.Math.Seq.{drop-append_seam, take-add, take-append_seam}
use Rattle.std.proofs.Common.{length-drop}
use Rattle.std.proofs.lemmas.List.{drop-drop, length-map, take-append-drop}
use Rattle.std.proofs.lemmas.Str.{chars-nil}
use Rattle.dotenvy.specs.Error.{Error}
use Rattle.dotenvy.specs.Error.TheVariants.{LineParse, Io, EnvVar, Nul, Memory}
use Rattle.dotenvy.specs.Errors.{IsMemory}
use Rattle.dotenvy.specs.Source.{Ahead}
use Rattle.dotenvy.specs.Input.{InputState, BoundIsMet, end_reads}
use Rattle.dotenvy.specs.Lines.{LinesState as SplitterLines, WhereOpen, GoesOn}
use Rattle.dotenvy.specs.Stage.{Stage}
use Rattle.dotenvy_lines.specs.declared.lines.Stage.TheVariants.{Open as stage_open, Ended, Failed}
use Rattle.dotenvy.specs.LogicalLine.{Logical, Skip, HasText, StaysOpen, Broken}
use Rattle.dotenvy.specs.PhysicalLines.{physical_lines, line_text, line_texts}
use Rattle.dotenvy_lines.specs.inside.NextLine.{AdvanceIs, CountsLine, TakesNext}
use Rattle.dotenvy_lines.specs.inside.Splitter.{last_lines}
use Rattle.dotenvy_lines.proofs.Inputs.{the_bytes}
use Rattle.dotenvy_editor.specs.declared.lines.Kind.{Kind}
use Rattle.dotenvy_editor.specs.declared.lines.Slice.{Slice}
use Rattle.dotenvy_editor.specs.declared.lines.Kind.TheVariants.{Text, Open}
use Rattle.dotenvy_editor.specs.declared.lines.Kind.TheVariants.{Broken as not_utf8}
use Rattle.dotenvy_editor.specs.Slices.{line_count}
use Rattle.dotenvy_editor.specs.TakenSlices.{IsLineEnd, NothingBehind, ReadsOn, SkipsLines}
use Rattle.dotenvy_editor.specs.TakenSlices.{LinesState, TakesLine, TakesSlice, text_of}
use Rattle.dotenvy_format.proofs.lines.EntriesOnce.{next_positive}
use Rattle.dotenvy_editor.proofs.LineSlices.{Taken, end_then, next_within, taken_slice, whole_before}

-- bytes that no fault follows
abbrev pub ahead : List ℕ → Ahead
ahead left = record { bytes = left; fault = None }

-- a splitter is open or not
pub stage_cases : (stage : Stage) → (stage ≡ stage_open) ⊎ (stage ≢ stage_open)
stage_cases stage_open = inl refl
stage_cases Ended = inr (λ e. cc)
stage_cases Failed = inr (λ e. cc)

-- a splitter that gave something was open
pub was_open : {X P : Type 0} {x : X} (stage : Stage) → (stage ≢ stage_open → (Some x ≡ None) × P) →
    stage ≡ stage_open
was_open stage shut =
    elim (stage_cases stage) [ inl e ↦ e | inr n ↦ absurd (let none = (shut n).0 in cc) ]

-- what is told of an open splitter holds of the bytes that it has left
pub told_of : {P : Ahead → Type 0} {s : SplitterLines} {before left : List ℕ} → ReadsOn s before left →
    s.stage ≡ stage_open → WhereOpen s P → P (ahead left)
told_of {left = left} reads is told = told (ahead left) is ((reads.on is).is_left, λ e. cc)

-- a splitter that isn't open reads on where nothing is left
pub reads_nothing : {s : SplitterLines} {before left : List ℕ} → IsLineEnd before left → left ≡ [] →
    s.stage ≢ stage_open → ReadsOn s before left
reads_nothing is_end none shut =
    record { is_end = is_end; on = λ on. absurd (shut on); shut = λ other. none }

-- where a line was taken, there were bytes
some_bytes : {s t : InputState} {next : Logical} {count : ℕ} {left : List ℕ} → TakesNext (ahead left) s next count t →
    left ≢ []
some_bytes takes none = takes.some (rw none refl)

-- a text or a comment was taken
pub text_taken : {A : Type 0} {s t : SplitterLines} {left line : List ℕ} (unclosed : Option (String A)) →
    s.stage ≡ stage_open → NothingBehind unclosed left → AdvanceIs {A = A} (ahead left) s (Some (Ok tt)) line t →
    TakesLine left s Text unclosed line t
text_taken (Some text) is behind (inl (count, inl (empty, takes), counts, goes_on)) = absurd (some_bytes takes
    (behind refl))
text_taken (Some text) is behind (inl (count, inr takes, counts, goes_on)) = absurd (some_bytes takes (behind refl))
text_taken unclosed is behind (inr fails) = absurd fails
text_taken None is behind (inl (count, inl (empty, takes), counts, goes_on)) = record {
  was_open = is;
  logical = Skip;
  is_kind = inl (refl, rw empty chars-nil);
  count = count;
  takes = takes;
  counts = counts;
  goes_on = goes_on;
  behind = λ none. cc;
}
text_taken {line = line} None is behind (inl (count, inr takes, counts, goes_on)) = record {
  was_open = is;
  logical = HasText (chars line);
  is_kind = inr refl;
  count = count;
  takes = takes;
  counts = counts;
  goes_on = goes_on;
  behind = λ none. cc;
}

-- a line that stays open was taken
pub open_taken : {A : Type 0} {s t : SplitterLines} {left line : List ℕ} (text : String A) (index : ℕ) →
    s.stage ≡ stage_open → AdvanceIs (ahead left) s (Some (Err (LineParse text index))) line t →
    TakesLine left s Open (Some text) line t
open_taken text index is (inr (stage, inl memory)) = absurd memory
open_taken text index is (inr (stage, inr io)) = absurd io
open_taken text index is (inl (count, takes, counts, goes_on)) = record {
  was_open = is;
  logical = StaysOpen (chars (string_bytes text)) index;
  is_kind = ap (λ n. StaysOpen (chars (string_bytes text)) n) takes.is_next.4;
  count = count;
  takes = takes;
  counts = counts;
  goes_on = goes_on;
  behind = λ _. elim takes.stays [ inl at_end ↦ at_end.1 | inr (closed, always) ↦ absurd (closed tt) ];
}

-- the bound on reads is not met where there are reads enough
bound_not_met : {s t : InputState} {left : List ℕ} {P : List ℕ → Type 0} →
    length left < s.reads + s.unread + end_reads s.at_end → ¬ (BoundIsMet (ahead left) s P t)
bound_not_met reads bound =
    let total = ap length bound.cut in
    omega (arith, reads, total, bound.each_gave, length-append bound.front bound.later)

-- a line that is not UTF-8 was taken
pub broken_taken : {A : Type 0} {s t : SplitterLines} {before left line : List ℕ} (unclosed : Option (String A))
    (e : Error A) → ReadsOn s before left → s.stage ≡ stage_open → NothingBehind unclosed left →
    ((text : String A) (index : ℕ) → e ≢ LineParse text index) → ¬ (IsMemory e) →
    AdvanceIs (ahead left) s (Some (Err e)) line t → TakesLine left s not_utf8 unclosed line t
broken_taken unclosed (LineParse text index) reads is behind other refused told = absurd (other text index refl)
broken_taken unclosed (EnvVar e) reads is behind other refused (inl (count, never, counts, goes_on)) = absurd never
broken_taken unclosed (EnvVar e) reads is behind other refused (inr (stage, inl never)) = absurd never
broken_taken unclosed (EnvVar e) reads is behind other refused (inr (stage, inr never)) = absurd never
broken_taken unclosed (Nul key) reads is behind other refused (inl (count, never, counts, goes_on)) = absurd never
broken_taken unclosed (Nul key) reads is behind other refused (inr (stage, inl never)) = absurd never
broken_taken unclosed (Nul key) reads is behind other refused (inr (stage, inr never)) = absurd never
broken_taken unclosed (Memory e) reads is behind other refused told = absurd (refused tt)
broken_taken unclosed (Io fault) reads is behind other refused (inr (stage, inl never)) = absurd never
broken_taken unclosed (Io fault) reads is behind other refused (inr (stage, inr (inl (none, all)))) = absurd (cc)
broken_taken unclosed (Io fault) reads is behind other refused (inr (stage, inr (inr (kind, bound)))) =
    absurd (bound_not_met (reads.on is).reads bound)
broken_taken (Some text) (Io fault) reads is behind other refused (inl (count, (kind, takes), counts, goes_on)) =
    absurd (some_bytes takes (behind refl))
broken_taken None (Io fault) reads is behind other refused (inl (count, (kind, takes), counts, goes_on)) = record {
  was_open = is;
  logical = Broken;
  is_kind = refl;
  count = count;
  takes = takes;
  counts = counts;
  goes_on = goes_on;
  behind = λ none. cc;
}

-- there are no more lines than bytes
pub lines_short : (bytes : List ℕ) → line_count bytes ≤ length bytes
lines_short [] = omega arith
lines_short (c ∷ bytes) = grind (arith, lines_short bytes)

-- the numbers of the lines that were taken
pub record IsNumbered (before left : List ℕ) (count : ℕ) (t : SplitterLines) : Type 0 where
  pub positive : 1 ≤ count
  pub within : line_count before + count < 2 ^ 63
  pub first_is : t.first_line ≡ line_count before + 1
  pub last_is : t.lines_taken ≡ line_count before + count

-- the lines that were taken have numbers of 64 bits
pub line_numbers : {s t : SplitterLines} {before left : List ℕ} {next : Logical} {count : ℕ} → ReadsOn s before left →
    s.stage ≡ stage_open → TakesNext (ahead left) s.input next count t.input → CountsLine s count t →
    length before + length left < 2 ^ 63 → IsNumbered before left count t
line_numbers {s} {t} {before} {left} {next} {count} reads is takes counts small =
    let has = reads.on is in
    let positive = next_positive (line_texts left) count next takes.some takes.is_next in
    let within = next_within (line_texts left) count next takes.some takes.is_next in
    let lines = length-map (physical_lines left) line_text in
    let short = lines_short left in
    let others = lines_short before in
    let taken = has.counts in
    let fits : s.lines_taken + 1 < 2 ^ 64 = omega (arith, taken, others, small) in
    let all_fit : s.lines_taken + count < 2 ^ 64 = omega (arith, taken, within, lines, short, others, small) in
    let first = counts.0 fits in
    let last = counts.1 all_fit in record {
      positive = omega (arith, positive);
      within = omega (arith, within, lines, short, others, small);
      first_is = omega (arith, first, taken);
      last_is = omega (arith, last, taken);
    }

-- where lines end before bytes, they end before a front of them
end_before : {before left slice : List ℕ} (rest : List ℕ) → IsLineEnd before left → left ≡ slice ++ rest → slice ≢ [] →
    IsLineEnd before slice
end_before rest (inl ends) cut some = inl ends
end_before {slice = []} rest (inr none) cut some = absurd (some refl)
end_before {slice = c ∷ slice} rest (inr none) cut some = absurd (cc)

-- whole lines and a slice after them have the lines of both
pub lines_behind : {before left slice : List ℕ} (rest : List ℕ) → IsLineEnd before left → left ≡ slice ++ rest →
    slice ≢ [] →
    line_count (before ++ slice) ≡ line_count before + line_count slice
lines_behind {before} {slice = slice} rest ends cut some =
    ap length (whole_before before slice (end_before rest ends cut some))
    ∙ length-append (physical_lines before) (physical_lines slice)

-- after the slice that was taken the splitter reads on
pub reads_behind : {s t : SplitterLines} {before left slice rest : List ℕ} {next : Logical} {count : ℕ} →
    ReadsOn s before left → s.stage ≡ stage_open → Taken left slice rest s.input next count t.input →
    left ≡ slice ++ rest → GoesOn t → t.lines_taken ≡ line_count before + count → ReadsOn t (before ++ slice) rest
reads_behind {s} {t} {before} {left} {slice} {rest} reads is taken cut goes_on counts = record {
  is_end = end_then before slice rest (rw cut at reads.is_end) taken.is_end;
  on = λ on.
      let has = (reads.on is).reads in
      let fits = taken.reads in
      let lines = lines_behind rest reads.is_end cut taken.is_next.0 in record {
        is_left = taken.is_left;
        reads = omega (arith, has, fits);
        counts = omega (arith, counts, lines, taken.count_is);
      };
  shut = λ shut.
      elim goes_on [
        | inl on ↦ absurd (shut on)
        | inr (ended, none) ↦ the_bytes (ahead rest) (ahead []) (sym taken.is_left ∙ none)
      ];
}

-- a place in bytes after a slice: what comes before it, and what is left
pub place_behind : (bytes slice rest : List ℕ) (place : ℕ) → drop place bytes ≡ slice ++ rest →
    (take (place + length slice) bytes ≡ take place bytes ++ slice) × (drop (place + length slice) bytes ≡ rest)
place_behind bytes slice rest place cut = (
  take-add place (length slice) bytes ∙ ap (λ cs. take place bytes ++ take (length slice) cs) cut
      ∙ ap (λ cs. take place bytes ++ cs) (take-append_seam slice rest),
  sym (drop-drop (length slice) place bytes) ∙ ap (drop (length slice)) cut ∙ drop-append_seam slice rest,
)

-- the numbers of a line that was taken are told
numbers_of : (t : SplitterLines) → GoesOn t → last_lines t ≡ (t.first_line, t.lines_taken)
numbers_of t (inl on) = rw on refl
numbers_of t (inr (ended, none)) = rw ended refl

-- the numbers that are told of a line that was taken
pub record AreNumbers (before : List ℕ) (count : ℕ) (numbers : ℕ × ℕ) (t : SplitterLines) : Type 0 where
  pub ordered : numbers.0 ≤ numbers.1
  pub count_is : numbers.1 - numbers.0 + 1 ≡ count
  pub first_is : numbers.0 ≡ line_count before + 1
  pub last_is : numbers.1 ≡ line_count before + count
  pub taken_is : t.lines_taken ≡ line_count before + count

-- the numbers that are told are those of the line
are_numbers : {A : Type 0} {s t : SplitterLines} {before left line : List ℕ} {kind : Kind}
    {unclosed : Option (String A)} (numbers : ℕ × ℕ) → ReadsOn s before left →
    (k : TakesLine left s kind unclosed line t) → length before + length left < 2 ^ 63 → numbers ≡ last_lines t →
    AreNumbers before k.count numbers t
are_numbers {t = t} numbers reads k small told =
    let n = line_numbers {t = t} reads k.was_open k.takes k.counts small in
    let pair : numbers ≡ (t.first_line, t.lines_taken) = told ∙ numbers_of t k.goes_on in
    let first : numbers.0 ≡ t.first_line = ap (λ (p : ℕ × ℕ). p.0) pair in
    let last : numbers.1 ≡ t.lines_taken = ap (λ (p : ℕ × ℕ). p.1) pair in record {
      ordered = omega (arith, first, last, n.first_is, n.last_is, n.positive);
      count_is = omega (arith, first, last, n.first_is, n.last_is, n.positive);
      first_is = first ∙ n.first_is;
      last_is = last ∙ n.last_is;
      taken_is = n.last_is;
    }

-- the bytes before a place and those from it on are no more than all
place_lengths : (bytes : List ℕ) (place : ℕ) → length bytes * 1 < 2 ^ 63 →
    length (take place bytes) + length (drop place bytes) < 2 ^ 63
place_lengths bytes place small =
    let total = ap length (take-append-drop place bytes) in
    omega (arith, total, small, length-append (take place bytes) (drop place bytes))

-- the numbers of the line that was taken from a place on
pub numbers_at : {A : Type 0} {s t : SplitterLines} {line : List ℕ} {kind : Kind} {unclosed : Option (String A)}
    (bytes : List ℕ) (place : ℕ) (numbers : ℕ × ℕ) → ReadsOn s (take place bytes) (drop place bytes) →
    (k : TakesLine (drop place bytes) s kind unclosed line t) → length bytes * 1 < 2 ^ 63 → numbers ≡ last_lines t →
    AreNumbers (take place bytes) k.count numbers t
numbers_at bytes place numbers reads k small told = are_numbers numbers reads k (place_lengths bytes place small) told

-- the slice from a place on was taken: what is left after it, and what is told of it
pub record IsGiven {A : Type 0} (bytes : List ℕ) (place : ℕ) (t : SplitterLines) (unclosed : Option (String A))
    (old : LinesState) (slice : Slice) (text : List ℕ) : Type 0 where
  pub within : place + length slice.bytes.now ≤ length bytes
  pub reads :
      ReadsOn t (take (place + length slice.bytes.now) bytes) (drop (place + length slice.bytes.now) bytes)
  pub behind : NothingBehind unclosed (drop (place + length slice.bytes.now) bytes)
  pub takes :
      TakesSlice old slice (record {
        before = take (place + length slice.bytes.now) bytes;
        left = drop (place + length slice.bytes.now) bytes;
        text = text;
      })

-- a slice that was cut from a place on, whose line was taken, is given
pub is_given : {A : Type 0} {s t : SplitterLines} {line : List ℕ} {unclosed : Option (String A)} (bytes : List ℕ)
    (place : ℕ) (old : LinesState) (slice : Slice) (rest : List ℕ) → place ≤ length bytes →
    old.before ≡ take place bytes → old.left ≡ drop place bytes → ReadsOn s (take place bytes) (drop place bytes) →
    (k : TakesLine (drop place bytes) s slice.kind unclosed line t) →
    AreNumbers (take place bytes) k.count (slice.first, slice.last) t → drop place bytes ≡ slice.bytes.now ++ rest →
    SkipsLines (drop place bytes) (slice.last - slice.first + 1) rest →
    IsGiven bytes place t unclosed old slice (text_of unclosed line)
is_given {s = s} {t = t} bytes place old slice rest fits before left reads k n cut skips =
    let taken = taken_slice k.takes cut skips n.count_is in
    let behind = place_behind bytes slice.bytes.now rest place cut in
    let total = ap length cut in
    let lines = ap line_count behind.0 ∙ lines_behind rest reads.is_end cut taken.is_next.0 in record {
      within =
          omega (arith, total, fits, length-append slice.bytes.now rest, length-drop place bytes);
      reads = rw (behind.0, behind.1) (reads_behind reads k.was_open taken cut k.goes_on n.taken_is);
      behind = λ some.
          behind.1 ∙ the_bytes (ahead rest) (ahead k.takes.left) (sym taken.is_left ∙ k.takes.moves.is_left)
          ∙ k.behind some;
      takes = record {
        logical = k.logical;
        is_kind = k.is_kind;
        is_next = rw behind.1 taken.is_next;
        cut = left ∙ cut ∙ ap (λ cs. slice.bytes.now ++ cs) (sym behind.1);
        taken = behind.0 ∙ ap (λ cs. cs ++ slice.bytes.now) (sym before);
        first_is = n.first_is ∙ ap (λ cs. line_count cs + 1) (sym before);
        last_is = omega (arith, lines, n.last_is, taken.count_is);
      };
    }
