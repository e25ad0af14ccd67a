-- The splitter's loop over physical lines: what it keeps, and a theorem for each way out of it.
use Rattle.std.proofs.Common.{◌≡◌, ◌≢◌, ℕ, suc, Bool, true, false, not, List, [], ◌∷◌, ◌++◌, ◌+◌}
use Rattle.std.proofs.Common.{map, length, drop, refl, sym, ◌∙◌, ap, append_assoc, arith, length-append}
use Rattle.std.proofs.Common.{Some, None, Option, inl, inr, ◌⊎◌}
use Rattle.std.specs.Prelude.{◌==◌, ◌^◌, ◌-◌, min, IsUtf8, encode_utf8_all, Result, Ok, Err}
use Rattle.std.specs.List.{concat}
use Rattle.std.specs.Str.{chars, is_utf8}
use Rattle.std.specs.declared.io.ErrorKind.{ErrorKind}
use Rattle.std.specs.declared.io.ErrorKind.TheVariants.{Other}
use Rattle.std.proofs.Math.Seq.{drop-append_seam}
use Rattle.std.proofs.lemmas.Bool.{false≢true, true≢false, not-true, false_from_ne_true}
use Rattle.std.proofs.lemmas.List.{append-nil, length-map, map-append, nil_from_length}
use Rattle.std.proofs.lemmas.Option.{none-some}
use Rattle.std.proofs.lemmas.Str.{chars-nil, encodes-chars, is_utf8-from_IsUtf8, IsUtf8-from_is_utf8}
use Rattle.dotenvy_base.specs.declared.errors.Error.{Error}
use Rattle.dotenvy_base.specs.declared.errors.Error.TheVariants.{LineParse, Io, Memory}
use Rattle.dotenvy_format.specs.declared.walk.LineMode.{LineMode}
use Rattle.dotenvy_format.specs.declared.walk.LineMode.TheVariants.{Outside}
use Rattle.dotenvy_lines.specs.declared.lines.Joined.{Joined}
use Rattle.dotenvy_lines.specs.declared.lines.Joined.TheVariants.{Nothing, Skipped, Whole, OpenEnd, BrokenLine}
use Rattle.dotenvy_format.specs.Characters.{line_feed, byte_len}
use Rattle.dotenvy_format.specs.PhysicalLines.{no_line_feed, physical_lines, line_text}
use Rattle.dotenvy_format.specs.PhysicalLines.{is_whole_line, is_last_line, AreCut}
use Rattle.dotenvy_format.specs.Decided.{up_to_last_line_feed}
use Rattle.dotenvy_format.specs.LogicalLine.{Logical, Skip, HasText, StaysOpen, Broken, IsNext, IsSkipped}
use Rattle.dotenvy_format.specs.LogicalLine.{IsOpenEnd, IsOneLine}
use Rattle.dotenvy_base.specs.Source.{Ahead}
use Rattle.dotenvy_lines.specs.Input.{InputState, IsTold, ReadsFit, IsFinal, Moves, end_reads}
use Rattle.dotenvy_lines.specs.inside.InputSteps.{TakesLine}
use Rattle.dotenvy_lines.specs.Lines.{LinesState, whole_before, whole_lines, IsAtEnd, Counts, GoesOn}
use Rattle.dotenvy_lines.specs.inside.NextLine.{lines_so_far, IsNextAlways, TakesNext, IsUndecided, AdvanceIs}
use Rattle.dotenvy_lines.specs.inside.JoinedLines.{JoinsNext}
use Rattle.dotenvy_lines.specs.inside.JoinedLines.{is_refused, stage_if, stage_after, IsOutcome}
use Rattle.dotenvy_lines.specs.declared.physical_line.Taken.{Taken}
use Rattle.dotenvy_lines.specs.declared.physical_line.Taken.TheVariants.{Going as taken_going}
use Rattle.dotenvy_lines.specs.declared.physical_line.Taken.TheVariants.{Ended as taken_ended}
use Rattle.dotenvy_lines.specs.declared.physical_line.Taken.TheVariants.{Comment as taken_comment}
use Rattle.dotenvy_lines.specs.declared.physical_line.Taken.TheVariants.{Broken as taken_broken}
use Rattle.dotenvy_lines.specs.inside.TakenLine.{LineMakes, TakesTextLine, IsShown}
use Rattle.dotenvy_format.proofs.Basics.{and_left, and_right}
use Rattle.dotenvy_format.proofs.lines.Cuts.{concat-lines}
use Rattle.dotenvy_format.proofs.lines.NextLine.{whole_line, last_line, ends_line, whole_ends, ends_join, one_next}
use Rattle.dotenvy_format.proofs.lines.EntriesOnce.{cut_line_texts, one_last}
use Rattle.dotenvy_format.proofs.lines.NextLine.{Lines, line_goes_on, at_input_end}
use Rattle.dotenvy_format.proofs.lines.Splitting.{IsGoing, going_start, walk-is}
use Rattle.dotenvy_format.proofs.lines.SplitLines.{line_is_one, at_end, next-skip}
use Rattle.dotenvy_format.proofs.lines.SplitLines.{next-text, next-open, next-broken, concat_more, lines_more}
use Rattle.dotenvy_lines.proofs.NumberedLines.{counts_one, counts_none}
use Rattle.dotenvy_lines.proofs.Inputs.{ahead_of, moves_none, moves_both, moves_still, final_before}
use Rattle.dotenvy_lines.proofs.LineEntries.{no_lines}

-- up to their last line feed, a line with its line feed and more bytes are that line and what those have
up_to_whole : (line left : List ℕ) → is_whole_line line ≡ true →
    up_to_last_line_feed (line ++ left) ≡ line ++ up_to_last_line_feed left
up_to_whole [] left h = absurd (false≢true h)
up_to_whole (c ∷ []) left h = rw h
up_to_whole (c ∷ d ∷ line) left h =
    let first = not-true (c == line_feed) (and_left (not (c == line_feed)) (is_whole_line (d ∷ line)) h) in
    rw (first, up_to_whole (d ∷ line) left (and_right (not (c == line_feed)) (is_whole_line (d ∷ line)) h))

-- bytes without a line feed have nothing up to their last one
up_to_none : (bytes : List ℕ) → no_line_feed bytes ≡ true → up_to_last_line_feed bytes ≡ []
up_to_none [] h = refl
up_to_none (c ∷ bytes) h =
    let first = not-true (c == line_feed) (and_left (not (c == line_feed)) (no_line_feed bytes) h) in
    rw (first, up_to_none bytes (and_right (not (c == line_feed)) (no_line_feed bytes) h))

-- a line with its line feed is the first of the whole lines, whether or not a fault follows
whole_first : (fault : Option ErrorKind) (line left : List ℕ) → is_whole_line line ≡ true →
    whole_lines (ahead_of (line ++ left) fault) ≡ line_text line ∷ whole_lines (ahead_of left fault)
whole_first None line left w = rw (whole_line line left w)
whole_first (Some kind) line left w = rw (up_to_whole line left w, whole_line line (up_to_last_line_feed left) w)

-- some bytes without a line feed are one line, which lacks it
last_of : (line : List ℕ) → line ≢ [] → no_line_feed line ≡ true → is_last_line line ≡ true
last_of [] some h = absurd (some refl)
last_of (c ∷ line) some h = one_last c line h

-- a line of some bytes that was taken is the first physical line, and its text the first of the whole lines
line_first : {b : Ahead} {t v : InputState} {line : List ℕ} → line ≢ [] → (l : TakesLine b t line v) →
    (physical_lines b.bytes ≡ line ∷ physical_lines l.left)
    × (whole_lines b ≡ line_text line ∷ whole_lines (ahead_of l.left b.fault))
line_first {b = b} {line = line} some l =
    rw l.moves.joins (elim l.is_line [
      | inl w ↦ (whole_line line l.left w, whole_first b.fault line l.left w)
      | inr end ↦
          let one = last_line line (last_of line some end.0) in rw (end.1, end.2, append-nil line) (one, rw one)
    ])

-- where two lists joined are empty, both are
both_nil : {A : Type 0} (xs ys : List A) → xs ++ ys ≡ [] → (xs ≡ []) × (ys ≡ [])
both_nil [] ys h = (refl, h)
both_nil (x ∷ xs) ys h = cc

-- to drop as many as there are, and one more, is to drop one after as many
drop_more : {A B : Type 0} (ys : List B) (y : B) (xs : List A) →
    drop (length (ys ++ y ∷ [])) xs ≡ drop 1 (drop (length ys) xs)
drop_more [] y xs = refl
drop_more (z ∷ ys) y [] = refl
drop_more (z ∷ ys) y (x ∷ xs) = drop_more ys y xs

-- lines with these texts were taken and counted, the first of what was told; unless the end of input was read, they are
-- the whole lines of what was used, whatever follows that
pub record Took (a : Ahead) (s : InputState) (before : ℕ) (texts : Lines) (t : InputState) (now : ℕ) : Type 0 where
  pub used : List ℕ
  pub left : List ℕ
  pub moves : Moves a s used left t
  pub rest : physical_lines left ≡ drop (length texts) (physical_lines a.bytes)
  pub lines : whole_lines a ≡ texts ++ whole_lines (ahead_of left a.fault)
  pub ends : IsAtEnd a.fault left t ⊎ ((more : List ℕ) → lines_so_far (used ++ more) ≡ texts ++ lines_so_far more)
  pub counts : Counts before (length texts) now

-- a wait for more bytes, of which none was used: what was left is left still
pub record Waits (b : Ahead) (t v : InputState) : Type 0 where
  pub left : v.left ≡ Some b
  pub fits : ReadsFit b t b v

-- one more line of some bytes, taken after a wait, is taken and counted behind those before it
took_more : {a : Ahead} {s t v u : InputState} {before now after : ℕ} {texts : Lines} {line : List ℕ}
    (k : Took a s before texts t now) → Waits (ahead_of k.left a.fault) t v → line ≢ [] →
    TakesLine (ahead_of k.left a.fault) v line u → after ≡ min (now + 1) (2 ^ 64 - 1) →
    Took a s before (texts ++ line_text line ∷ []) u after
took_more {a} {s} {t} {v} {u} {before} {now} {after} {texts} {line} k waits some l one =
    let e = line_first some l in
    let x = line_text line in record {
      used = k.used ++ line;
      left = l.left;
      moves = moves_both (moves_still v k.moves waits.left waits.fits) l.moves;
      rest = rw (drop_more texts x (physical_lines a.bytes), ← k.rest, e.0);
      lines = rw (append_assoc texts (x ∷ []) (whole_lines (ahead_of l.left a.fault)), ← e.1) k.lines;
      ends = elim l.is_line [
        | inl w ↦ elim k.ends [
          | inl end ↦ absurd (some (both_nil line l.left (sym l.moves.joins ∙ end.1)).0)
          | inr always ↦ inr (λ more.
              rw (
                append_assoc k.used line more,
                always (line ++ more),
                whole_first (Some Other) line more w,
                append_assoc texts (x ∷ []) (lines_so_far more),
              ))
        ]
        | inr end ↦ inl (end.2, end.1, end.3)
      ];
      counts =
          counts_one before (length texts) now after (length (texts ++ x ∷ [])) k.counts one
          (omega (arith, length-append texts (x ∷ [])));
    }

-- the next logical line was taken, and its physical lines were counted
abbrev pub TakesCounted : Ahead → InputState → ℕ → Logical → InputState → ℕ → Type 0
TakesCounted a s before next t now = (count : ℕ) × TakesNext a s next count t × Counts before count now

-- lines that were taken, and that are the next logical line, are taken as that
taken_next : {a : Ahead} {s t v : InputState} {before now : ℕ} {texts : Lines} {next : Logical}
    (k : Took a s before texts t now) → Moves a s k.used k.left v → texts ≢ [] →
    IsNext (whole_lines a) (length texts) next → (IsOpenEnd next → a.fault ≡ None) →
    IsAtEnd a.fault k.left v ⊎ ((IsOpenEnd next → ⊥) × IsNextAlways k.used (length texts) next) →
    TakesCounted a s before next v now
taken_next {a} {texts = texts} k moves some is_next open_at_end stays = (
  length texts,
  record {
    some = λ h. some (both_nil texts (whole_lines (ahead_of k.left a.fault)) (sym k.lines ∙ h)).0;
    is_next = is_next;
    open_at_end = open_at_end;
    used = k.used;
    left = k.left;
    moves = moves;
    rest = k.rest;
    later = rw (k.lines, drop-append_seam texts (whole_lines (ahead_of k.left a.fault)));
    stays = stays;
  },
  k.counts,
)

-- lines that were taken, and that are a logical line that is closed whatever lines follow, are taken as the next one
closed_next : {a : Ahead} {s t : InputState} {before now : ℕ} {texts : Lines} {next : Logical}
    (k : Took a s before texts t now) → texts ≢ [] → (IsOpenEnd next → ⊥) →
    ((more : Lines) → AreCut (texts ++ more) → IsNext (texts ++ more) (length texts) next) →
    TakesCounted a s before next t now
closed_next {a} {texts = texts} k some closed is_next =
    let left = whole_lines (ahead_of k.left a.fault) in
    taken_next k k.moves some
    (rw k.lines (is_next left (rw k.lines at (cut_line_texts (whole_before a.fault a.bytes)))))
    (λ h. absurd (closed h))
    (elim k.ends [
      | inl end ↦ inl end
      | inr always ↦ inr (
        closed,
        λ more.
            let cut = cut_line_texts (up_to_last_line_feed (k.used ++ more)) in
            rw (always more) (
              λ h. some (both_nil texts (lines_so_far more) h).0,
              is_next (lines_so_far more) (rw (always more) at cut),
              drop-append_seam texts (lines_so_far more),
            ),
      )
    ])

-- texts were taken that go on, and are counted
pub record Joining (a : Ahead) (s : InputState) (before : ℕ) (seen : List ℕ) (m : LineMode) (t : InputState) (now : ℕ)
    : Type 0 where
  pub taken : List (List ℕ)
  pub took : Took a s before (map Some taken) t now
  pub told : IsTold t.left (ahead_of took.left a.fault)
  pub joined : seen ≡ concat taken
  pub first : seen ≡ [] → taken ≡ []
  pub is_going : IsGoing seen m
  pub shown : (more : Lines) → IsSkipped (map Some taken ++ more) → taken ≡ []

-- where nothing is in the line buffer, no text was taken and none is counted, and the walk is outside
pub joining_empty : {a : Ahead} {s : InputState} {text : List ℕ} {before : ℕ} → text ≡ [] → IsTold s.left a →
    Joining a s before (chars text) Outside s before
joining_empty {a} {s} {before = before} empty told =
    rw (empty, chars-nil) (record {
      taken = [];
      took = record {
        used = [];
        left = a.bytes;
        moves = moves_none a s told.0;
        rest = refl;
        lines = refl;
        ends = inr (λ more. refl);
        counts = counts_none before;
      };
      told = told;
      joined = refl;
      first = λ e. refl;
      is_going = going_start;
      shown = λ more h. refl;
    })

-- what is left behind the texts that were taken
abbrev pub rest_of : {a : Ahead} {s t : InputState} {before now : ℕ} {seen : List ℕ} {m : LineMode} →
    Joining a s before seen m t now → Ahead
rest_of {a} j = ahead_of j.took.left a.fault

-- the text of a line in UTF-8 is its characters
text_is : (line : List ℕ) → IsUtf8 line → line_text line ≡ Some (chars line)
text_is line u = rw (is_utf8-from_IsUtf8 line u)

-- a line that isn't UTF-8 has no text
no_text : (line : List ℕ) → ¬ (IsUtf8 line) → line_text line ≡ None
no_text line h = rw (false_from_ne_true (is_utf8 line) (λ e. h (IsUtf8-from_is_utf8 line e)))

-- one more line in UTF-8 was taken behind texts that go on, of which the first is no comment
record TextJoined (a : Ahead) (s : InputState) (before : ℕ) (seen line : List ℕ) (all : List (List ℕ))
    (t : InputState) (now : ℕ) : Type 0 where
  took : Took a s before (map Some all) t now
  some : map Some all ≢ []
  joined : seen ++ chars line ≡ concat all
  shown : (more : Lines) → ¬ (IsSkipped (map Some all ++ more))
  one : IsOneLine (chars line)

-- a line in UTF-8, no comment where it is the first, is one more of the texts taken
text_joined : {a : Ahead} {s t v u : InputState} {before now after : ℕ} {seen line : List ℕ} {m : LineMode}
    (j : Joining a s before seen m t now) → Waits (rest_of j) t v → TakesTextLine (rest_of j) v line u →
    IsShown seen line → after ≡ min (now + 1) (2 ^ 64 - 1) →
    TextJoined a s before seen line (j.taken ++ chars line ∷ []) u after
text_joined {a} {seen = seen} {line = line} j waits k shown one =
    let text = text_is line k.text in
    let cs = chars line in
    let b = rest_of j in record {
      took = rw (map-append Some j.taken (cs ∷ []), ← text) (took_more j.took waits k.some k.takes one);
      some = λ h. let e = (both_nil (map Some j.taken) (Some cs ∷ []) (rw map-append at h)).1 in cc;
      joined = rw (j.joined, concat_more j.taken cs);
      shown =
          λ more h.
          let first = rw (← lines_more j.taken cs more) at h in
          let none = j.shown (Some cs ∷ more) first in
          true≢false (sym (rw none at first) ∙ shown (j.joined ∙ ap concat none));
      one =
          line_is_one [] cs (whole_lines (ahead_of k.takes.left a.fault))
          (rw ((line_first k.some k.takes).1, text) at (cut_line_texts (whole_before b.fault b.bytes)));
    }

-- a text in UTF-8 that isn't empty has characters
pub begun_chars : (text : List ℕ) → IsUtf8 text → text ≢ [] → chars text ≢ []
begun_chars text u some h = some (sym (encodes-chars text u) ∙ ap encode_utf8_all h)

-- what a physical line that was taken makes: texts that go on, or the next logical line; and it is counted
abbrev pub JoinedBy : Ahead → InputState → ℕ → Taken → List ℕ → InputState → ℕ → Type 0
JoinedBy a s before (taken_going m) now t after = Joining a s before now m t after
JoinedBy a s before taken_ended now t after = TakesCounted a s before (HasText now) t after
JoinedBy a s before taken_comment now t after = TakesCounted a s before Skip t after
JoinedBy a s before taken_broken now t after = TakesCounted a s before Broken t after

-- a line that was taken after a wait, behind texts that go on, makes more of them, or the next logical line
line_joins : {a : Ahead} {s t v : InputState} {before lines after : ℕ} {seen : List ℕ} {m : LineMode}
    (u : InputState) (now : List ℕ) (taken : Taken) (j : Joining a s before seen m t lines) → Waits (rest_of j) t v →
    LineMakes m seen (rest_of j) v taken now u → after ≡ min (lines + 1) (2 ^ 64 - 1) →
    JoinedBy a s before taken now u after
line_joins {seen = seen} {m = m} u now (taken_going n) j waits k one =
    let l = text_joined j waits k.1 k.2 one in
    rw k.4 (record {
      taken = j.taken ++ chars k.0 ∷ [];
      took = l.took;
      told = (l.took.moves.is_left, j.told.1);
      joined = l.joined;
      first = λ e. absurd (begun_chars k.0 k.1.text k.1.some (both_nil seen (chars k.0) e).1);
      is_going = rw k.3 at (walk-is (Unit {0}) m seen (chars k.0) j.is_going l.one);
      shown = λ more h. absurd (l.shown more h);
    })
line_joins {seen = seen} {m = m} u now taken_ended j waits k one =
    let l = text_joined j waits k.1 k.2 one in
    let all = j.taken ++ chars k.0 ∷ [] in
    closed_next l.took l.some (λ h. h) (λ more cut.
    let last = length all ≡ length (map Some all ++ more) in
    rw (length-map all Some) (next-text all more now (l.shown more)
    (rw (← l.joined) (rw k.3 at (walk-is last m seen (chars k.0) j.is_going l.one)))))
line_joins u now taken_comment j waits k one =
    let took = rw (j.first k.2, text_is k.0 k.1.text) at (took_more j.took waits k.1.some k.1.takes one) in
    closed_next took (λ h. cc) (λ h. h) (λ more cut. next-skip (chars k.0) more k.3)
line_joins {m = m} u now taken_broken j waits k one =
    let texts = map Some j.taken in
    let took = rw (no_text k.0 k.2) at (took_more j.took waits k.1 k.3 one) in
    let count : length (texts ++ None ∷ []) ≡ suc (length j.taken) =
    omega (arith, length-append texts (None ∷ []), length-map j.taken Some) in
    closed_next took (λ h. let e = (both_nil texts (None ∷ []) h).1 in cc) (λ h. h) (λ more cut.
    rw (count, append_assoc texts (None ∷ []) more) (next-broken j.taken more m
    (rw (append_assoc texts (None ∷ []) more) at cut)
    (λ h. rw (j.shown (None ∷ more) h) at h) (rw j.joined at j.is_going)))

-- where more was found behind texts that go on, and then a line was taken, it makes more of them, or the next line
pub line_joined : {X : Ahead → Type 0} {a : Ahead} {s t : InputState} {before lines after : ℕ} {seen : List ℕ}
    {m : LineMode} (v u : InputState) (now : List ℕ) (taken : Taken) → Joining a s before seen m t lines →
    ((b : Ahead) → IsTold t.left b → (v.left ≡ Some b) × ReadsFit b t b v × X b) →
    ((b : Ahead) → IsTold v.left b → LineMakes m seen b v taken now u) → after ≡ min (lines + 1) (2 ^ 64 - 1) →
    JoinedBy a s before taken now u after
line_joined v u now taken j finds makes one =
    let found = finds (rest_of j) j.told in
    line_joins u now taken j (record { left = found.0; fits = found.1 }) (makes (rest_of j) (found.0, j.told.1)) one

-- at the end of input a line in which a quote is open stays open
pub open_at_end : (m : LineMode) (text : List ℕ) → m ≢ Outside → IsUtf8 text →
    at_input_end m (chars text) ≡ StaysOpen (chars text) (length text)
open_at_end Outside text other u = absurd (other refl)
open_at_end _ text other u = rw (encodes-chars text u) refl

-- at the end of input, where nothing is in the line buffer, nothing is left
pub joining_none : {a : Ahead} {s t : InputState} {before now : ℕ} {m : LineMode} (text : List ℕ) → text ≡ [] →
    (j : Joining a s before (chars text) m t now) → j.took.left ≡ [] →
    (count : ℕ) × (a.bytes ≡ []) × Counts before count now
joining_none {a} text empty j end =
    let none = j.first (rw empty chars-nil) in
    let lines : physical_lines a.bytes ≡ [] = sym (rw (end, none) at j.took.rest) in
    (0, sym (concat-lines a.bytes) ∙ ap concat lines, rw none at j.took.counts)

-- at the end of input, the text that was taken is the next logical line, as the mode reached makes it
pub joining_finish : {a : Ahead} {s t v : InputState} {before now : ℕ} (text : List ℕ) (m : LineMode) → IsUtf8 text →
    text ≢ [] → (j : Joining a s before (chars text) m t now) → Waits (rest_of j) t v → IsAtEnd a.fault j.took.left v →
    TakesCounted a s before (at_input_end m (chars text)) v now
joining_finish {a} {v = v} text m u some j waits end =
    let k = j.took in
    let texts = map Some j.taken in
    let all = rw (no_lines a.fault k.left end.1, append-nil texts) at k.lines in
    let begun : j.taken ≢ [] = λ h. begun_chars text u some (j.joined ∙ ap concat h) in
    let some : texts ≢ [] = λ h. begun (nil_from_length j.taken (sym (length-map j.taken Some) ∙ ap length h)) in
    let cut = rw all at (cut_line_texts (whole_before a.fault a.bytes)) in
    let is_next =
    at_end j.taken m some cut (λ h. begun (j.shown [] (rw append-nil h))) (rw j.joined at j.is_going) in
    taken_next k (moves_still v k.moves waits.left waits.fits) some
    (rw (all, j.joined, length-map j.taken Some) is_next) (λ h. end.0) (inl end)

-- whole texts before another line, which are cut as bytes are, end with a line feed
cut_ends : (taken : List (List ℕ)) (l : Option (List ℕ)) → AreCut (map Some taken ++ l ∷ []) → taken ≢ [] →
    ends_line (concat taken) ≡ true
cut_ends [] l cut some = absurd (some refl)
cut_ends (t ∷ []) l cut some = rw (append-nil t) (whole_ends t cut.0)
cut_ends (t ∷ u ∷ taken) l cut some = ends_join t (concat (u ∷ taken)) (cut_ends (u ∷ taken) l cut.1 (λ h. cc))

-- whole lines that go on, and then bytes without a line feed, decide no logical line
undecided : {a : Ahead} {s t : InputState} {before now : ℕ} {seen : List ℕ} {m : LineMode}
    (j : Joining a s before seen m t now) (front : List ℕ) → no_line_feed front ≡ true →
    ((more : List ℕ) → lines_so_far (j.took.used ++ more) ≡ map Some j.taken ++ lines_so_far more) →
    IsUndecided (j.took.used ++ front)
undecided {m = m} j front none always count next some is =
    let texts = map Some j.taken in
    let used = j.took.used in
    let text = concat j.taken in
    let e : lines_so_far (used ++ front) ≡ texts =
    rw (always front, up_to_none front none, append-nil texts) refl in
    let some_texts = rw e at some in
    let cut = rw e at (cut_line_texts (up_to_last_line_feed (used ++ front))) in
    let begun : j.taken ≢ [] = λ h. some_texts (ap (map Some) h) in
    let going : IsGoing text m = rw j.joined at j.is_going in
    let whole = rw (always (line_feed ∷ [])) at (cut_line_texts (up_to_last_line_feed (used ++ line_feed ∷ []))) in
    let inside = line_goes_on text m going (cut_ends j.taken (line_text (line_feed ∷ [])) whole begun) in
    let is_open =
    next-open j.taken m some_texts cut (λ h. begun (j.shown [] (rw append-nil h))) going inside in
    let same =
    one_next texts (length j.taken) count (StaysOpen text (byte_len text)) next some_texts cut is_open (rw e at is) in
    rw (← same.1) tt

-- a final fault met before a line feed, behind texts that go on, comes before a logical line is whole
pub joining_fails : {A : Type 0} {P : List ℕ → Type 0} {a : Ahead} {s t v : InputState} {before now : ℕ}
    {seen : List ℕ} {m : LineMode} (u : InputState) (e : Error A) (j : Joining a s before seen m t now) →
    Waits (rest_of j) t v → ((bytes : List ℕ) → P bytes → no_line_feed bytes ≡ true) →
    IsFinal (rest_of j) v P e u → IsFinal a s IsUndecided e u
joining_fails {P = P} {a = a} {s = s} {v = v} u e j waits feeds fails =
    let k = j.took in
    let fits = waits.fits in
    let waited = moves_still v k.moves waits.left fits in
    final_before a s v u P IsUndecided k.used k.left e waited.joins waited.reads
    (λ kind front later cut why none. undecided j front (feeds front none)
    (elim k.ends [
      | inr always ↦ always
      | inl end ↦ absurd (elim why [
        | inl told ↦ none-some kind (sym end.0 ∙ told)
        | inr each ↦
            let met = ap end_reads end.2 in
            let empty = ap length (sym cut ∙ end.1) in omega (arith, each, met, empty, fits, length-append front later)
      ])
    ]))
    fails

-- lines whose stage is ended once all is used up, and else open, go on, or have ended with nothing left
lines_go_on : {left : List ℕ} {fault : Option ErrorKind} (v : LinesState) (used_up : Bool) →
    v.input.left ≡ Some (ahead_of left fault) → v.stage ≡ stage_if used_up →
    ((b : Ahead) → v.input.left ≡ Some b → used_up ≡ true → (b.bytes ≡ []) × (b.fault ≡ None)) → GoesOn v
lines_go_on {left} {fault} v true is stage all =
    let e = all (ahead_of left fault) is refl in inr (stage, rw (e.0, e.1) at is)
lines_go_on v false is stage all = inl stage

-- the outcome of what was joined, with the stage behind it, is an answer of `advance`
pub advanced : {A : Type 0} (a : Ahead) (s v : LinesState) (joined : Joined) (text : List ℕ)
    (r : Option (Result (Unit {0}) (Error A))) (used_up : Bool) →
    JoinsNext {A = A} a s.input s.lines_taken (Ok joined) text v.input v.lines_taken →
    Counts s.lines_taken 1 v.first_line → IsOutcome joined text r →
    v.stage ≡ stage_after joined used_up (is_refused r) →
    ((b : Ahead) → v.input.left ≡ Some b → used_up ≡ true → (b.bytes ≡ []) × (b.fault ≡ None)) →
    AdvanceIs a s r text v
advanced a s v Nothing text r used_up k begins outcome stage all =
    rw outcome (k.1.0, k.1.1, rw outcome at stage)
advanced a s v Skipped text r used_up k begins outcome stage all =
    rw outcome (inl (k.0, inl k.1, (begins, k.2), lines_go_on v used_up k.1.1.moves.is_left (rw outcome at stage) all))
advanced a s v Whole text r used_up k begins outcome stage all =
    rw outcome (inl (k.0, inr k.1, (begins, k.2), lines_go_on v used_up k.1.moves.is_left (rw outcome at stage) all))
advanced a s v OpenEnd text (Some (Err (LineParse found place))) used_up k begins (inr is) stage all =
    inl (k.0, rw (is.0, is.1) k.1, (begins, k.2), lines_go_on v used_up k.1.moves.is_left stage all)
advanced a s v OpenEnd text (Some (Err (Memory m))) used_up k begins outcome stage all = inr (stage, inl tt)
advanced a s v OpenEnd text (Some (Err _)) used_up k begins (inl f) stage all = absurd f
advanced a s v OpenEnd text (Some (Err _)) used_up k begins (inr f) stage all = absurd f
advanced a s v OpenEnd text _ used_up k begins outcome stage all = absurd outcome
advanced a s v BrokenLine text (Some (Err (Io x))) used_up k begins outcome stage all =
    inl (k.0, (outcome, k.1), (begins, k.2), lines_go_on v used_up k.1.moves.is_left stage all)
advanced a s v BrokenLine text _ used_up k begins outcome stage all = absurd outcome
