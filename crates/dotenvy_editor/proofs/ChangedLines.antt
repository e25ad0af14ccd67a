-- Slices that are changed one after another.
use Rattle.std.proofs.Common.{◌≡◌, ◌≢◌, ℕ, ◌⊎◌, inl, inr, Bool, true, false, not, List, [], ◌∷◌, ◌++◌}
use Rattle.std.proofs.Common.{refl, sym, ap, ◌∙◌, subst, append_assoc, append-nil, arith, length, length-append}
use Rattle.std.proofs.Common.{◌<◌, IsTrue, Option, Some, None}
use Rattle.std.specs.Prelude.{MatchBool, if◌then◌else◌}
use Rattle.std.specs.Str.{chars}
use Rattle.std.proofs.lemmas.Bool.{cases_Bool, eqb-true}
use Rattle.dotenvy.specs.Dialect.{Dialect}
use Rattle.dotenvy.specs.LogicalLine.{HasText}
use Rattle.dotenvy_format.specs.Characters.{line_feed}
use Rattle.dotenvy_format.proofs.lines.NextLine.{ends_line}
use Rattle.dotenvy_editor.specs.declared.change.Change.{Change}
use Rattle.dotenvy_editor.specs.declared.change.Change.TheVariants.{Set, Unset, Rename}
use Rattle.dotenvy_editor.specs.declared.editing.Editing.{Editing}
use Rattle.dotenvy_editor.specs.declared.editing.Assignment.{Assignment}
use Rattle.dotenvy_editor.specs.declared.lines.Slice.{Slice as SliceInCode}
use Rattle.dotenvy_editor.specs.declared.refusal.Reason.{Reason}
use Rattle.dotenvy_editor.specs.declared.refusal.Unedited.{Unedited}
use Rattle.dotenvy_editor.specs.declared.refusal.Unedited.TheVariants.{Refused, Memory}
use Rattle.dotenvy_editor.specs.Assignments.{AreOthers, Assigning, AssignsKey, IsSpot, NoneAssigns, Spot}
use Rattle.dotenvy_editor.specs.Edits.{AssignsBefore, NoLongComments, RenamesAll, RenamesLine}
use Rattle.dotenvy_editor.specs.Edits.{behind_line, has_mark}
use Rattle.dotenvy_editor.specs.Forms.{is_long, is_nil}
use Rattle.dotenvy_editor.specs.Refusals.{IsRefused}
use Rattle.dotenvy_editor.specs.Slices.{AreSlices, ComeBefore, Slice, line_after, slices_bytes}
use Rattle.dotenvy_editor.specs.TakenSlices.{LinesState, TakesSlice}
use Rattle.dotenvy_editor.specs.inside.Changing.{dialect_of, key_of}
use Rattle.dotenvy_editor.specs.inside.Noted.{FindsAssignment, IsAssignment, IsRead, IsSlice, NotesLine}
use Rattle.dotenvy_editor.specs.inside.Noted.{no_notes, slice_of}
use Rattle.dotenvy_editor.specs.inside.Changed.{Appends, AreChanged, Changes, ChangesAll, ChangesFrom}
use Rattle.dotenvy_editor.specs.inside.Changed.{ChangesSoFar, RefusesChange, RefusesLine, kept}
use Rattle.dotenvy_editor.specs.inside.Tried.{texts_of}
use Rattle.dotenvy_editor.proofs.NotedLines.{AllEnd, all_end, are_all, bytes_end, bytes_more, come_more, later_more}
use Rattle.dotenvy_editor.proofs.NotedLines.{none_more, noted_more, slices_bytes-append, some_is}

-- Others, and what is after an assignment.
-- one more slice that doesn't assign the key is one of the others
pub others_kept : (key : List ℕ) (slices others : List Slice) (slice : Slice) → AreOthers key slices others →
    ¬ (Assigning key slice) → AreOthers key (slices ++ slice ∷ []) (others ++ slice ∷ [])
others_kept key [] others slice are not = rw are (inr (not, [], refl, refl))
others_kept key (first ∷ slices) others slice (inl (assigns, are)) not =
    inl (assigns, others_kept key slices others slice are not)
others_kept key (first ∷ slices) others slice (inr (other, later, is, are)) not =
    inr (other, later ++ slice ∷ [], ap (λ all. all ++ slice ∷ []) is, others_kept key slices later slice are not)

-- one more slice that assigns the key is none of the others
pub others_gone : (key : List ℕ) (slices others : List Slice) (slice : Slice) → AreOthers key slices others →
    Assigning key slice → AreOthers key (slices ++ slice ∷ []) others
others_gone key [] others slice are assigns = inl (assigns, are)
others_gone key (first ∷ slices) others slice (inl (also, are)) assigns =
    inl (also, others_gone key slices others slice are assigns)
others_gone key (first ∷ slices) others slice (inr (other, later, is, are)) assigns =
    inr (other, later, is, others_gone key slices later slice are assigns)

-- the comment of the slice is on one line, if it is an assignment
abbrev IsShort : Dialect → List ℕ → Slice → Type 0
IsShort dialect key slice =
    ¬ (Assigning key slice) ⊎ AssignsBefore dialect key (λ rest. IsTrue (not (is_long rest))) slice

-- one more slice whose comment is on one line
long_more : (dialect : Dialect) (key : List ℕ) (slices : List Slice) (slice : Slice) →
    NoLongComments dialect key slices → IsShort dialect key slice →
    NoLongComments dialect key (slices ++ slice ∷ [])
long_more dialect key [] slice none short = (short, tt)
long_more dialect key (first ∷ slices) slice none short = (none.0, long_more dialect key slices slice none.1 short)

-- what a rename makes of a slice
abbrev Renamed : List ℕ → List ℕ → Slice → List ℕ → Type 0
Renamed old new slice line =
    (AssignsKey old slice.logical × RenamesLine old new slice line)
    ⊎ (¬ (AssignsKey old slice.logical) × (line ≡ slice.bytes))

-- one more slice is renamed
renames_more : (old new : List ℕ) (slices : List Slice) (slice : Slice) (bytes line : List ℕ) →
    RenamesAll old new slices bytes → Renamed old new slice line →
    RenamesAll old new (slices ++ slice ∷ []) (bytes ++ line)
renames_more old new [] slice bytes line are is = rw are (line, [], sym (append-nil line), refl, is)
renames_more old new (first ∷ slices) slice bytes line (own, later, cut, are, how) is = (
  own,
  later ++ line,
  ap (λ all. all ++ line) cut ∙ append_assoc own later line,
  renames_more old new slices slice later line are is,
  how,
)

-- slices without an assignment before those that are renamed
pub renames_behind : (old new : List ℕ) (before slices : List Slice) (bytes : List ℕ) → NoneAssigns old before →
    RenamesAll old new slices bytes → RenamesAll old new (before ++ slices) (slices_bytes before ++ bytes)
renames_behind old new [] slices bytes none are = are
renames_behind old new (first ∷ before) slices bytes none are = (
  first.bytes,
  slices_bytes before ++ bytes,
  append_assoc first.bytes (slices_bytes before) bytes,
  renames_behind old new before slices bytes none.1 are,
  inr (none.0, refl),
)

-- The bytes of what is changed.
-- one more slice that is no assignment is kept after the first assignment
from_kept : (of : Change) (first : Slice) (after : List Slice) (slice : Slice) (bytes : List ℕ) →
    ChangesFrom of first after bytes → ¬ (Assigning (key_of of) slice) →
    ChangesFrom of first (after ++ slice ∷ []) (bytes ++ slice.bytes)
from_kept (Set setting) first after slice bytes from not = record {
  text = from.text;
  is_text = from.is_text;
  spot = from.spot;
  is_spot = from.is_spot;
  others = from.others ++ slice ∷ [];
  are_others = others_kept (chars setting.key.now) after from.others slice from.are_others not;
  none_long = long_more setting.how.dialect (chars setting.key.now) after slice from.none_long (inl not);
  line = from.line;
  writes = from.writes;
  bytes_is =
      ap (λ all. all ++ slice.bytes) from.bytes_is ∙ append_assoc from.line (slices_bytes from.others) slice.bytes
      ∙ ap (◌++◌ from.line) (sym (bytes_more from.others slice));
}
from_kept (Unset key dialect) first after slice bytes (none, others, are, is) not = (
  long_more dialect (chars key.now) (first ∷ after) slice none (inl not),
  others ++ slice ∷ [],
  others_kept (chars key.now) after others slice are not,
  ap (λ all. all ++ slice.bytes) is ∙ sym (bytes_more others slice),
)
from_kept (Rename old new dialect) first after slice bytes are not =
    renames_more (chars old.now) (chars new.now) (first ∷ after) slice bytes slice.bytes are (inr (not, refl))

-- one more slice that is no assignment is kept
pub changed_kept : (of : Change) (found : Bool) (slices : List Slice) (slice : Slice) (bytes : List ℕ) →
    AreChanged of found slices bytes → ¬ (Assigning (key_of of) slice) →
    AreChanged of found (slices ++ slice ∷ []) (bytes ++ slice.bytes)
changed_kept of false slices slice bytes (none, is) not = (
  none_more (Assigning (key_of of)) slices slice none not,
  ap (λ all. all ++ slice.bytes) is ∙ sym (bytes_more slices slice),
)
changed_kept of true slices slice bytes found not = record {
  before = found.before;
  slice = found.slice;
  after = found.after ++ slice ∷ [];
  are =
      ap (λ all. all ++ slice ∷ []) found.are
      ∙ append_assoc found.before (found.slice ∷ found.after) (slice ∷ []);
  none_before = found.none_before;
  assigns = found.assigns;
  later = found.later ++ slice.bytes;
  changes = from_kept of found.slice found.after slice found.later found.changes not;
  bytes_is =
      ap (λ all. all ++ slice.bytes) found.bytes_is
      ∙ append_assoc (slices_bytes found.before) found.later slice.bytes;
}

-- a slice is an assignment with this spot
pub record SpotOf (of : Change) (slice : Slice) (spot : Spot) : Type 0 where
  pub text : List ℕ
  pub is_text : slice.logical ≡ HasText text
  pub is_spot : IsSpot (dialect_of of) (key_of of) text slice.bytes spot
  pub assigns : Assigning (key_of of) slice

-- the first assignment is changed
from_first : (of : Change) (slice : Slice) (spot : Spot) (more : List ℕ) → SpotOf of slice spot →
    Changes of false slice spot more → ChangesFrom of slice [] more
from_first (Set setting) slice spot more is changes = record {
  text = is.text;
  is_text = is.is_text;
  spot = spot;
  is_spot = is.is_spot;
  others = [];
  are_others = refl;
  none_long = tt;
  line = more;
  writes = changes;
  bytes_is = sym (append-nil more);
}
from_first (Unset key dialect) slice spot more is changes = (
  (
    inr (record {
      text = is.text;
      is_text = is.is_text;
      spot = spot;
      is_spot = is.is_spot;
      holds = changes.0;
    }),
    tt,
  ),
  [],
  refl,
  changes.1,
)
from_first (Rename old new dialect) slice spot more is changes =
    (more, [], sym (append-nil more), refl, inl (is.assigns, changes))

-- one more assignment is changed after the first
from_more : (of : Change) (first : Slice) (after : List Slice) (slice : Slice) (spot : Spot) (bytes more : List ℕ) →
    ChangesFrom of first after bytes → SpotOf of slice spot → Changes of true slice spot more →
    ChangesFrom of first (after ++ slice ∷ []) (bytes ++ more)
from_more (Set setting) first after slice spot bytes more from is (short, none) = record {
  text = from.text;
  is_text = from.is_text;
  spot = from.spot;
  is_spot = from.is_spot;
  others = from.others;
  are_others = others_gone (chars setting.key.now) after from.others slice from.are_others is.assigns;
  none_long = long_more setting.how.dialect (chars setting.key.now) after slice from.none_long
      (inr (record {
        text = is.text;
        is_text = is.is_text;
        spot = spot;
        is_spot = is.is_spot;
        holds = short;
      }));
  line = from.line;
  writes = from.writes;
  bytes_is = ap (◌++◌ bytes) none ∙ append-nil bytes ∙ from.bytes_is;
}
from_more (Unset key dialect) first after slice spot bytes more (short_all, others, are, all) is (short, none) = (
  long_more dialect (chars key.now) (first ∷ after) slice short_all
      (inr (record {
        text = is.text;
        is_text = is.is_text;
        spot = spot;
        is_spot = is.is_spot;
        holds = short;
      })),
  others,
  others_gone (chars key.now) after others slice are is.assigns,
  ap (◌++◌ bytes) none ∙ append-nil bytes ∙ all,
)
from_more (Rename old new dialect) first after slice spot bytes more are is changes =
    renames_more (chars old.now) (chars new.now) (first ∷ after) slice bytes more are (inl (is.assigns, changes))

-- one more assignment is changed
pub changed_more : (of : Change) (found : Bool) (slices : List Slice) (slice : Slice) (spot : Spot)
    (bytes more : List ℕ) → AreChanged of found slices bytes → SpotOf of slice spot → Changes of found slice spot more →
    AreChanged of true (slices ++ slice ∷ []) (bytes ++ more)
changed_more of false slices slice spot bytes more (none, all) is changes = record {
  before = slices;
  slice = slice;
  after = [];
  are = refl;
  none_before = none;
  assigns = is.assigns;
  later = more;
  changes = from_first of slice spot more is changes;
  bytes_is = ap (λ front. front ++ more) all;
}
changed_more of true slices slice spot bytes more found is changes = record {
  before = found.before;
  slice = found.slice;
  after = found.after ++ slice ∷ [];
  are =
      ap (λ all. all ++ slice ∷ []) found.are
      ∙ append_assoc found.before (found.slice ∷ found.after) (slice ∷ []);
  none_before = found.none_before;
  assigns = found.assigns;
  later = found.later ++ more;
  changes = from_more of found.slice found.after slice spot found.later more found.changes is changes;
  bytes_is =
      ap (λ all. all ++ more) found.bytes_is ∙ append_assoc (slices_bytes found.before) found.later more;
}

-- The mark at the start.
-- more bytes after a line don't change whether it begins with a mark
mark_behind : (bytes more : List ℕ) → bytes ≢ [] → ends_line bytes ≡ true → has_mark (bytes ++ more) ≡ has_mark bytes
mark_behind [] more some ends = absurd (some refl)
mark_behind (a ∷ []) more some ends = rw (eqb-true a line_feed ends) refl
mark_behind (a ∷ b ∷ []) more some ends = rw (eqb-true b line_feed ends) refl
mark_behind (a ∷ b ∷ c ∷ bytes) more some ends = refl

-- more bytes after those that an empty line may stand before
line_behind : (bytes more : List ℕ) → bytes ≢ [] → ends_line bytes ≡ true →
    behind_line (bytes ++ more) ≡ behind_line bytes ++ more
line_behind bytes more some ends =
    rw (mark_behind bytes more some ends)
    (elim (has_mark bytes) as (λ marked.
    (if marked then line_feed ∷ (bytes ++ more) else bytes ++ more)
    ≡ (if marked then line_feed ∷ bytes else bytes) ++ more) [ true ↦ refl | false ↦ refl ])

-- with an empty line before them bytes aren't empty
line_some : (bytes : List ℕ) → bytes ≢ [] → is_nil (behind_line bytes) ≡ false
line_some [] some = absurd (some refl)
line_some (c ∷ bytes) some = elim (cases_Bool (has_mark (c ∷ bytes))) [
  | inl is ↦ rw is refl
  | inr not ↦ rw not refl
]

-- where an unset keeps bytes, they end with a line feed
abbrev EndsIfUnset : Change → List ℕ → Type 0
EndsIfUnset (Set setting) bytes = Unit {0}
EndsIfUnset (Unset key dialect) bytes = bytes ≢ [] → ends_line bytes ≡ true
EndsIfUnset (Rename old new dialect) bytes = Unit {0}

-- of slices in two parts each ends with a line feed, if each of all does
end_front : (slices others : List Slice) → AllEnd (slices ++ others) → AllEnd slices
end_front [] others all = tt
end_front (slice ∷ slices) others all = (all.0, end_front slices others all.1)

end_behind : (slices others : List Slice) → AllEnd (slices ++ others) → AllEnd others
end_behind [] others all = all
end_behind (slice ∷ slices) others all = end_behind slices others all.1

end_both : (slices others : List Slice) → AllEnd slices → AllEnd others → AllEnd (slices ++ others)
end_both [] others all also = also
end_both (slice ∷ slices) others all also = (all.0, end_both slices others all.1 also)

end_others : (key : List ℕ) (slices others : List Slice) → AreOthers key slices others → AllEnd slices → AllEnd others
end_others key [] others are all = rw are tt
end_others key (slice ∷ slices) others (inl (assigns, are)) all = end_others key slices others are all.1
end_others key (slice ∷ slices) others (inr (not, later, is, are)) all =
    rw is (all.0, end_others key slices later are all.1)

-- what an unset keeps of slices that end with line feeds ends with one
kept_end : (of : Change) (found : Bool) (slices : List Slice) (bytes : List ℕ) → AreChanged of found slices bytes →
    AllEnd slices → EndsIfUnset of bytes
kept_end (Set setting) found slices bytes are all = tt
kept_end (Rename old new dialect) found slices bytes are all = tt
kept_end (Unset key dialect) false slices bytes (none, is) all = λ some.
    ap ends_line is ∙ bytes_end slices all (λ e. some (is ∙ e))
kept_end (Unset key dialect) true slices bytes found all = λ some.
    let (none, others, are, is) = found.changes in
    let behind = end_behind found.before (found.slice ∷ found.after) (rw found.are at all) in
    let front = end_front found.before (found.slice ∷ found.after) (rw found.are at all) in
    let both : bytes ≡ slices_bytes (found.before ++ others) =
    found.bytes_is ∙ ap (◌++◌ (slices_bytes found.before)) is ∙ sym (slices_bytes-append found.before others) in
    ap ends_line both
    ∙ bytes_end (found.before ++ others)
    (end_both found.before others front (end_others (chars key.now) found.after others are behind.1))
    (λ e. some (both ∙ e))

-- a line that is kept after what was made so far
pub kept_more : (of : Change) (out start bytes more : List ℕ) → EndsIfUnset of bytes →
    out ≡ start ++ kept of (is_nil start) bytes →
    out ++ kept of (is_nil out) more ≡ start ++ kept of (is_nil start) (bytes ++ more)
kept_more (Set setting) out start bytes more ends is =
    ap (λ all. all ++ more) is ∙ append_assoc start bytes more
kept_more (Rename old new dialect) out start bytes more ends is =
    ap (λ all. all ++ more) is ∙ append_assoc start bytes more
kept_more (Unset key dialect) out [] [] more ends is = rw is refl
kept_more (Unset key dialect) out [] (c ∷ bytes) more ends is =
    let some : c ∷ bytes ≢ [] = λ e. cc in
    rw (is, line_some (c ∷ bytes) some) (sym (line_behind (c ∷ bytes) more some (ends some)))
kept_more (Unset key dialect) out (s ∷ start) bytes more ends is =
    rw is (append_assoc (s ∷ start) bytes more)

-- bytes that are made of an assignment, after what was made so far
pub kept_changed : (of : Change) (found : Bool) (slice : Slice) (spot : Spot) (out start bytes more : List ℕ) →
    Changes of found slice spot more → out ≡ start ++ kept of (is_nil start) bytes →
    out ++ more ≡ start ++ kept of (is_nil start) (bytes ++ more)
kept_changed (Set setting) found slice spot out start bytes more changes is =
    ap (λ all. all ++ more) is ∙ append_assoc start bytes more
kept_changed (Rename old new dialect) found slice spot out start bytes more changes is =
    ap (λ all. all ++ more) is ∙ append_assoc start bytes more
kept_changed (Unset key dialect) found slice spot out start bytes more changes is =
    rw (changes.1, append-nil out, append-nil bytes) is

-- One more line.
-- the slice that was taken
abbrev taken : {old new : LinesState} {code : SliceInCode} → TakesSlice old code new → Slice
taken {code = code} takes = record { bytes = code.bytes.now; logical = takes.logical }

-- what is so of the lines so far, of the slices alone
record LinesMore (body : List ℕ) (slices : List Slice) (slice : Slice) (next : LinesState) : Type 0 where
  before : next.before ≡ slices_bytes (slices ++ slice ∷ [])
  joins : body ≡ slices_bytes (slices ++ slice ∷ []) ++ next.left
  come : ComeBefore (slices ++ slice ∷ []) next.left

lines_more : {A : Type 0} {body : List ℕ} {lines next : LinesState} {old now : Editing A} {code : SliceInCode}
    (k : ChangesSoFar body lines old now) (takes : TakesSlice lines code next) →
    LinesMore body k.slices (taken takes) next
lines_more {next = next} k takes =
    let slice = taken takes in record {
      before = takes.taken ∙ ap (λ bytes. bytes ++ slice.bytes) k.before ∙ sym (bytes_more k.slices slice);
      joins =
          k.joins ∙ ap (◌++◌ (slices_bytes k.slices)) takes.cut ∙ sym (later_more k.slices slice next.left);
      come = come_more k.slices slice next.left (rw takes.cut at k.come) takes.is_next;
    }

-- the line at which the next slice begins
line_here : {A : Type 0} {body : List ℕ} {lines next : LinesState} {old now : Editing A} {code : SliceInCode}
    (k : ChangesSoFar body lines old now) (takes : TakesSlice lines code next) → code.first ≡ line_after k.slices
line_here k takes = rw k.before at takes.first_is

-- each slice so far ends with a line feed, where one more is taken
all_end_here : {A : Type 0} {body : List ℕ} {lines next : LinesState} {old now : Editing A} {code : SliceInCode}
    (k : ChangesSoFar body lines old now) (takes : TakesSlice lines code next) → AllEnd k.slices
all_end_here {next = next} {code = code} k takes =
    all_end k.slices (code.bytes.now ++ next.left) (some_front code.bytes.now next.left takes.is_next.0)
    (rw takes.cut at k.come)
  where
    some_front : (bytes later : List ℕ) → bytes ≢ [] → bytes ++ later ≢ []
    some_front [] later some e = some refl
    some_front (c ∷ bytes) later some e = cc

-- a line was read: what is noted changes, and nothing else that is known of the lines so far
pub record LineIsRead {A : Type 0} (text : List ℕ) (code : SliceInCode) (found : Option Assignment)
    (now read : Editing A) : Type 0 where
  pub same : read ≡ record now { notes = read.notes; telling = read.telling }
  pub notes : (line : Slice) → IsSlice code text line → NotesLine now.change line code.first now.notes read.notes
  pub finds : (line : Slice) → IsSlice code text line → FindsAssignment now.change code line found

-- one more line is kept
pub so_far_kept : {A : Type 0} {body : List ℕ} {lines next : LinesState} {old now read new : Editing A}
    {code : SliceInCode} → ChangesSoFar body lines old now → TakesSlice lines code next →
    LineIsRead (chars next.text) code None now read →
    new.out.items ≡ read.out.items ++ kept read.change (is_nil read.out.items) code.bytes.now →
    new ≡ record read { out = new.out } → ChangesSoFar body next old new
so_far_kept {old = old} {now} {read} {new} {code} k takes is keeps stays =
    let slice = taken takes in
    let more = lines_more k takes in
    let not : ¬ (Assigning (key_of old.change) slice) =
    rw k.same at (is.finds slice (refl, takes.is_kind)) in record {
      slices = k.slices ++ slice ∷ [];
      before = more.before;
      joins = more.joins;
      come = more.come;
      same = ap (λ e. e.change) stays ∙ ap (λ e. e.change) is.same ∙ k.same;
      noted = noted_more (line_here k takes) k.noted
          (rw (ap (λ e. e.notes) stays, ← k.same) (is.notes slice (refl, takes.is_kind)));
      bytes = k.bytes ++ code.bytes.now;
      changed =
          rw (ap (λ e. e.is_found) stays, ap (λ e. e.is_found) is.same)
          (changed_kept old.change now.is_found k.slices slice k.bytes k.changed not);
      out =
          keeps
          ∙ rw (ap (λ e. e.change) is.same, ap (λ e. e.out.items) is.same, k.same)
          (kept_more old.change now.out.items old.out.items k.bytes code.bytes.now
          (kept_end old.change now.is_found k.slices k.bytes k.changed (all_end_here k takes)) k.out);
    }

-- the assignment that was found has its spot
pub spot_found : {of : Change} {found : Assignment} (is : IsAssignment of found) →
    SpotOf of (slice_of found) (texts_of found.spot)
spot_found is = record { text = _; is_text = refl; is_spot = is.spot; assigns = is.states }

-- one more assignment is changed
pub so_far_changed : {A : Type 0} {body : List ℕ} {lines next : LinesState} {old now read new : Editing A}
    {code : SliceInCode} (found : Assignment) → ChangesSoFar body lines old now → TakesSlice lines code next →
    LineIsRead (chars next.text) code (Some found) now read → new.is_found ≡ true → new.change ≡ read.change →
    new.notes ≡ read.notes →
    Appends (λ bytes. Changes read.change read.is_found (slice_of found) (texts_of found.spot) bytes)
    read.out.items new.out.items → ChangesSoFar body next old new
so_far_changed {old = old} {now} {read} {new} {code} found k takes is finds change_is notes_is (made, changes, out) =
    let slice = taken takes in
    let more = lines_more k takes in
    let (assigns, is_code, is_slice) = rw k.same at (is.finds slice (refl, takes.is_kind)) in
    let made_here : Changes old.change now.is_found slice (texts_of found.spot) made =
    rw (is_slice, ← k.same, ← ap (λ e. e.change) is.same, ← ap (λ e. e.is_found) is.same) changes in record {
      slices = k.slices ++ slice ∷ [];
      before = more.before;
      joins = more.joins;
      come = more.come;
      same = change_is ∙ ap (λ e. e.change) is.same ∙ k.same;
      noted = noted_more (line_here k takes) k.noted
          (rw (notes_is, ← k.same) (is.notes slice (refl, takes.is_kind)));
      bytes = k.bytes ++ made;
      changed =
          rw finds
          (changed_more old.change now.is_found k.slices slice (texts_of found.spot) k.bytes made k.changed
          (rw is_slice (spot_found assigns)) made_here);
      out =
          out ∙ ap (λ e. e.out.items ++ made) is.same
          ∙ kept_changed old.change now.is_found slice (texts_of found.spot) now.out.items old.out.items k.bytes made
          made_here k.out;
    }

-- The first line, the last one, and one that is refused.
-- nothing is kept of nothing
kept_nothing : (of : Change) (first : Bool) → kept of first [] ≡ []
kept_nothing (Set setting) first = refl
kept_nothing (Unset key dialect) true = refl
kept_nothing (Unset key dialect) false = refl
kept_nothing (Rename old new dialect) first = refl

-- no line was read yet
pub so_far_begun : {A : Type 0} (body : List ℕ) (lines : LinesState) (old : Editing A) → lines.before ≡ [] →
    lines.left ≡ body → old.is_found ≡ false → old.notes ≡ no_notes → ChangesSoFar body lines old old
so_far_begun body lines old fresh whole none nothing = record {
  slices = [];
  before = fresh;
  joins = sym whole;
  come = tt;
  same = refl;
  noted = rw nothing (record { unreadable = tt; present = tt; last = inl (refl, refl) });
  bytes = [];
  changed = rw none (tt, refl);
  out =
      sym (append-nil old.out.items)
      ∙ ap (◌++◌ old.out.items) (sym (kept_nothing old.change (is_nil old.out.items)));
}

-- all lines were read
pub so_far_all : {A : Type 0} {body : List ℕ} {lines : LinesState} {old new : Editing A} →
    ChangesSoFar body lines old new → lines.left ≡ [] → ChangesAll body old new
so_far_all {body = body} k none =
    let P : List ℕ → Type 0 = λ bytes. AreSlices bytes k.slices in
    let all : slices_bytes k.slices ≡ body = sym (k.joins ∙ rw none (append-nil (slices_bytes k.slices))) in record {
      slices = k.slices;
      are = subst P all (are_all k.slices (rw none at k.come));
      same = k.same;
      noted = k.noted;
      bytes = k.bytes;
      changed = k.changed;
      out = k.out;
    }

-- whether an assignment was found among slices
found_known : (of : Change) (found : Bool) (slices : List Slice) (bytes : List ℕ) → AreChanged of found slices bytes →
    MatchBool found (¬ (NoneAssigns (key_of of) slices)) (NoneAssigns (key_of of) slices)
found_known of false slices bytes changed = changed.0
found_known of true slices bytes found =
    rw found.are (some_is (Assigning (key_of of)) found.before found.slice found.after found.assigns)

-- a fact that a refusal has follows from another
pub refused_as : {P Q : Reason → ℕ → Type 0} (e : Unedited) →
    ((reason : Reason) (line : ℕ) → P reason line → Q reason line) → IsRefused P e → IsRefused Q e
refused_as (Refused refusal) weaker is = weaker refusal.reason refusal.line is
refused_as (Memory failed) weaker is = tt

-- a line that was taken is refused
pub line_refused : {A : Type 0} {body : List ℕ} {lines next : LinesState} {old now read : Editing A}
    {code : SliceInCode} (found : Assignment) (e : Unedited) → ChangesSoFar body lines old now →
    TakesSlice lines code next → LineIsRead (chars next.text) code (Some found) now read →
    IsRefused (λ reason line.
    RefusesChange read.change read.is_found (texts_of found.spot) reason × (line ≡ found.slice.first)) e →
    IsRefused (RefusesLine old.change body) e
line_refused {body = body} {lines} {next} {old} {now} {read} {code} found e k takes is refused =
    refused_as e (λ reason line (refuses, at_line).
    let slice = taken takes in
    let (assigns, is_code, is_slice) = rw k.same at (is.finds slice (refl, takes.is_kind)) in
    let spot : SpotOf old.change slice (texts_of found.spot) = rw is_slice (spot_found assigns) in record {
      place = record {
        before = k.slices;
        slice = slice;
        later = next.left;
        cut = k.joins ∙ ap (◌++◌ (slices_bytes k.slices)) takes.cut;
        come = (lines_more k takes).come;
      };
      line_is = at_line ∙ ap (λ c. c.first) is_code ∙ line_here k takes;
      text = spot.text;
      is_text = spot.is_text;
      spot = texts_of found.spot;
      is_spot = spot.is_spot;
      found = now.is_found;
      known = found_known old.change now.is_found k.slices k.bytes k.changed;
      refuses = rw (ap (λ e. e.change) is.same, ap (λ e. e.is_found) is.same, k.same) at refuses;
    }) refused

-- What the loop over lines knows of a slice that was taken.
-- a slice that was taken is the next one of some bytes
pub read_next : {old new : LinesState} {code : SliceInCode} (text : List ℕ) → text ≡ new.text →
    TakesSlice old code new → IsRead code (chars text)
read_next {new = new} text same takes =
    rw same (taken takes, new.left, (refl, takes.is_kind), takes.is_next)

-- less is left after a slice that was taken
pub less_left : {old new : LinesState} {code : SliceInCode} → TakesSlice old code new →
    length new.left < length old.left
less_left {old = old} {new = new} {code = code} takes =
    at code.bytes.now takes.is_next.0 (ap length takes.cut)
  where
    at : (bytes : List ℕ) → bytes ≢ [] → length old.left ≡ length (bytes ++ new.left) →
        length new.left < length old.left
    at [] some e = absurd (some refl)
    at (c ∷ bytes) some e = omega (arith, e, length-append (c ∷ bytes) new.left)

-- a line was read, whose text is told by the lines
pub line_is_read : {A : Type 0} {code : SliceInCode} {found : Option Assignment} {now read : Editing A}
    (text other : List ℕ) → text ≡ other → read ≡ record now { notes = read.notes; telling = read.telling } →
    ((line : Slice) → IsSlice code (chars text) line → NotesLine now.change line code.first now.notes read.notes) →
    ((line : Slice) → IsSlice code (chars text) line → FindsAssignment now.change code line found) →
    LineIsRead (chars other) code found now read
line_is_read text other e same notes finds = rw (← e) (record { same = same; notes = notes; finds = finds })

-- an assignment that was found in a slice that was taken
pub found_here : {A : Type 0} {old new : LinesState} {code : SliceInCode} {found : Assignment} {now read : Editing A} →
    TakesSlice old code new → LineIsRead (chars new.text) code (Some found) now read → IsAssignment read.change found
found_here takes is =
    rw (ap (λ e. e.change) is.same) ((is.finds (taken takes) (refl, takes.is_kind)).0)
