-- What all lines of a body are changed to, by the definitions of the three edits, and why they are refused.
use Rattle.std.proofs.Common.{◌≡◌, ◌≢◌, ℕ, ◌⊎◌, inl, inr, Bool, true, false, not, List, [], ◌∷◌, ◌++◌}
use Rattle.std.proofs.Common.{IsTrue, Some, None, refl, sym, ap, ◌∙◌, subst, append_assoc, append-nil}
use Rattle.std.specs.Prelude.{MatchBool, if◌then◌else◌}
use Rattle.std.specs.Str.{chars}
use Rattle.std.proofs.lemmas.Bool.{cases_Bool}
use denote.Ref.{Bor}
use Rattle.dotenvy.specs.Dialect.{Dialect}
use Rattle.dotenvy.specs.LogicalLine.{Logical, Skip, HasText, StaysOpen, Broken, IsOpenEnd}
use Rattle.dotenvy.specs.Marks.{byte_order_mark, without_mark}
use Rattle.dotenvy_format.specs.Characters.{carriage_return, line_feed}
use Rattle.dotenvy_format.proofs.lines.NextLine.{ends_line}
use Rattle.dotenvy_editor.specs.declared.change.Change.{Change}
use Rattle.dotenvy_editor.specs.declared.change.Change.TheVariants.{Set, Unset, Rename}
use Rattle.dotenvy_editor.specs.declared.editing.Editing.{Editing}
use Rattle.dotenvy_editor.specs.declared.notes.Last.{Last}
use Rattle.dotenvy_editor.specs.declared.notes.Last.TheVariants.{Closed, Fault, Open}
use Rattle.dotenvy_editor.specs.declared.refusal.Reason.{Reason}
use Rattle.dotenvy_editor.specs.declared.refusal.Reason.TheVariants.{LongComment, Present}
use Rattle.dotenvy_editor.specs.declared.refusal.Reason.TheVariants as reason
use Rattle.dotenvy_editor.specs.declared.writing.Setting.{Setting}
use Rattle.dotenvy_editor.specs.Assignments.{AreOthers, Assigning, IsUnreadable, NoneAssigns}
use Rattle.dotenvy_editor.specs.Edits.{IsGapAfter, Renames, RenamesAll, Sets, Unsets}
use Rattle.dotenvy_editor.specs.Edits.{behind_line, has_mark, mark_of}
use Rattle.dotenvy_editor.specs.Ends.{QuotesReturn, IsGap, ends_in, feed, return_feed}
use Rattle.dotenvy_editor.specs.Forms.{is_long, is_nil}
use Rattle.dotenvy_editor.specs.Refusals.{AtFirst, CannotRead, IsAbsent, OpensWith, Place, RefusesRename, RefusesSet}
use Rattle.dotenvy_editor.specs.Refusals.{RefusesUnset}
use Rattle.dotenvy_editor.specs.Slices.{AreSlices, ComeBefore, HasLine, IsNextSlice, NoneIs, Slice}
use Rattle.dotenvy_editor.specs.Slices.{line_after, slices_bytes}
use Rattle.dotenvy_editor.specs.inside.Changing.{key_of}
use Rattle.dotenvy_editor.specs.inside.Changed.{AppendsLine, ChangesAll, ChangesFound, IsShut}
use Rattle.dotenvy_editor.specs.inside.Changed.{RefusesAppend, RefusesChange, RefusesLine, RefusesNone}
use Rattle.dotenvy_editor.specs.inside.Changed.{end_after, gap_after, kept}
use Rattle.dotenvy_editor.specs.inside.Noted.{AreLast, IsFirstOf, IsLast, OpensFor}
use Rattle.dotenvy_editor.proofs.ChangedLines.{renames_behind}
use Rattle.dotenvy_editor.proofs.NotedLines.{slices_bytes-append}
use Rattle.dotenvy_editor.proofs.SlicesAlone.{whole_ends_line}
use Rattle.dotenvy_editor.proofs.WrittenLater.{writes_before}

-- Slices in three parts.
-- the bytes of all slices
pub all_bytes : (body : List ℕ) (slices : List Slice) → AreSlices body slices → body ≡ slices_bytes slices
all_bytes body [] are = are
all_bytes body (slice ∷ slices) (later, cut, next, are) =
    cut ∙ ap (◌++◌ slice.bytes) (all_bytes later slices are)

-- the slice that comes after others is the next one of the bytes from there on
pub next_behind : (body : List ℕ) (before : List Slice) (slice : Slice) (after : List Slice) →
    AreSlices body (before ++ slice ∷ after) → IsNextSlice slice.bytes slice.logical (slices_bytes after)
next_behind body [] slice after (later, cut, next, are) =
    let P : List ℕ → Type 0 = λ bytes. IsNextSlice slice.bytes slice.logical bytes in
    subst P (all_bytes later after are) next
next_behind body (first ∷ before) slice after (later, cut, next, are) = next_behind later before slice after are

-- slices come before the bytes of those after them
pub come_front : (body : List ℕ) (before : List Slice) (slice : Slice) (after : List Slice) →
    AreSlices body (before ++ slice ∷ after) → ComeBefore (before ++ slice ∷ []) (slices_bytes after)
come_front body [] slice after are = (next_behind body [] slice after are, tt)
come_front body (first ∷ before) slice after (later, cut, next, are) =
    let P : List ℕ → Type 0 = λ bytes. IsNextSlice first.bytes first.logical bytes in
    let all : later ≡ slices_bytes (before ++ slice ∷ []) ++ slices_bytes after =
    all_bytes later (before ++ slice ∷ after) are
    ∙ ap slices_bytes (sym (append_assoc before (slice ∷ []) after))
    ∙ slices_bytes-append (before ++ slice ∷ []) after in
    (subst P all next, come_front later before slice after are)

-- the place of a slice among all slices
abbrev pub place_at : (body : List ℕ) (before : List Slice) (slice : Slice) (after : List Slice) →
    AreSlices body (before ++ slice ∷ after) → Place body
place_at body before slice after are = record {
  before = before;
  slice = slice;
  later = slices_bytes after;
  cut = all_bytes body (before ++ slice ∷ after) are ∙ slices_bytes-append before (slice ∷ after);
  come = come_front body before slice after are;
}

-- the others of slices that have no bytes are none
others_some : (key : List ℕ) (slices others : List Slice) → AreOthers key slices others → slices_bytes slices ≡ [] →
    slices_bytes others ≡ []
others_some key [] others are none = rw are refl
others_some key (slice ∷ slices) others (inl (assigns, are)) none =
    others_some key slices others are (behind slice.bytes (slices_bytes slices) none)
  where
    behind : (xs ys : List ℕ) → xs ++ ys ≡ [] → ys ≡ []
    behind [] ys e = e
    behind (x ∷ xs) ys e = cc
others_some key (slice ∷ slices) others (inr (not, later, is, are)) none =
    rw is (both slice.bytes (slices_bytes slices) (slices_bytes later) none (others_some key slices later are))
  where
    both : (xs ys zs : List ℕ) → xs ++ ys ≡ [] → (ys ≡ [] → zs ≡ []) → xs ++ zs ≡ []
    both [] ys zs e f = f e
    both (x ∷ xs) ys zs e f = cc

-- where others are kept after a slice, it ends with a line feed
ends_for : (key : List ℕ) (body : List ℕ) (before : List Slice) (slice : Slice) (after others : List Slice) →
    AreSlices body (before ++ slice ∷ after) → AreOthers key after others → slices_bytes others ≢ [] →
    ends_line slice.bytes ≡ true
ends_for key body before slice after others are are_others some =
    let next = next_behind body before slice after are in
    whole_ends_line slice.bytes (slices_bytes after) next.0
    (λ none. some (others_some key after others are_others none)) next.1

-- the line of a slice that is a text
line_of : (bytes : List ℕ) (logical : Logical) (text later : List ℕ) → logical ≡ HasText text →
    IsNextSlice bytes logical later → HasLine bytes text
line_of bytes logical text later is next =
    let P : Logical → Type 0 = λ logical. IsNextSlice bytes logical later in (later, subst P is next)

-- The ends of a body.
-- after a last slice that isn't open
gap_behind : (body : List ℕ) (before : List Slice) (slice : Slice) (gap : List ℕ) → ¬ (IsOpenEnd slice.logical) →
    IsGap body slice.logical gap → IsGapAfter body (before ++ slice ∷ []) gap
gap_behind body [] slice gap closed is = (closed, is)
gap_behind body (first ∷ []) slice gap closed is = (closed, is)
gap_behind body (first ∷ next ∷ before) slice gap closed is = gap_behind body (next ∷ before) slice gap closed is

-- a fault that quotes a carriage return isn't open
fault_closed : (logical : Logical) → QuotesReturn logical → ¬ (IsOpenEnd logical)
fault_closed Skip fault is_open = is_open
fault_closed (HasText text) fault is_open = is_open
fault_closed (StaysOpen text index) fault is_open = fault
fault_closed Broken fault is_open = fault

-- a last line that is shut isn't open
shut_closed : (slice : Slice) (line : ℕ) (last : Last) → IsShut last → IsLast slice line last →
    ¬ (IsOpenEnd slice.logical)
shut_closed slice line Closed shut is = is.0
shut_closed slice line Fault shut is = fault_closed slice.logical is
shut_closed slice line (Open why first) shut is = absurd shut

-- the gap of the code is one of the definition, after a last line that is shut
gap_is : (body : List ℕ) (slice : Slice) (line : ℕ) (last : Last) → body ≢ [] → IsShut last → IsLast slice line last →
    IsGap body slice.logical (gap_after body last)
gap_is [] slice line last some shut is = absurd (some refl)
gap_is (c ∷ bytes) slice line last some shut is =
    let body = c ∷ bytes in
    elim (cases_Bool (ends_in line_feed body)) [
      | inl fed ↦ rw fed (inl (refl, refl))
      | inr not ↦
          elim (cases_Bool (ends_in carriage_return body)) [
            | inl returned ↦ rw (not, returned) (inr (inl (refl, after last shut is)))
            | inr neither ↦ rw (not, neither) (inr (inr (refl, refl)))
          ]
    ]
  where
    after : (last : Last) → IsShut last → IsLast slice line last →
        (QuotesReturn slice.logical × (end_after last ≡ return_feed))
        ⊎ (¬ (QuotesReturn slice.logical) × (end_after last ≡ feed))
    after Closed shut is = inr (is.1, refl)
    after Fault shut is = inl (is, refl)
    after (Open why first) shut is = absurd shut

-- the gap of the code is one of the definition
gap_after_all : (body : List ℕ) (slices : List Slice) (last : Last) → AreSlices body slices → IsShut last →
    AreLast slices last → IsGapAfter body slices (gap_after body last)
gap_after_all body slices last are shut (inl (none, closed)) =
    let empty : body ≡ [] = rw none at are in rw (none, empty) refl
gap_after_all body slices last are shut (inr (before, slice, split, is)) =
    let are_split = rw split at are in
    let next = next_behind body before slice [] are_split in
    let some : body ≢ [] = λ e.
    next.0 (last_nil (slices_bytes before) slice.bytes
    (sym (all_bytes body (before ++ slice ∷ []) are_split ∙ slices_bytes-append before (slice ∷ [])
    ∙ ap (◌++◌ (slices_bytes before)) (append-nil slice.bytes)) ∙ e)) in
    rw split (gap_behind body before slice (gap_after body last) (shut_closed slice (line_after before) last shut is)
    (gap_is body slice (line_after before) last some shut is))
  where
    last_nil : (xs ys : List ℕ) → xs ++ ys ≡ [] → ys ≡ []
    last_nil [] ys e = e
    last_nil (x ∷ xs) ys e = cc

-- What is made of a body.
-- a body with an assignment is set
pub sets_found : {A : Type 0} (setting : Setting) (bytes : List ℕ) (old new : Editing A) →
    old.change ≡ Set setting → old.out.items ≡ mark_of bytes → new.is_found ≡ true →
    ChangesAll (without_mark bytes) old new →
    Sets setting.how (chars setting.key.now) (chars setting.value.now) bytes new.out.items
sets_found setting bytes old new is start found all =
    let changed : ChangesFound (Set setting) all.slices all.bytes = rw (is, found) at all.changed in
    let from = changed.changes in
    let body = without_mark bytes in
    let are = rw changed.are at all.are in
    let next = next_behind body changed.before changed.slice changed.after are in (
      all.bytes,
      inl (record {
        before = changed.before;
        slice = changed.slice;
        after = changed.after;
        are = are;
        none_before = changed.none_before;
        text = from.text;
        is_text = from.is_text;
        spot = from.spot;
        is_spot = from.is_spot;
        others = from.others;
        are_others = from.are_others;
        none_long = from.none_long;
        line = from.line;
        writes = writes_before (slices_bytes from.others) from.is_spot
            (line_of changed.slice.bytes changed.slice.logical from.text (slices_bytes changed.after) from.is_text next)
            (ends_for (chars setting.key.now) body changed.before changed.slice changed.after from.others are
            from.are_others) from.writes;
        new_is = changed.bytes_is ∙ ap (◌++◌ (slices_bytes changed.before)) from.bytes_is;
      }),
      rw (is, start) at all.out,
    )

-- a body without an assignment is set, where a line is appended
pub sets_absent : {A : Type 0} (setting : Setting) (bytes out : List ℕ) (old new : Editing A) →
    old.change ≡ Set setting → old.out.items ≡ mark_of bytes → new.is_found ≡ false →
    ChangesAll (without_mark bytes) old new →
    AppendsLine setting new.notes (without_mark bytes) new.out.items out →
    Sets setting.how (chars setting.key.now) (chars setting.value.now) bytes out
sets_absent setting bytes out old new is start found all appends =
    let (none, kept_all) = rw (is, found) at all.changed in
    let body = without_mark bytes in
    let whole : all.bytes ≡ body = kept_all ∙ sym (all_bytes body all.slices all.are) in (
      body ++ (gap_after body new.notes.last ++ appends.line),
      inr (record {
        slices = all.slices;
        are = all.are;
        none = none;
        readable = rw (appends.readable, is) at all.noted.unreadable;
        gap = gap_after body new.notes.last;
        is_gap = gap_after_all body all.slices new.notes.last all.are appends.shut all.noted.last;
        line = appends.line;
        writes = appends.writes;
        new_is = refl;
      }),
      appends.out
          ∙ ap (λ front. front ++ (gap_after body new.notes.last ++ appends.line)) (rw (is, start, whole) at all.out)
          ∙ append_assoc (mark_of bytes) body (gap_after body new.notes.last ++ appends.line),
    )

-- bytes after the mark, or nothing, as an unset shows them
shown : (name : Bor (List ℕ)) (dialect : Dialect) (bytes kept_bytes : List ℕ) →
    mark_of bytes ++ kept (Unset name dialect) (is_nil (mark_of bytes)) kept_bytes
    ≡ (if has_mark bytes then byte_order_mark ++ kept_bytes else behind_line kept_bytes)
shown name dialect bytes kept_bytes = elim (cases_Bool (has_mark bytes)) [
  | inl is ↦ rw is refl
  | inr not ↦ rw not refl
]

-- a body with an assignment is unset
pub unsets : {A : Type 0} (name : Bor (List ℕ)) (dialect : Dialect) (bytes : List ℕ) (old new : Editing A) →
    old.change ≡ Unset name dialect → old.out.items ≡ mark_of bytes → new.is_found ≡ true →
    ChangesAll (without_mark bytes) old new → Unsets dialect (chars name.now) bytes new.out.items
unsets name dialect bytes old new is start found all =
    let changed : ChangesFound (Unset name dialect) all.slices all.bytes = rw (is, found) at all.changed in
    let (none, others, are_others, later) = changed.changes in
    let whole : all.bytes ≡ slices_bytes (changed.before ++ others) =
    changed.bytes_is ∙ ap (◌++◌ (slices_bytes changed.before)) later
    ∙ sym (slices_bytes-append changed.before others) in record {
      before = changed.before;
      slice = changed.slice;
      after = changed.after;
      are = rw changed.are at all.are;
      none_before = changed.none_before;
      assigns = changed.assigns;
      none_long = none;
      later = others;
      are_others = are_others;
      new_is =
          (rw (is, start, whole) at all.out)
          ∙ shown name dialect bytes (slices_bytes (changed.before ++ others));
    }

-- a body with an assignment, in which none assigns the new key, is renamed
pub renames : {A : Type 0} (from to : Bor (List ℕ)) (dialect : Dialect) (bytes : List ℕ) (old new : Editing A) →
    old.change ≡ Rename from to dialect → old.out.items ≡ mark_of bytes → new.is_found ≡ true →
    new.notes.present ≡ None → ChangesAll (without_mark bytes) old new →
    Renames (chars from.now) (chars to.now) bytes new.out.items
renames from to dialect bytes old new is start found absent all =
    let changed : ChangesFound (Rename from to dialect) all.slices all.bytes = rw (is, found) at all.changed in
    let none : NoneAssigns (chars to.now) all.slices = rw (is, absent) at all.noted.present in (
      all.bytes,
      record {
        before = changed.before;
        slice = changed.slice;
        after = changed.after;
        are = rw changed.are at all.are;
        assigns = changed.assigns;
        none = rw changed.are at none;
        renames =
            let P : List ℕ → Type 0 = λ made.
            RenamesAll (chars from.now) (chars to.now) (changed.before ++ changed.slice ∷ changed.after) made in
            subst P (sym changed.bytes_is)
            (renames_behind (chars from.now) (chars to.now) changed.before (changed.slice ∷ changed.after) changed.later
            changed.none_before changed.changes);
      },
      rw (is, start) at all.out,
    )

-- Why an edit is refused.
-- a setting refuses a line
pub set_refuses : (setting : Setting) (bytes : List ℕ) (why : Reason) (line : ℕ) →
    RefusesLine (Set setting) (without_mark bytes) why line →
    RefusesSet setting.how (chars setting.key.now) (chars setting.value.now) bytes why line
set_refuses setting bytes why line r = at r.found r.known r.refuses
  where
    at : (found : Bool) →
        MatchBool found (¬ (NoneAssigns (chars setting.key.now) r.place.before))
        (NoneAssigns (chars setting.key.now) r.place.before) → RefusesChange (Set setting) found r.spot why →
        RefusesSet setting.how (chars setting.key.now) (chars setting.value.now) bytes why line
    at false none (inl (is, portable, white), nowhere) =
        rw is (portable, (r.place, none, (r.text, r.spot, r.is_text, r.is_spot, white), r.line_is))
    at false none (inr (inl (is, portable, spaced, empty)), nowhere) =
        rw is (portable, (r.place, none, (r.text, r.spot, r.is_text, r.is_spot, (spaced, empty)), r.line_is))
    at false none (inr (inr (is, some)), nowhere) =
        rw is (inl (r.place, none, (r.text, r.spot, r.is_text, r.is_spot, some, nowhere), r.line_is))
    at true known (is, long) =
        rw is (inr (
          r.place,
          known,
          record {
            text = r.text;
            is_text = r.is_text;
            spot = r.spot;
            is_spot = r.is_spot;
            holds = long;
          },
          r.line_is,
        ))

-- an unset refuses a line
pub unset_refuses : (name : Bor (List ℕ)) (dialect : Dialect) (bytes : List ℕ) (why : Reason) (line : ℕ) →
    RefusesLine (Unset name dialect) (without_mark bytes) why line →
    RefusesUnset dialect (chars name.now) bytes why line
unset_refuses name dialect bytes why line r =
    let refuses : (why ≡ LongComment) × IsTrue (is_long r.spot.rest) = r.refuses in
    rw refuses.0 (
      r.place,
      tt,
      record {
        text = r.text;
        is_text = r.is_text;
        spot = r.spot;
        is_spot = r.is_spot;
        holds = refuses.1;
      },
      r.line_is,
    )

-- the line that is noted is the first of all slices of which P holds
first_place : (P : Slice → Type 0) (body : List ℕ) (slices : List Slice) (line : ℕ) → AreSlices body slices →
    IsFirstOf P slices (Some line) → AtFirst body (NoneIs P) P line
first_place P body slices line are (before, slice, after, split, none, is, at_line) =
    (place_at body before slice after (rw split at are), none, is, at_line)

-- a key that no line assigns, and the first line that begins with it and can't be read
cannot_read : {A : Type 0} (of : Change) (body : List ℕ) (line : ℕ) (old new : Editing A) → old.change ≡ of →
    new.is_found ≡ false → new.notes.unreadable ≡ Some line → ChangesAll body old new → CannotRead body (key_of of) line
cannot_read of body line old new is found noted all = (
  (all.slices, all.are, let changed = rw (is, found) at all.changed in changed.0),
  first_place (IsUnreadable (key_of of)) body all.slices line all.are (rw (noted, is) at all.noted.unreadable),
)

-- a key that no line assigns, or begins with and can't be read
absent : {A : Type 0} (of : Change) (body : List ℕ) (old new : Editing A) → old.change ≡ of →
    new.is_found ≡ false → new.notes.unreadable ≡ None → ChangesAll body old new → IsAbsent body (key_of of)
absent of body old new is found noted all = (
  all.slices,
  all.are,
  (let changed = rw (is, found) at all.changed in changed.0),
  rw (noted, is) at all.noted.unreadable,
)

-- an append is refused after a line that can't be read, or an open end
pub append_refuses : {A : Type 0} (setting : Setting) (bytes : List ℕ) (old new : Editing A) (why : Reason)
    (line : ℕ) → old.change ≡ Set setting → new.is_found ≡ false → ChangesAll (without_mark bytes) old new →
    RefusesAppend new.notes why line →
    RefusesSet setting.how (chars setting.key.now) (chars setting.value.now) bytes why line
append_refuses setting bytes old new why line is found all (inl (unread, noted)) =
    rw unread (cannot_read (Set setting) (without_mark bytes) line old new is found noted all)
append_refuses setting bytes old new why line is found all (inr (none, opens)) =
    behind (absent (Set setting) (without_mark bytes) old new is found none all) (rw opens at all.noted.last)
  where
    at : (why : Reason) (before : List Slice) (slice : Slice) → AreSlices (without_mark bytes) (before ++ slice ∷ []) →
        line ≡ line_after before → IsAbsent (without_mark bytes) (chars setting.key.now) →
        OpensWith (OpensFor why) slice →
        RefusesSet setting.how (chars setting.key.now) (chars setting.value.now) bytes why line
    at reason.QuoteOpen before slice are at_line none opens =
        (none, place_at (without_mark bytes) before slice [] are, opens, at_line)
    at reason.EndOpen before slice are at_line none opens =
        (none, place_at (without_mark bytes) before slice [] are, opens, at_line)
    at other before slice are at_line none opens = absurd opens.3

    behind : IsAbsent (without_mark bytes) (chars setting.key.now) → AreLast all.slices (Open why line) →
        RefusesSet setting.how (chars setting.key.now) (chars setting.value.now) bytes why line
    behind none (inl (nothing, e)) = cc
    behind none (inr (before, slice, split, (opens, at_line))) =
        at why before slice (rw split at all.are) at_line none opens

-- an unset of a key that is not there
pub unset_refuses_none : {A : Type 0} (name : Bor (List ℕ)) (dialect : Dialect) (bytes : List ℕ) (old new : Editing A)
    (why : Reason) (line : ℕ) → old.change ≡ Unset name dialect → new.is_found ≡ false →
    ChangesAll (without_mark bytes) old new → RefusesNone new.notes why line →
    RefusesUnset dialect (chars name.now) bytes why line
unset_refuses_none name dialect bytes old new why line is found all (inl (unread, noted)) =
    rw unread (cannot_read (Unset name dialect) (without_mark bytes) line old new is found noted all)
unset_refuses_none name dialect bytes old new why line is found all (inr (none, noted, zero)) =
    rw none (absent (Unset name dialect) (without_mark bytes) old new is found noted all, zero)

-- a rename of a key that is not there
pub rename_refuses_none : {A : Type 0} (from to : Bor (List ℕ)) (dialect : Dialect) (bytes : List ℕ)
    (old new : Editing A) (why : Reason) (line : ℕ) → old.change ≡ Rename from to dialect → new.is_found ≡ false →
    ChangesAll (without_mark bytes) old new → RefusesNone new.notes why line →
    RefusesRename (chars from.now) (chars to.now) bytes why line
rename_refuses_none from to dialect bytes old new why line is found all (inl (unread, noted)) =
    rw unread (cannot_read (Rename from to dialect) (without_mark bytes) line old new is found noted all)
rename_refuses_none from to dialect bytes old new why line is found all (inr (none, noted, zero)) =
    rw none (absent (Rename from to dialect) (without_mark bytes) old new is found noted all, zero)

-- a rename to a key that is there
pub rename_refuses : {A : Type 0} (from to : Bor (List ℕ)) (dialect : Dialect) (bytes : List ℕ)
    (old new : Editing A) (line : ℕ) → old.change ≡ Rename from to dialect → new.notes.present ≡ Some line →
    ChangesAll (without_mark bytes) old new →
    RefusesRename (chars from.now) (chars to.now) bytes Present line
rename_refuses from to dialect bytes old new line is noted all =
    first_place (Assigning (chars to.now)) (without_mark bytes) all.slices line all.are
    (rw (noted, is) at all.noted.present)
