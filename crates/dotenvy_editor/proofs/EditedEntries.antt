-- What edits do to the marked entries of a file.
use Rattle.std.proofs.Common.{◌≡◌, ◌≢◌, ℕ, false, List, [], ◌∷◌, ◌++◌, refl, sym, ◌∙◌}
use Rattle.std.proofs.Common.{append_assoc, append-nil, inl, inr}
use Rattle.std.specs.Prelude.{encode_utf8_all}
use Rattle.std.proofs.lemmas.Bool.{cases_Bool}
use Rattle.dotenvy_format.specs.declared.dialect.Dialect.{Dialect}
use Rattle.dotenvy_format.specs.Characters.{line_feed}
use Rattle.dotenvy_format.specs.LogicalLine.{HasText, line_end}
use Rattle.dotenvy_format.specs.Entries.{Declares, Gives}
use Rattle.dotenvy_format.specs.Marks.{byte_order_mark, without_mark}
use Rattle.dotenvy_format.specs.Outcome.{Nothing, Pair, trimmed}
use Rattle.dotenvy_format.specs.Value.{Piece}
use Rattle.dotenvy_format.proofs.lines.Cuts.{ten}
use Rattle.dotenvy_editor.specs.declared.writing.How.{How}
use Rattle.dotenvy_editor.specs.Assignments.{AreOthers, AssignsKey, IsSpot, NoneAssigns, Spot}
use Rattle.dotenvy_editor.specs.Edits.{IsGapAfter, Sets, SetsAbsent, SetsAssigned, SetsBody, Unsets, behind_line}
use Rattle.dotenvy_editor.specs.Edits.{has_mark}
use Rattle.dotenvy_editor.specs.Laws.{Marked, GiveAllMarked, HasMarked, unassigned, with_assigned}
use Rattle.dotenvy_editor.specs.Lines.{IsFirst, IsWritten, MeansText, WritesLine, tried_lines}
use Rattle.dotenvy_editor.specs.Slices.{Slice, slices_bytes}
use Rattle.dotenvy_editor.proofs.SlicesAlone.{alone_of}
use Rattle.dotenvy_editor.proofs.SlicesChained.{AreChained, IsAlone, IsClosed, bytes-append, chain_of, chain_others}
use Rattle.dotenvy_editor.proofs.SlicesChained.{chain_join, chain_parts, chain_put, closed_before, logicals}
use Rattle.dotenvy_editor.proofs.SlicesChained.{slices_are, slices_of}
use Rattle.dotenvy_editor.proofs.SliceTexts.{alone_text}
use Rattle.dotenvy_editor.proofs.SlicesEnded.{ended_slices}
use Rattle.dotenvy_editor.proofs.EntriesMarked.{append_marked, marked_are, marked_of, others_marked, put_marked}
use Rattle.dotenvy_editor.proofs.EntriesMarked.{statement_some}
use Rattle.dotenvy_editor.proofs.FileMarks.{behind_unmarked, mark_kept, mark_line, statement_unmarked}

-- An empty line.
-- a line feed alone is a slice
abbrev empty_line : Slice
empty_line = record { bytes = line_feed ∷ []; logical = HasText [] }

-- a line feed alone is the empty text
empty_alone : IsAlone empty_line
empty_alone =
    alone_text (line_feed ∷ []) [] (λ e. cc) (record {
      text = line_feed ∷ [];
      spells = sym (ten line_feed [] refl);
      are_scalars = refl;
      shown = λ h. cc;
      whole = record { tokens = []; ending = line_end; are_tokens = tt; is_ending = tt; spelled = refl; cut = refl };
    })

-- an empty line gives no entries
empty_gives : (dialect : Dialect) (key : List ℕ) (slices : List Slice) (marked : List Marked) →
    GiveAllMarked dialect key (logicals slices) marked →
    GiveAllMarked dialect key (logicals (empty_line ∷ slices)) marked
empty_gives dialect key slices marked give =
    ([], marked, ([], (Nothing, refl, refl), inr (λ assigns. let some = assigns.0 in cc, refl)), give, refl)

-- after an empty line, where they would begin with a mark, slices have the same entries
behind_marked : (dialect : Dialect) (key : List ℕ) (slices : List Slice) (marked : List Marked) → AreChained slices →
    GiveAllMarked dialect key (logicals slices) marked →
    HasMarked dialect key (without_mark (behind_line (slices_bytes slices))) marked
behind_marked dialect key slices marked chain give = elim (cases_Bool (has_mark (slices_bytes slices))) [
  | inl h ↦
      rw h (marked_are dialect key (line_feed ∷ slices_bytes slices) (empty_line ∷ slices) marked
      (slices_of (empty_line ∷ slices) (empty_alone, λ some. (refl, λ h. h), chain))
      (empty_gives dialect key slices marked give))
  | inr h ↦ rw (h, h) (marked_are dialect key (slices_bytes slices) slices marked (slices_of slices chain) give)
]

-- slices none of which assigns the key are all left where others are gone
others_behind : (key : List ℕ) (before slices others : List Slice) → NoneAssigns key before →
    AreOthers key slices others → AreOthers key (before ++ slices) (before ++ others)
others_behind key [] slices others none are = are
others_behind key (slice ∷ before) slices others (differs, none) are =
    inr (differs, before ++ others, refl, others_behind key before slices others none are)

-- an unset leaves the entries of the lines that don't assign the key
pub unsets_all : (dialect : Dialect) (key old new : List ℕ) (marked : List Marked) → Unsets dialect key old new →
    HasMarked dialect key (without_mark old) marked → HasMarked dialect key (without_mark new) (unassigned marked)
unsets_all dialect key old new marked u has =
    let all = u.before ++ u.slice ∷ u.after in
    let kept = u.before ++ u.later in
    let others =
    others_behind key u.before (u.slice ∷ u.after) u.later u.none_before (inl (u.assigns, u.are_others)) in
    let chain = chain_of (without_mark old) all u.are in
    let rest = chain_others key all kept others chain.1 in
    let give = others_marked dialect key all kept marked others
    (marked_of dialect key (without_mark old) all marked u.are has) in
    elim (cases_Bool (has_mark old)) [
      | inl h ↦
          let is : new ≡ byte_order_mark ++ slices_bytes kept = rw h at u.new_is in
          rw is
          (marked_are dialect key (slices_bytes kept) kept (unassigned marked) (slices_of kept rest.0) give)
      | inr h ↦
          let is : new ≡ behind_line (slices_bytes kept) = rw h at u.new_is in
          rw is (behind_marked dialect key kept (unassigned marked) rest.0 give)
    ]

-- an unset keeps a mark, and makes none
pub unset_mark : (dialect : Dialect) (key old new : List ℕ) → Unsets dialect key old new → has_mark new ≡ has_mark old
unset_mark dialect key old new u =
    let kept = u.before ++ u.later in
    elim (cases_Bool (has_mark old)) [
      | inl h ↦ let is : new ≡ byte_order_mark ++ slices_bytes kept = rw h at u.new_is in rw (is, h) refl
      | inr h ↦
          let is : new ≡ behind_line (slices_bytes kept) = rw h at u.new_is in
          rw (is, h) (behind_unmarked (slices_bytes kept))
    ]

-- The line that a setting writes.
-- the first text of which P holds is one of which it holds
pub first_is : (P : List ℕ → Type 0) (texts : List (List ℕ)) (text : List ℕ) → IsFirst P texts text → P text
first_is P [] text is = absurd is
first_is P (first ∷ others) text (inl (holds, e)) = rw e holds
first_is P (first ∷ others) text (inr (differs, is)) = first_is P others text is

-- the line that is written gives the key the value
pub written_is : {how : How} {key value : List ℕ} {spot : Spot} {later line : List ℕ} →
    WritesLine how key value spot later line → IsWritten how.dialect key value line later
written_is {how} {key} {value} {spot} {later} w =
    rw w.bytes
    (first_is (λ t. IsWritten how.dialect key value (encode_utf8_all t) later) (tried_lines how value spot) w.text
    w.first)

-- a written line is an assignment of the key
pub written_assigns : {dialect : Dialect} {key value line later : List ℕ} (w : IsWritten dialect key value line later) →
    AssignsKey key (HasText w.text)
written_assigns w = let says = w.says in (says.0, says.1, says.2)

-- a written line gives the key its pieces
pub written_gives : {dialect : Dialect} {key value line later : List ℕ} (w : IsWritten dialect key value line later) →
    Gives dialect (HasText w.text) (Declares key w.pieces ∷ [])
written_gives {key = key} w = (Pair key w.pieces, w.says, refl)

-- a written line as a slice
abbrev pub written_slice : {dialect : Dialect} {key value line later : List ℕ} →
    IsWritten dialect key value line later → Slice
written_slice {line = line} w = record { bytes = line; logical = HasText w.text }

-- a line with the spot of a value is an assignment
spot_assigns : {dialect : Dialect} {key text : List ℕ} {slice : Slice} {spot : Spot} →
    slice.logical ≡ HasText text → IsSpot dialect key text slice.bytes spot → AssignsKey key slice.logical
spot_assigns {key = key} {text = text} e is =
    rw e (statement_some (trimmed text) key is.assigned is.statement, is.assigned, is.statement)

-- a setting of a key that is there gives it one entry in the place of the first assignment
pub assigned_marked : {how : How} {key value body new : List ℕ} (s : SetsAssigned how key value body new)
    (marked : List Marked) → HasMarked how.dialect key body marked →
    (pieces : List Piece) × MeansText pieces value
    × HasMarked how.dialect key new (with_assigned (Declares key pieces) marked)
assigned_marked {how} {key} {value} {body} {new} s marked has =
    let w = written_is s.writes in
    let slice = written_slice w in
    let all = s.before ++ s.slice ∷ s.after in
    let chain = chain_of body all s.are in
    let parts = chain_parts s.before (s.slice ∷ s.after) chain.1 in
    let after = parts.2 in
    let others = chain_others key s.after s.others s.are_others after.2 in
    let closed = closed_before slice s.others others.0 (λ h. h) w.next in
    let put = chain_put s.before s.slice slice s.after s.others chain.1
    (alone_of slice.bytes (slices_bytes s.others) slice.logical w.next) closed others.0 in
    let spelled : new ≡ slices_bytes (s.before ++ slice ∷ s.others) =
    s.new_is ∙ sym (bytes-append s.before (slice ∷ s.others)) in (
      w.pieces,
      w.means,
      marked_are how.dialect key new (s.before ++ slice ∷ s.others) (with_assigned (Declares key w.pieces) marked)
          (slices_are new (s.before ++ slice ∷ s.others) spelled put)
          (put_marked how.dialect key slice w.pieces (written_gives w) (written_assigns w) s.before s.slice s.after
          s.others marked s.none_before (spot_assigns s.is_text s.is_spot) s.are_others
          (marked_of how.dialect key body all marked s.are has)),
    )

-- the first slice decides whether bytes have a mark, where others may follow it
pub first_unmarked : (slice : Slice) (later more : List ℕ) → IsClosed slice → has_mark (slice.bytes ++ later) ≡ false →
    has_mark (slice.bytes ++ more) ≡ false
first_unmarked slice later more closed h =
    mark_line slice.bytes more closed.0 ∙ sym (mark_line slice.bytes later closed.0) ∙ h

-- a list with an element isn't empty
some_behind : {A : Type 0} (xs : List A) (y : A) (ys : List A) → xs ++ y ∷ ys ≢ []
some_behind [] y ys e = cc
some_behind (x ∷ xs) y ys e = cc

-- a setting of a key that is there makes no mark
pub assigned_unmarked : {how : How} {key value body new : List ℕ} (s : SetsAssigned how key value body new) →
    has_mark body ≡ false → has_mark new ≡ false
assigned_unmarked {how} {key} {value} {body} {new} s none =
    let w = written_is s.writes in
    let chain = chain_of body (s.before ++ s.slice ∷ s.after) s.are in
    let says = w.says in
    rw s.new_is (at s.before (rw chain.0 at none) chain.1 (λ more.
    statement_unmarked s.line more w.text key says.1 (alone_of s.line (slices_bytes s.others) (HasText w.text) w.next)
    says.2))
  where
    at : (before : List Slice) → has_mark (slices_bytes (before ++ s.slice ∷ s.after)) ≡ false →
        AreChained (before ++ s.slice ∷ s.after) → ((more : List ℕ) → has_mark (s.line ++ more) ≡ false) →
        has_mark (slices_bytes before ++ (s.line ++ slices_bytes s.others)) ≡ false
    at [] none chain line = line (slices_bytes s.others)
    at (slice ∷ before) none (alone, closed, chain) line =
        let follow = closed (some_behind before s.slice s.after) in
        rw append_assoc (first_unmarked slice (slices_bytes (before ++ s.slice ∷ s.after))
        (slices_bytes before ++ (s.line ++ slices_bytes s.others)) follow none)

-- a setting of a key that isn't there gives it one entry at the end
pub absent_marked : {how : How} {key value body new : List ℕ} (s : SetsAbsent how key value body new)
    (marked : List Marked) → HasMarked how.dialect key body marked →
    (pieces : List Piece) × MeansText pieces value
    × HasMarked how.dialect key new (with_assigned (Declares key pieces) marked)
absent_marked {how} {key} {value} {body} {new} s marked has =
    let w = written_is s.writes in
    let slice = written_slice w in
    let chain = chain_of body s.slices s.are in
    let e = ended_slices how.dialect key [] body s.gap s.slices chain.0 chain.1 s.is_gap in
    let spelled : new ≡ slices_bytes (e.ended ++ slice ∷ []) =
    rw (bytes-append e.ended (slice ∷ []), e.spelled, append-nil s.line, append_assoc, ← chain.0) s.new_is in (
      w.pieces,
      w.means,
      marked_are how.dialect key new (e.ended ++ slice ∷ []) (with_assigned (Declares key w.pieces) marked)
          (slices_are new (e.ended ++ slice ∷ []) spelled
          (chain_join e.ended (slice ∷ []) e.chain (λ some. e.closed) (w.next, λ some. absurd (some refl), tt)))
          (append_marked how.dialect key slice w.pieces (written_gives w) (written_assigns w) s.slices e.ended marked
          s.none e.same (marked_of how.dialect key body s.slices marked s.are has)),
    )

-- a setting of a key that isn't there makes no mark
pub absent_unmarked : {how : How} {key value body new : List ℕ} (s : SetsAbsent how key value body new) →
    has_mark body ≡ false → has_mark new ≡ false
absent_unmarked {how} {key} {value} {body} {new} s none =
    let w = written_is s.writes in
    let says = w.says in
    let chain = chain_of body s.slices s.are in
    let e = ended_slices how.dialect key [] body s.gap s.slices chain.0 chain.1 s.is_gap in
    let line = statement_unmarked s.line [] w.text key says.1 w.next says.2 in
    rw s.new_is (at s.slices s.is_gap chain.0 e.unmarked (rw (append-nil s.line) at line))
  where
    at : (slices : List Slice) → IsGapAfter body slices s.gap → body ≡ slices_bytes slices →
        (slices ≢ [] → (later : List ℕ) → has_mark (body ++ (s.gap ++ later)) ≡ has_mark body) →
        has_mark s.line ≡ false → has_mark (body ++ (s.gap ++ s.line)) ≡ false
    at [] is e unmarked line = rw (e, is) line
    at (slice ∷ slices) is e unmarked line = unmarked (λ k. cc) s.line ∙ none

-- bytes without a mark have none without it
pub without_mark_none : (bytes : List ℕ) → has_mark bytes ≡ false → has_mark (without_mark bytes) ≡ false
without_mark_none bytes h = rw (h, h) refl

-- a setting makes no mark
set_unmarked : (how : How) (key value body new : List ℕ) → has_mark body ≡ false →
    SetsBody how key value body new → has_mark new ≡ false
set_unmarked how key value body new none (inl s) = assigned_unmarked s none
set_unmarked how key value body new none (inr s) = absent_unmarked s none

-- a set gives the key one entry, which means the value
pub sets_one_entry : (how : How) (key value old new : List ℕ) (marked : List Marked) → Sets how key value old new →
    HasMarked how.dialect key (without_mark old) marked →
    (pieces : List Piece) × MeansText pieces value
    × HasMarked how.dialect key (without_mark new) (with_assigned (Declares key pieces) marked)
sets_one_entry how key value old new marked (body, sets, e) has =
    let kept = mark_kept old new body e
    (λ h. set_unmarked how key value (without_mark old) body (without_mark_none old h) sets) in
    rw kept.1 (elim sets [ inl s ↦ assigned_marked s marked has | inr s ↦ absent_marked s marked has ])

-- a set keeps a mark, and makes none
pub set_mark : (how : How) (key value old new : List ℕ) → Sets how key value old new → has_mark new ≡ has_mark old
set_mark how key value old new (body, sets, e) =
    let kept = mark_kept old new body e
    (λ h. set_unmarked how key value (without_mark old) body (without_mark_none old h) sets) in
    kept.0
