-- The entries of slices, marked for a key, where slices are gone, put in the place of others, or appended.
use Rattle.std.proofs.Common.{◌≡◌, ℕ, true, false, not, List, [], ◌∷◌, ◌++◌, map, refl, sym, ◌∙◌, ap}
use Rattle.std.proofs.Common.{append_assoc, append-nil, inl, inr, arith}
use Rattle.std.proofs.lemmas.Bool.{and_parts}
use Rattle.std.proofs.lemmas.Bool.Decides.{nat_tests}
use Rattle.std.proofs.lemmas.List.{map-append}
use Rattle.dotenvy_format.specs.declared.dialect.Dialect.{Dialect}
use Rattle.dotenvy_format.specs.Characters.{begins_key, begins_passing, equals_sign, is_empty_or_comment}
use Rattle.dotenvy_format.specs.Keys.{is_key}
use Rattle.dotenvy_format.specs.PhysicalLines.{line_texts}
use Rattle.dotenvy_format.specs.LogicalLine.{Logical, Skip, HasText, StaysOpen, Broken}
use Rattle.dotenvy_format.specs.Entries.{Declares, Entry, Fails, Gives, LineParse}
use Rattle.dotenvy_format.specs.Outcome.{Nothing, Pair, Fault, is_nothing}
use Rattle.dotenvy_format.specs.Statement.{IsPrefix, IsStatement, begins_with_white_space}
use Rattle.dotenvy_format.specs.Value.{Piece}
use Rattle.dotenvy_format.proofs.lines.EntriesOnce.{cut_line_texts, one_list}
use Rattle.dotenvy_format.proofs.statements.Statements.{skip_white}
use Rattle.dotenvy_editor.specs.Assignments.{AreOthers, AssignsKey, NoneAssigns}
use Rattle.dotenvy_editor.specs.Laws.{Marked, Assigned, Other, GiveAllMarked, GivesMarked, HasMarked}
use Rattle.dotenvy_editor.specs.Laws.{unassigned, with_assigned}
use Rattle.dotenvy_editor.specs.Slices.{Slice, AreSlices}
use Rattle.dotenvy_editor.proofs.SlicesChained.{lines_of_slices, logicals}
use Rattle.dotenvy_editor.proofs.SliceTexts.{key_begins, key_visible}

-- what begins a key, or `export`, is neither empty nor a comment
word_is_some : (text : List ℕ) → begins_passing begins_key text ≡ true → is_empty_or_comment text ≡ false
word_is_some [] h = cc
word_is_some (c ∷ text) h = grind (arith, nat_tests)

-- after white space a statement begins with a word, which is neither empty nor a comment
pub word_first : (prefix key more : List ℕ) → is_key key ≡ true → IsPrefix prefix →
    (not (begins_with_white_space (prefix ++ (key ++ more))) ≡ true)
    × (is_empty_or_comment (prefix ++ (key ++ more)) ≡ false)
word_first prefix key more is (inl none) =
    let begins = key_begins key more is in
    rw none (key_visible (key ++ more) begins, word_is_some (key ++ more) begins)
word_first prefix key more is (inr (first, gap, exports, white)) = rw exports (refl, refl)

-- a statement is neither empty nor a comment
pub statement_some : (line key assigned : List ℕ) → IsStatement line key assigned → not (is_nothing line) ≡ true
statement_some line key assigned is =
    let white = and_parts _ _ is.white_space in
    let both = and_parts _ _ white.0 in
    let more = is.before ++ equals_sign ∷ (is.after ++ assigned) in
    let word = word_first is.prefix key more is.is_key is.is_prefix in
    rw (is.spelled, skip_white is.indent (is.prefix ++ (key ++ more)) both.0 word.0, word.1) refl

-- an assignment has one entry
pub assigned_one : (dialect : Dialect) (key : List ℕ) (logical : Logical) (entries : List Entry) →
    AssignsKey key logical → Gives dialect logical entries → (entry : Entry) × (entries ≡ entry ∷ [])
assigned_one dialect key Skip entries assigns gives = absurd assigns
assigned_one dialect key (StaysOpen text index) entries assigns gives = absurd assigns
assigned_one dialect key Broken entries assigns gives = absurd assigns
assigned_one dialect key (HasText text) entries assigns (Nothing, says, e) =
    let some = assigns.0 in absurd (grind (arith, nat_tests))
assigned_one dialect key (HasText text) entries assigns (Pair name pieces, says, e) = (Declares name pieces, e)
assigned_one dialect key (HasText text) entries assigns (Fault rest index, says, e) = (Fails (LineParse rest index), e)

-- the marked entries of joined logical lines are those of the ones and then those of the others
pub give_join : (dialect : Dialect) (key : List ℕ) (xs ys : List Logical) (front after : List Marked) →
    GiveAllMarked dialect key xs front → GiveAllMarked dialect key ys after →
    GiveAllMarked dialect key (xs ++ ys) (front ++ after)
give_join dialect key [] ys front after first later = rw first later
give_join dialect key (x ∷ xs) ys front after (mine, others, gives, rest, e) later =
    (mine, others ++ after, gives, give_join dialect key xs ys others after rest later, rw (e, append_assoc))

-- of entries that are all of other lines, all stay
unassigned-other : (entries : List Entry) (marked : List Marked) →
    unassigned (map Other entries ++ marked) ≡ map Other entries ++ unassigned marked
unassigned-other [] marked = refl
unassigned-other (entry ∷ entries) marked = ap (◌∷◌ (Other entry)) (unassigned-other entries marked)

-- of entries that are all of assignments, none stays
unassigned-own : (entries : List Entry) (marked : List Marked) →
    unassigned (map Assigned entries ++ marked) ≡ unassigned marked
unassigned-own [] marked = refl
unassigned-own (entry ∷ entries) marked = unassigned-own entries marked

-- the first assignment is after entries of other lines
with_assigned-other : (new : Entry) (entries : List Entry) (marked : List Marked) →
    with_assigned new (map Other entries ++ marked) ≡ map Other entries ++ with_assigned new marked
with_assigned-other new [] marked = refl
with_assigned-other new (entry ∷ entries) marked =
    ap (◌∷◌ (Other entry)) (with_assigned-other new entries marked)

-- where the assignments among slices are gone, so are their entries
pub others_marked : (dialect : Dialect) (key : List ℕ) (slices others : List Slice) (marked : List Marked) →
    AreOthers key slices others → GiveAllMarked dialect key (logicals slices) marked →
    GiveAllMarked dialect key (logicals others) (unassigned marked)
others_marked dialect key [] others marked are give = rw (are, give) refl
others_marked dialect key (slice ∷ slices) others marked (inl (assigns, are)) (front, after, gives, rest, e) =
    elim gives.2 [
      | inl (own, f) ↦ rw (e, f, unassigned-own gives.0 after) (others_marked dialect key slices others after are rest)
      | inr (differs, f) ↦ absurd (differs assigns)
    ]
others_marked dialect key (slice ∷ slices) others marked (inr (differs, later, o, are)) (front, after, gives, rest, e) =
    elim gives.2 [
      | inl (own, f) ↦ absurd (differs own)
      | inr (other, f) ↦
          rw o (
            front,
            unassigned after,
            gives,
            others_marked dialect key slices later after are rest,
            rw (e, f) (unassigned-other gives.0 after),
          )
    ]

-- where no line assigns the key, all entries are of other lines
all_other : (dialect : Dialect) (key : List ℕ) (slices : List Slice) (marked : List Marked) → NoneAssigns key slices →
    GiveAllMarked dialect key (logicals slices) marked → (entries : List Entry) × (marked ≡ map Other entries)
all_other dialect key [] marked none give = ([], give)
all_other dialect key (slice ∷ slices) marked (differs, none) (front, later, gives, rest, e) =
    elim gives.2 [
      | inl (own, f) ↦ absurd (differs own)
      | inr (other, f) ↦
          let all = all_other dialect key slices later none rest in (
            gives.0 ++ all.0,
            e ∙ ap (λ x. x ++ later) f ∙ ap (λ x. map Other gives.0 ++ x) all.1
                ∙ sym (map-append Other gives.0 all.0),
          )
    ]

module _ (dialect : Dialect) (key : List ℕ) (new : Slice) (pieces : List Piece)
    (gives_new : Gives dialect new.logical (Declares key pieces ∷ [])) (assigns_new : AssignsKey key new.logical) where
  -- the new line gives its one entry
  new_gives : GivesMarked dialect key new.logical (Assigned (Declares key pieces) ∷ [])
  new_gives = (Declares key pieces ∷ [], gives_new, inl (assigns_new, refl))

  -- where the first assignment has a new line in its place, and later ones are gone, so it is with their entries
  pub put_marked : (before : List Slice) (old : Slice) (after others : List Slice) (marked : List Marked) →
      NoneAssigns key before → AssignsKey key old.logical → AreOthers key after others →
      GiveAllMarked dialect key (logicals (before ++ old ∷ after)) marked →
      GiveAllMarked dialect key (logicals (before ++ new ∷ others)) (with_assigned (Declares key pieces) marked)
  put_marked [] old after others marked none assigns are (front, later, gives, rest, e) =
      elim gives.2 [
        | inl (own, f) ↦
            let one = assigned_one dialect key old.logical gives.0 assigns gives.1 in
            rw (e, f, one.1) (
              Assigned (Declares key pieces) ∷ [],
              unassigned later,
              new_gives,
              others_marked dialect key after others later are rest,
              refl,
            )
        | inr (differs, f) ↦ absurd (differs assigns)
      ]
  put_marked (slice ∷ before) old after others marked (differs, none) assigns are (front, later, gives, rest, e) =
      elim gives.2 [
        | inl (own, f) ↦ absurd (differs own)
        | inr (other, f) ↦ (
          front,
          with_assigned (Declares key pieces) later,
          gives,
          put_marked before old after others later none assigns are rest,
          rw (e, f) (with_assigned-other (Declares key pieces) gives.0 later),
        )
      ]

  -- where no line assigns the key, an appended line has the last entry
  pub append_marked : (slices ended : List Slice) (marked : List Marked) → NoneAssigns key slices →
      ((marks : List Marked) → GiveAllMarked dialect key (logicals slices) marks →
      GiveAllMarked dialect key (logicals ended) marks) → GiveAllMarked dialect key (logicals slices) marked →
      GiveAllMarked dialect key (logicals (ended ++ new ∷ [])) (with_assigned (Declares key pieces) marked)
  append_marked slices ended marked none same give =
      let all = all_other dialect key slices marked none give in
      let last : with_assigned (Declares key pieces) marked ≡ marked ++ Assigned (Declares key pieces) ∷ [] =
      rw all.1 (rw append-nil at (with_assigned-other (Declares key pieces) all.0 [])) in
      rw (last, map-append (λ slice. slice.logical) ended (new ∷ []))
      (give_join dialect key (logicals ended) (new.logical ∷ []) marked (Assigned (Declares key pieces) ∷ [])
      (same marked give) (Assigned (Declares key pieces) ∷ [], [], new_gives, refl, refl))

-- the marked entries of bytes are those of their slices
pub marked_of : (dialect : Dialect) (key bytes : List ℕ) (slices : List Slice) (marked : List Marked) →
    AreSlices bytes slices → HasMarked dialect key bytes marked → GiveAllMarked dialect key (logicals slices) marked
marked_of dialect key bytes slices marked are has =
    let same = one_list (line_texts bytes) (logicals slices) has.lines (cut_line_texts bytes)
    (lines_of_slices bytes slices are) has.are_lines in
    rw same has.give

-- bytes have the marked entries of their slices
pub marked_are : (dialect : Dialect) (key bytes : List ℕ) (slices : List Slice) (marked : List Marked) →
    AreSlices bytes slices → GiveAllMarked dialect key (logicals slices) marked → HasMarked dialect key bytes marked
marked_are dialect key bytes slices marked are give =
    record { lines = logicals slices; are_lines = lines_of_slices bytes slices are; give = give }
