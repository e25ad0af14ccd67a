-- What a rename does to the marked entries of a file.
use Rattle.std.proofs.Common.{◌≡◌, ◌≢◌, ℕ, true, false, List, [], ◌∷◌, ◌++◌, map, refl, ◌∙◌, ap}
use Rattle.std.proofs.Common.{inl, inr, arith}
use Rattle.std.proofs.lemmas.Bool.Decides.{nat_tests}
use Rattle.std.proofs.lemmas.List.{map-append}
use Rattle.dotenvy_format.specs.declared.dialect.Dialect.{Dialect}
use Rattle.dotenvy_format.specs.Keys.{is_key}
use Rattle.dotenvy_format.specs.LogicalLine.{HasText, Logical}
use Rattle.dotenvy_format.specs.Entries.{Declares, Entry, Gives}
use Rattle.dotenvy_format.specs.Marks.{without_mark}
use Rattle.dotenvy_format.specs.Outcome.{Fault, Nothing, Pair, trimmed}
use Rattle.dotenvy_format.specs.Statement.{IsStatement}
use Rattle.dotenvy_format.proofs.statements.Statements.{one_statement}
use Rattle.dotenvy_editor.specs.Assignments.{AssignsKey, NoneAssigns}
use Rattle.dotenvy_editor.specs.Edits.{Renames, RenamesAll, RenamesLine, has_mark}
use Rattle.dotenvy_editor.specs.Laws.{Marked, Assigned, Other, GiveAllMarked, GivesMarked, HasMarked, renamed}
use Rattle.dotenvy_editor.specs.Slices.{Slice, slices_bytes}
use Rattle.dotenvy_editor.proofs.SlicesChained.{AreChained, IsAlone, IsClosed, chain_of, logicals, slices_are}
use Rattle.dotenvy_editor.proofs.EntriesMarked.{marked_are, marked_of, statement_some}
use Rattle.dotenvy_editor.proofs.SlicesRenamed.{IsRenamed, renamed_line}
use Rattle.dotenvy_editor.proofs.FileMarks.{mark_kept, statement_unmarked}
use Rattle.dotenvy_editor.proofs.EditedEntries.{first_unmarked, without_mark_none}

-- a line that says something of its key says the same of the new key, once that is in its place
renamed_says : (dialect : Dialect) (old new text other assigned : List ℕ) (entries : List Entry)
    (marked : List Marked) → IsStatement (trimmed text) old assigned → IsStatement (trimmed other) new assigned →
    Gives dialect (HasText text) entries → marked ≡ map Assigned entries →
    GivesMarked dialect new (HasText other) (map (renamed new) marked)
renamed_says dialect old new text other assigned entries marked st to (Nothing, says, e) f =
    let some = statement_some (trimmed text) old assigned st in absurd (grind (arith, nat_tests))
renamed_says dialect old new text other assigned entries marked st to (Pair name pieces, (some, rest, is, assigns), e)
    f =
    let one = one_statement (trimmed text) name rest old assigned is st in
    let there = statement_some (trimmed other) new assigned to in (
      Declares new pieces ∷ [],
      (Pair new pieces, (there, assigned, to, rw one.1 at assigns), refl),
      inl ((there, assigned, to), rw (f, e) refl),
    )
renamed_says dialect old new text other assigned entries marked st to (Fault rest index, (some, inl fault), e) f =
    absurd (fault.none old assigned st)
renamed_says dialect old new text other assigned entries marked st to
    (Fault rest index, (some, inr (name, is, fault)), e) f =
    let one = one_statement (trimmed text) name rest old assigned is st in
    let there = statement_some (trimmed other) new assigned to in (
      entries,
      (Fault rest index, (there, inr (new, rw one.1 to, fault)), e),
      inl ((there, assigned, to), rw (f, e) refl),
    )

-- an assignment's marked entries, with the new key
renamed_gives : (dialect : Dialect) (old new text other assigned : List ℕ) (marked : List Marked) →
    IsStatement (trimmed text) old assigned → IsStatement (trimmed other) new assigned →
    GivesMarked dialect old (HasText text) marked → GivesMarked dialect new (HasText other) (map (renamed new) marked)
renamed_gives dialect old new text other assigned marked st to (entries, gives, inl (own, f)) =
    renamed_says dialect old new text other assigned entries marked st to gives f
renamed_gives dialect old new text other assigned marked st to (entries, gives, inr (differs, f)) =
    absurd (differs (statement_some (trimmed text) old assigned st, assigned, st))

-- entries of other lines keep their keys
others_stay : (new : List ℕ) (entries : List Entry) → map (renamed new) (map Other entries) ≡ map Other entries
others_stay new [] = refl
others_stay new (entry ∷ entries) = ap (◌∷◌ (Other entry)) (others_stay new entries)

-- the marked entries of a line that assigns neither key
other_gives : (dialect : Dialect) (old new : List ℕ) (logical : Logical) (marked : List Marked) →
    ¬ (AssignsKey old logical) → ¬ (AssignsKey new logical) → GivesMarked dialect old logical marked →
    GivesMarked dialect new logical (map (renamed new) marked)
other_gives dialect old new logical marked differs other (entries, gives, inl (own, f)) = absurd (differs own)
other_gives dialect old new logical marked differs other (entries, gives, inr (mine, f)) =
    (entries, gives, inr (other, rw f (others_stay new entries)))

-- the renamed slices of bytes, with the same entries of the new key
pub record AreRenamed (dialect : Dialect) (old new bytes : List ℕ) (slices : List Slice) : Type 0 where
  pub named : List Slice
  pub chain : AreChained named
  pub some : named ≢ [] → slices ≢ []
  pub spelled : bytes ≡ slices_bytes named
  pub give :
      (marked : List Marked) → GiveAllMarked dialect old (logicals slices) marked →
      GiveAllMarked dialect new (logicals named) (map (renamed new) marked)

-- one slice more
more_renamed : (dialect : Dialect) (old new bytes line later : List ℕ) (slice : Slice) (slices : List Slice)
    (logical : Logical) → bytes ≡ line ++ later → AreRenamed dialect old new later slices →
    IsAlone (record { bytes = line; logical = logical }) → (slices ≢ [] → IsClosed slice) →
    (IsClosed slice → IsClosed (record { bytes = line; logical = logical })) →
    ((marked : List Marked) → GivesMarked dialect old slice.logical marked →
    GivesMarked dialect new logical (map (renamed new) marked)) → AreRenamed dialect old new bytes (slice ∷ slices)
more_renamed dialect old new bytes line later slice slices logical e rest alone may closes gives = record {
  named = record { bytes = line; logical = logical } ∷ rest.named;
  chain = (alone, λ some. closes (may (rest.some some)), rest.chain);
  some = λ some h. cc;
  spelled = e ∙ ap (◌++◌ line) rest.spelled;
  give = λ marked (front, after, first, others, is). (
    map (renamed new) front,
    map (renamed new) after,
    gives front first,
    rest.give after others,
    ap (map (renamed new)) is ∙ map-append (renamed new) front after,
  );
}

-- where the key of a slice is renamed, it is a slice that assigns the same to the new key
slice_renamed : {old new line : List ℕ} {slice : Slice} → is_key new ≡ true → IsAlone slice →
    (r : RenamesLine old new slice line) → IsRenamed new r.assigned slice.bytes line
slice_renamed {old} {new} {line} {slice} is_new alone r =
    renamed_line old new r.text r.assigned r.later slice.bytes line is_new r.statement r.spelled r.line_is
    (rw r.is_text at alone)

-- slices in which a key is renamed
renamed_slices : (dialect : Dialect) (old new bytes : List ℕ) (slices : List Slice) → is_key new ≡ true →
    AreChained slices → NoneAssigns new slices → RenamesAll old new slices bytes →
    AreRenamed dialect old new bytes slices
renamed_slices dialect old new bytes [] is_new chain none is = record {
  named = [];
  chain = tt;
  some = λ some. absurd (some refl);
  spelled = is;
  give = λ marked give. rw give refl;
}
renamed_slices dialect old new bytes (slice ∷ slices) is_new (alone, may, chain) (absent, none)
    (line, later, e, is, inl (assigns, r)) =
    let rest = renamed_slices dialect old new later slices is_new chain none is in
    let n = slice_renamed is_new alone r in
    more_renamed dialect old new bytes line later slice slices (HasText n.kept) e rest n.alone may
    (λ closed. (n.ends closed.0, λ h. h))
    (λ marked gives.
    renamed_gives dialect old new r.text n.kept r.assigned marked r.statement n.statement (rw r.is_text at gives))
renamed_slices dialect old new bytes (slice ∷ slices) is_new (alone, may, chain) (absent, none)
    (line, later, e, is, inr (differs, same)) =
    let rest = renamed_slices dialect old new later slices is_new chain none is in
    let spelled : bytes ≡ slice.bytes ++ later = e ∙ ap (λ x. x ++ later) same in
    more_renamed dialect old new bytes slice.bytes later slice slices slice.logical spelled rest alone may (λ closed.
    closed)
    (λ marked gives. other_gives dialect old new slice.logical marked differs absent gives)

-- a rename makes no mark
renamed_unmarked : (old new body bytes : List ℕ) (slices : List Slice) → body ≡ slices_bytes slices →
    is_key new ≡ true → AreChained slices → RenamesAll old new slices bytes → has_mark body ≡ false →
    has_mark bytes ≡ false
renamed_unmarked old new body bytes [] e is_new chain is unmarked = rw is refl
renamed_unmarked old new body bytes (slice ∷ slices) e is_new (alone, may, chain) (line, later, f, is, inl (assigns, r))
    unmarked =
    let n = slice_renamed is_new alone r in
    rw f (statement_unmarked line later n.kept new r.assigned n.alone n.statement)
renamed_unmarked old new body bytes (slice ∷ []) e is_new (alone, may, chain) (line, later, f, is, inr (differs, same))
    unmarked = rw (f, same, is) (rw e at unmarked)
renamed_unmarked old new body bytes (slice ∷ next ∷ slices) e is_new (alone, may, chain)
    (line, later, f, is, inr (differs, same)) unmarked =
    rw (f, same)
    (first_unmarked slice (slices_bytes (next ∷ slices)) later (may (λ h. cc)) (rw e at unmarked))

-- a rename to a key leaves all entries, with the new key in each declaration of the old one
pub renames_each : (dialect : Dialect) (key other old new : List ℕ) (marked : List Marked) →
    is_key other ≡ true → Renames key other old new → HasMarked dialect key (without_mark old) marked →
    HasMarked dialect other (without_mark new) (map (renamed other) marked)
renames_each dialect key other old new marked is_other (body, r, e) has =
    let all = r.before ++ r.slice ∷ r.after in
    let chain = chain_of (without_mark old) all r.are in
    let named = renamed_slices dialect key other body all is_other chain.1 r.none r.renames in
    let kept = mark_kept old new body e (λ h.
    renamed_unmarked key other (without_mark old) body all chain.0 is_other chain.1 r.renames (without_mark_none old
    h)) in
    rw kept.1
    (marked_are dialect other body named.named (map (renamed other) marked)
    (slices_are body named.named named.spelled named.chain)
    (named.give marked (marked_of dialect key (without_mark old) all marked r.are has)))

-- a rename to a key keeps a mark, and makes none
pub rename_mark : (key other old new : List ℕ) → is_key other ≡ true → Renames key other old new →
    has_mark new ≡ has_mark old
rename_mark key other old new is_other (body, r, e) =
    let all = r.before ++ r.slice ∷ r.after in
    let chain = chain_of (without_mark old) all r.are in
    let kept = mark_kept old new body e (λ h.
    renamed_unmarked key other (without_mark old) body all chain.0 is_other chain.1 r.renames (without_mark_none old
    h)) in
    kept.0
