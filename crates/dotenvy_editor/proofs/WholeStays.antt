-- The entries of whole lines stay, whatever follows these lines.
use Rattle.std.proofs.Common.{◌≡◌, ◌≢◌, ◌∙◌, ℕ, true, List, [], ◌∷◌, ◌++◌, drop, length, take, refl, sym, ap}
use Rattle.std.proofs.Common.{append_assoc, append-nil}
use Rattle.std.proofs.Math.Seq.{drop-append_seam, take-append_seam}
use Rattle.std.proofs.lemmas.List.{map-append}
use Rattle.dotenvy_format.specs.Characters.{line_feed}
use Rattle.dotenvy_format.specs.Decided.{up_to_last_line_feed}
use Rattle.dotenvy_format.specs.Entries.{Entry, GiveAll, HasEntries}
use Rattle.dotenvy_format.specs.LogicalLine.{Logical}
use Rattle.dotenvy_format.specs.declared.dialect.Dialect.{Dialect}
use Rattle.dotenvy_format.proofs.lines.DecidedFront.{front_is}
use Rattle.dotenvy_format.proofs.lines.NextLine.{ends_line, ends_line-append}
use Rattle.dotenvy_editor.specs.Slices.{ComeBefore, NoneIs, Slice, slices_bytes}
use Rattle.dotenvy_editor.specs.Whole.{IsWholeLen, StaysOpen}
use Rattle.dotenvy_editor.proofs.OneCut.{one_cut}
use Rattle.dotenvy_editor.proofs.SlicesAlone.{alone_of, whole_ends_line}
use Rattle.dotenvy_editor.proofs.SlicesChained.{AllClosed, AreChained, entries_are, entries_of_slices}
use Rattle.dotenvy_editor.proofs.SlicesChained.{logicals, slices_join, slices_of}

-- bytes that are none, or end with a line feed
abbrev EndsIfSome : List ℕ → Type 0
EndsIfSome bytes = bytes ≢ [] → ends_line bytes ≡ true

-- what follows bytes ends so where both do
ends_later : (bytes later : List ℕ) → EndsIfSome (bytes ++ later) → EndsIfSome later
ends_later bytes [] ends some = absurd (some refl)
ends_later bytes (c ∷ later) ends some = sym (ends_line-append bytes c later) ∙ ends (not_nil bytes)
  where
    not_nil : (front : List ℕ) → front ++ c ∷ later ≢ []
    not_nil [] = λ e. cc
    not_nil (d ∷ front) = λ e. cc

-- the bytes of a slice end with a line feed where those that follow it do
slice_ends : (bytes later : List ℕ) → bytes ≢ [] → (later ≢ [] → ends_line bytes ≡ true) →
    EndsIfSome (bytes ++ later) → ends_line bytes ≡ true
slice_ends bytes [] some before ends = (rw append-nil at ends) some
slice_ends bytes (c ∷ later) some before ends = before (λ e. cc)

-- whole lines that don't stay open are closed
closed_all : (slices : List Slice) (left : List ℕ) → ComeBefore slices left → NoneIs StaysOpen slices →
    EndsIfSome (slices_bytes slices ++ left) → AllClosed slices
closed_all [] left come none ends = tt
closed_all (slice ∷ slices) left (is, come) (shut, none) ends =
    let later = slices_bytes slices ++ left in
    let all : EndsIfSome (slice.bytes ++ later) = rw (append_assoc slice.bytes (slices_bytes slices) left) at ends in (
      (slice_ends slice.bytes later is.0 (λ some. whole_ends_line slice.bytes later is.0 some is.1) all, shut),
      closed_all slices left come none (ends_later slice.bytes later all),
    )

-- and they are chained
chained_all : (slices : List Slice) (left : List ℕ) → ComeBefore slices left → AllClosed slices → AreChained slices
chained_all [] left come closed = tt
chained_all (slice ∷ slices) left (is, come) (shut, closed) = (
  alone_of slice.bytes (slices_bytes slices ++ left) slice.logical is,
  λ some. shut,
  chained_all slices left come closed,
)

-- the entries of joined logical lines are those of the ones and then those of the others
give_both : (dialect : Dialect) (xs ys : List Logical) (front after : List Entry) → GiveAll dialect xs front →
    GiveAll dialect ys after → GiveAll dialect (xs ++ ys) (front ++ after)
give_both dialect [] ys front after none later = rw none later
give_both dialect (x ∷ xs) ys front after (mine, others, gives, rest, is) later =
    (mine, others ++ after, gives, give_both dialect xs ys others after rest later, rw (is, append_assoc) refl)

-- whole lines that are counted: they, and what is left after them
record IsCut (bytes : List ℕ) (count : ℕ) (slices : List Slice) : Type 0 where
  pub taken : take count bytes ≡ slices_bytes slices
  pub joins : bytes ≡ slices_bytes slices ++ drop count bytes
  pub closed : AllClosed slices
  pub chained : AreChained slices

cut_of : {bytes : List ℕ} {count : ℕ} → (is : IsWholeLen bytes count) → IsCut bytes count is.slices
cut_of {bytes} {count} is =
    let front = front_is bytes in
    let rest = is.left ++ front.after in
    let whole = slices_bytes is.slices in
    let joined : bytes ≡ whole ++ rest =
    front.joins ∙ ap (λ cs. cs ++ front.after) is.cut ∙ append_assoc whole is.left front.after in
    let ends : EndsIfSome (whole ++ is.left) =
    rw is.cut at (λ (some : up_to_last_line_feed bytes ≢ []).
    whole_ends_line (up_to_last_line_feed bytes) (line_feed ∷ []) some (λ e. cc) (front.ends (line_feed ∷ []))) in
    let closed = closed_all is.slices is.left is.come is.closed ends in
    let left : drop count bytes ≡ rest =
    ap (λ n. drop n bytes) is.counts ∙ ap (drop (length whole)) joined ∙ drop-append_seam whole rest in record {
      taken = ap (λ n. take n bytes) is.counts ∙ ap (take (length whole)) joined ∙ take-append_seam whole rest;
      joins = joined ∙ ap (λ cs. whole ++ cs) (sym left);
      closed = closed;
      chained = chained_all is.slices is.left is.come closed;
    }

-- their entries come first, and those of what follows after them
pub whole_stays : (dialect : Dialect) (bytes more : List ℕ) (count : ℕ) (front after : List Entry) →
    IsWholeLen bytes count → HasEntries dialect (take count bytes) front →
    HasEntries dialect (drop count bytes ++ more) after → HasEntries dialect (bytes ++ more) (front ++ after)
whole_stays dialect bytes more count front after is has later =
    let cut = cut_of is in
    let rest = drop count bytes ++ more in
    let own = slices_of is.slices cut.chained in
    let others = one_cut rest in
    let both = slices_join (slices_bytes is.slices) rest is.slices others.0 own cut.closed others.1 in
    let joins : slices_bytes is.slices ++ rest ≡ bytes ++ more =
    sym (append_assoc (slices_bytes is.slices) (drop count bytes) more) ∙ ap (λ cs. cs ++ more) (sym cut.joins) in
    let mine = entries_of_slices dialect (slices_bytes is.slices) is.slices front own (rw cut.taken at has) in
    let theirs = entries_of_slices dialect rest others.0 after others.1 later in
    entries_are dialect (bytes ++ more) (is.slices ++ others.0) (front ++ after) (rw joins at both)
    (rw (map-append (λ (slice : Slice). slice.logical) is.slices others.0)
    (give_both dialect (logicals is.slices) (logicals others.0) front after mine theirs))
