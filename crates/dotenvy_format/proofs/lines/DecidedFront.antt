-- What bytes decide stays, whatever follows them.
use Rattle.std.proofs.lemmas.Bool.{cases_Bool}
use Rattle.std.proofs.Common.{◌≡◌, ℕ, ◌≤◌, Bool, true, false, cond, List}
use Rattle.std.proofs.Common.{[], ◌∷◌, ◌++◌, map, Option, Some, None, refl, sym, ◌∙◌, ap, arith}
use Rattle.std.proofs.Common.{append_assoc, length, drop}
use Rattle.std.specs.Prelude.{◌≢◌, ◌==◌}
use Rattle.std.specs.List.{flat_map}
use Rattle.std.proofs.lemmas.List.{append-nil, map-append}
use Rattle.dotenvy_format.specs.declared.dialect.Dialect.{Dialect}
use Rattle.dotenvy_format.specs.Characters.{line_feed}
use Rattle.dotenvy_format.specs.PhysicalLines.{physical_lines, line_text, line_texts, AreCut}
use Rattle.dotenvy_format.specs.LogicalLine.{Logical, Skip, HasText, StaysOpen, Broken}
use Rattle.dotenvy_format.specs.LogicalLine.{IsNext, IsOpenEnd}
use Rattle.dotenvy_format.specs.Entries.{Entry, AreLogicalLines, GiveAll, HasEntries}
use Rattle.dotenvy_format.specs.Decided.{before_some, up_to_last_line_feed, without_open_end, HasDecided}
use Rattle.dotenvy_format.specs.declared.walk.LineMode.{LineMode}
use Rattle.dotenvy_format.specs.declared.walk.LineMode.TheVariants.{Outside}
use Rattle.dotenvy_format.specs.inside.Walk.{going, ended, walk}
use Rattle.dotenvy_format.proofs.lines.Cuts.{lines_some, cut_step}
use Rattle.dotenvy_format.proofs.lines.Splitting.{IsGoing, going_start, going_more}
use Rattle.dotenvy_format.proofs.lines.NextLine.{Lines, ends_line, ends_join, whole_ends, line_goes_on, cut_rest}
use Rattle.dotenvy_format.proofs.lines.NextLine.{broken_within, mode_ends, after_walk, one_more}
use Rattle.dotenvy_format.proofs.lines.NextLine.{next_from, same_parts}
use Rattle.dotenvy_format.proofs.lines.SplitLines.{next_of, is_skipped}
use Rattle.dotenvy_format.proofs.lines.SplitLines.{next_skipped, next_shown, next_once}
use Rattle.dotenvy_format.proofs.lines.EntriesOnce.{lines_of, are_lines_of, logical_entries, all_give}
use Rattle.dotenvy_format.proofs.lines.EntriesOnce.{all_once, one_list, cut_drop, cut_line_texts, some_length}
use Rattle.std.proofs.Common.{inl, inr, ⊎_elim}
use Rattle.std.specs.Prelude.{◌⊎◌}
use Rattle.std.proofs.lemmas.List.{drop-append-le}
use Rattle.std.proofs.lemmas.Grind.{flat_map-append}

-- a first line is skipped just where it is so before more lines
skipped-append : (lines more : Lines) → lines ≢ [] → is_skipped (lines ++ more) ≡ is_skipped lines
skipped-append lines more some = grind arith

-- after texts that go on, the next logical line is the same before more lines, except an open end
next_from-append : (m : LineMode) (seen : List ℕ) (lines : Lines) (l : Option (List ℕ)) (more : Lines) →
    (lines ≢ []) ⊎ (ends_line seen ≡ true) → AreCut (lines ++ l ∷ more) → IsGoing seen m →
    ¬ (IsOpenEnd (next_from m seen lines).1) → next_from m seen (lines ++ l ∷ more) ≡ next_from m seen lines
next_from-append m seen [] l more some cut g closed = grind (arith, line_goes_on seen m g, mode_ends m seen)
next_from-append m seen (None ∷ lines) l more some cut g closed = refl
next_from-append m seen (Some t ∷ lines) l more some cut g closed =
    (elim (walk m seen t) as (λ w.
    walk m seen t ≡ w → ¬ (IsOpenEnd (after_walk w (λ n. next_from n (seen ++ t) lines)).1) →
    after_walk w (λ n. next_from n (seen ++ t) (lines ++ l ∷ more))
    ≡ after_walk w (λ n. next_from n (seen ++ t) lines)) [
      | going n ↦
          λ e h.
          ap one_more (next_from-append n (seen ++ t) lines l more (inr (ends_join seen t (ends t lines l more cut)))
          (cut_rest (Some t) (lines ++ l ∷ more) cut) (going_more seen m t g ∙ e) h)
      | ended text ↦ λ e h. refl
    ]) refl closed
  where
    ends : (t : List ℕ) (lines : Lines) (l : Option (List ℕ)) (more : Lines) →
        AreCut (Some t ∷ (lines ++ l ∷ more)) → ends_line t ≡ true
    ends t [] l more cut = whole_ends t cut.0
    ends t (k ∷ lines) l more cut = whole_ends t cut.0

-- the next logical line is one of the first lines
next_within : (lines : Lines) (k : ℕ) (o : Logical) → lines ≢ [] → IsNext lines k o → k ≤ length lines
next_within lines k Skip some is = omega (arith, is.1, some_length lines some)
next_within lines k (HasText t) some is = let h = is.1 in h.within
next_within lines k (StaysOpen t n) some is = omega (arith, is.1)
next_within lines k Broken some is = broken_within lines k is.1

-- lines with more after them are not none
some_more : (lines more : Lines) → lines ≢ [] → lines ++ more ≢ []
some_more [] more some h = some refl
some_more (l ∷ lines) more some h = cc

-- the next logical line is the same before more lines, except an open end
next_later : (lines more : Lines) (k : ℕ) (o : Logical) → AreCut (lines ++ more) → AreCut lines → lines ≢ [] →
    ¬ (IsOpenEnd o) → IsNext lines k o → next_of (lines ++ more) ≡ (k, o)
next_later lines [] k o cut own some closed is = rw append-nil (next_once lines k o some own is)
next_later lines (l ∷ more) k o cut own some closed is =
    let e = next_once lines k o some own is in
    let s = skipped-append lines (l ∷ more) some in
    elim (cases_Bool (is_skipped lines)) [
      | inl h ↦ next_skipped (lines ++ l ∷ more) (s ∙ h) ∙ sym (next_skipped lines h) ∙ e
      | inr h ↦
          let f : next_from Outside [] lines ≡ (k, o) = sym (next_shown lines h) ∙ e in
          next_shown (lines ++ l ∷ more) (s ∙ h)
          ∙ next_from-append Outside [] lines l more (inl some) cut going_start (rw f closed) ∙ f
    ]

-- the first logical lines are the front of the others
abbrev IsFront : List Logical → List Logical → Type 0
IsFront xs ys = (later : List Logical) × (ys ≡ xs ++ later)

-- before an open end there is nothing of the row that begins with it, and any other logical line is there
open_or_not : (o : Logical) (os : List Logical) →
    (without_open_end (o ∷ os) ≡ []) ⊎ ((¬ (IsOpenEnd o)) × (without_open_end (o ∷ os) ≡ o ∷ without_open_end os))
open_or_not (StaysOpen t n) os = inl refl
open_or_not o os = inr (λ h. h, refl)

-- the logical lines before an open end are the front of those of the same lines with any after them
lines_front : (lines more : Lines) (os ps : List Logical) → AreCut (lines ++ more) → AreCut lines →
    AreLogicalLines lines os → AreLogicalLines (lines ++ more) ps → IsFront (without_open_end os) ps
lines_front lines more [] ps cut own a b = (ps, refl)
lines_front lines more (o ∷ os) [] cut own a b = absurd (some_more lines more a.0 b)
lines_front lines more (o ∷ os) (p ∷ ps) cut own (some, j, is, rest) (other, k, also, after) =
    ⊎_elim (λ e. (p ∷ ps, rw e refl))
    (λ h.
    let e =
    same_parts (sym (next_once (lines ++ more) k p other cut also)
    ∙ next_later lines more j o cut own some h.0 is) in
    let d = drop-append-le j lines more (next_within lines j o some is) in
    let f =
    lines_front (drop j lines) more os ps (rw d at (cut_drop j (lines ++ more) cut)) (cut_drop j lines own) rest
    (rw (e.0, d) at after) in (f.0, let g = f.1 in let i = h.1 in let same = e.1 in cc))
    (open_or_not o os)

-- the front up to the last line feed, and what follows it
pub record IsCutFront (bytes front : List ℕ) : Type 0 where
  pub after : List ℕ
  pub joins : bytes ≡ front ++ after
  pub ends : (more : List ℕ) → physical_lines (front ++ more) ≡ physical_lines front ++ physical_lines more

-- a front that is cut off has one more byte in front too, unless it is empty and that is no line feed
front_at : (c : ℕ) (cs f : List ℕ) (b : Bool) → (c == line_feed) ≡ b → IsCutFront cs f →
    IsCutFront (c ∷ cs) (cond b (c ∷ f) (before_some c f))
front_at c cs [] false e is = record { after = c ∷ cs; joins = refl; ends = λ more. refl }
front_at c cs [] true e is =
    record { after = is.after; joins = ap (◌∷◌ c) is.joins; ends = λ more. rw e refl }
front_at c cs (d ∷ f) b e is =
    elim b as (λ b. IsCutFront (c ∷ cs) (cond b (c ∷ d ∷ f) (c ∷ d ∷ f))) [ true ↦ longer | false ↦ longer ]
  where
    longer : IsCutFront (c ∷ cs) (c ∷ d ∷ f)
    longer = record {
      after = is.after;
      joins = ap (◌∷◌ c) is.joins;
      ends =
          λ more.
          cut_step c (c == line_feed) (physical_lines (d ∷ f)) (physical_lines more)
          (physical_lines (d ∷ (f ++ more))) (lines_some d f) (is.ends more);
    }

-- bytes are cut after their last line feed, whatever follows them
pub front_is : (bytes : List ℕ) → IsCutFront bytes (up_to_last_line_feed bytes)
front_is [] = record { after = []; joins = refl; ends = λ more. refl }
front_is (c ∷ cs) = front_at c cs (up_to_last_line_feed cs) (c == line_feed) refl (front_is cs)

-- the entries that bytes decide, computed
abbrev pub decided_of : (dialect : Dialect) → List ℕ → List Entry
decided_of dialect bytes =
    let lines = line_texts (up_to_last_line_feed bytes) in
    flat_map (logical_entries dialect) (without_open_end (lines_of (length lines) lines))

-- bytes decide the entries that are computed
pub decided_of-are : (dialect : Dialect) (bytes : List ℕ) → HasDecided dialect bytes (decided_of dialect bytes)
decided_of-are dialect bytes =
    let lines = line_texts (up_to_last_line_feed bytes) in
    let os = lines_of (length lines) lines in record {
      lines = os;
      are_lines = are_lines_of (length lines) lines (omega arith) (cut_line_texts (up_to_last_line_feed bytes));
      give = all_give dialect (without_open_end os);
    }

-- in each dialect bytes have a list of entries that they decide
pub decided_exist : (dialect : Dialect) (bytes : List ℕ) → (es : List Entry) × HasDecided dialect bytes es
decided_exist dialect bytes = (decided_of dialect bytes, decided_of-are dialect bytes)

-- two lists of entries that the same bytes decide are the same
pub decided_once : (dialect : Dialect) (bytes : List ℕ) (es fs : List Entry) → HasDecided dialect bytes es →
    HasDecided dialect bytes fs → es ≡ fs
decided_once dialect bytes es fs a b =
    let f = up_to_last_line_feed bytes in
    let e = one_list (line_texts f) a.lines b.lines (cut_line_texts f) a.are_lines b.are_lines in
    all_once dialect (without_open_end a.lines) es a.give
    ∙ rw e (sym (all_once dialect (without_open_end b.lines) fs b.give))

-- the texts of the lines of bytes and more are those up to the bytes' last line feed, then those of the rest
lines_split : (bytes more : List ℕ) → (c : IsCutFront bytes (up_to_last_line_feed bytes)) →
    line_texts (bytes ++ more) ≡ line_texts (up_to_last_line_feed bytes) ++ line_texts (c.after ++ more)
lines_split bytes more c =
    let f = up_to_last_line_feed bytes in
    let e : bytes ++ more ≡ f ++ (c.after ++ more) = let j = c.joins in cc (append_assoc f c.after more) in
    ap line_texts e
    ∙ ap (map line_text) (c.ends (c.after ++ more))
    ∙ map-append line_text (physical_lines f) (physical_lines (c.after ++ more))

-- where logical lines are the front of others, so are their entries
entries_front : (dialect : Dialect) (os ps later : List Logical) (es fs : List Entry) → ps ≡ os ++ later →
    GiveAll dialect os es → GiveAll dialect ps fs → fs ≡ es ++ flat_map (logical_entries dialect) later
entries_front dialect os ps later es fs e a b =
    all_once dialect ps fs b ∙ rw (e, flat_map-append, all_once dialect os es a) refl

-- what bytes decide is the front of what they and any more have
pub decides_front : (dialect : Dialect) (bytes more : List ℕ) (decided entries : List Entry) →
    HasDecided dialect bytes decided → HasEntries dialect (bytes ++ more) entries →
    (later : List Entry) × (entries ≡ decided ++ later)
decides_front dialect bytes more decided entries has all =
    let f = up_to_last_line_feed bytes in
    let c = front_is bytes in
    let split = lines_split bytes more c in
    let front =
    lines_front (line_texts f) (line_texts (c.after ++ more)) has.lines all.lines
    (rw split at (cut_line_texts (bytes ++ more))) (cut_line_texts f) has.are_lines (rw split at all.are_lines) in (
      flat_map (logical_entries dialect) front.0,
      entries_front dialect (without_open_end has.lines) all.lines front.0 decided entries front.1 has.give all.give,
    )
