-- The line of the item that is given next: where it is in the bytes, and what it says.
use Rattle.std.proofs.Common.{◌≡◌, ◌∙◌, ◌≤◌, ◌<◌, ◌+◌, ◌++◌, ℕ, List, [], ◌∷◌, Some, refl, sym, ap, arith}
use Rattle.std.proofs.Common.{length, length-drop, drop, map, inl, inr, Ok, Err}
use Rattle.std.specs.Prelude.{◌-◌, ◌^◌, IfOk}
use Rattle.std.proofs.lemmas.List.{drop-drop, drop-map, length-map}
use Rattle.std.proofs.lemmas.Option.{none-some}
use Rattle.dotenvy.specs.Decided.{HasDecided}
use Rattle.dotenvy.specs.Dialect.{Dialect}
use Rattle.dotenvy.specs.Entries.{AreFirstLines, Declares, Entry, Fails, Gives}
use Rattle.dotenvy.specs.Environment.{Texts}
use Rattle.dotenvy.specs.Iter.{IsOpen, IterState, TellsLeft}
use Rattle.dotenvy.specs.Lines.{FailsFor}
use Rattle.dotenvy.specs.LogicalLine.{Broken, HasText, IsNext, Logical, Skip, StaysOpen}
use Rattle.dotenvy.specs.Meaning.{names_of}
use Rattle.dotenvy.specs.NextItem.{Item, NextItem, SaysItem, TakesEntry, entry_item}
use Rattle.dotenvy.specs.Outcome.{Fault, Nothing, Pair, Says}
use Rattle.dotenvy.specs.PhysicalLines.{AreCut, line_text, line_texts, physical_lines}
use Rattle.dotenvy.specs.Value.{Piece}
use Rattle.dotenvy_format.proofs.lines.EntriesOnce.{cut_drop, cut_line_texts, entries_exist}
use Rattle.dotenvy_format.proofs.lines.NextLine.{Lines, one_next}
use Rattle.dotenvy_editor.proofs.LineSlices.{next_within}
use Rattle.dotenvy_editor.proofs.SplitterLines.{ahead, lines_short, stage_cases}
use Rattle.dotenvy_c.specs.File.{fresh_file}

-- The last of some logical lines.
-- a logical line has no more physical lines than there are
within : (lines : Lines) (k : ℕ) (next : Logical) → IsNext lines k next → k ≤ length lines
within [] k Skip is = absurd is.0
within [] k (HasText text) is = is.1.within
within [] k (StaysOpen text index) is = omega (arith, is.1)
within [] k Broken is = absurd is.1
within (line ∷ lines) k next is = next_within (line ∷ lines) k next (λ none. cc) is

-- and always as many
as_many : (lines : Lines) (j k : ℕ) (next : Logical) → AreCut lines → IsNext lines j next → IsNext lines k next →
    j ≡ k
as_many [] j k next cut a b = let m = within [] j next a in let n = within [] k next b in omega (arith, m, n)
as_many (line ∷ lines) j k next cut a b = (one_next (line ∷ lines) j k next next (λ none. cc) cut a b).0

-- where the first m physical lines are logical lines, and the first n these and one more, that one is in between
record IsLast (lines : Lines) (m n : ℕ) (last : Logical) : Type 0 where
  pub ordered : m ≤ n
  pub inside : n ≤ length lines
  pub is : IsNext (drop m lines) (n - m) last

last_of : (lines : Lines) (m n : ℕ) (before : List Logical) (last : Logical) → AreCut lines →
    AreFirstLines lines m before → AreFirstLines lines n (before ++ last ∷ []) → IsLast lines m n last
last_of lines m n [] last cut none (k, later, is, nothing, total) =
    let all : n ≡ k = omega (arith, total, nothing) in
    let short = within lines k last is in
    let count : k - 0 ≡ k = omega arith in
    rw (none, all) (record { ordered = omega arith; inside = short; is = rw count is })
last_of lines m n (next ∷ before) last cut (j, i, a, others, total) (k, l, b, more, both) =
    let same = as_many lines j k next cut a b in
    let here = within lines j next a in
    let later = last_of (drop j lines) i l before last (cut_drop j lines cut) others (rw (sym same) at more) in
    let count : l - i ≡ n - m = omega (arith, total, both, same, later.ordered) in
    record {
      ordered = omega (arith, total, both, same, later.ordered);
      inside = omega (arith, both, same, here, later.inside, length-drop j lines);
      is = rw (drop-drop i j lines, ← total, count) at later.is;
    }

-- The bytes that are left.
-- while an iterator over bytes is open, it has those left that come after the lines that were taken
pub record HasLeft (dialect : Dialect) (bytes : List ℕ) (s : IterState) : Type 0 where
  pub left : List ℕ
  pub told : TellsLeft s (ahead left)
  pub lines : physical_lines left ≡ drop s.lines.lines_taken (physical_lines bytes)
  pub few : s.lines.lines_taken ≤ length (physical_lines bytes)
  pub dialect_is : s.dialect ≡ dialect

abbrev pub ReadsBytes : Dialect → List ℕ → IterState → Type 0
ReadsBytes dialect bytes s = IsOpen s → HasLeft dialect bytes s

-- at first these are all
pub all_left : (dialect : Dialect) (bytes : List ℕ) → ReadsBytes dialect bytes (fresh_file bytes dialect)
all_left dialect bytes is_open =
    let few : 0 ≤ length (physical_lines bytes) = omega arith in
    record { left = bytes; told = (refl, λ e. cc); lines = refl; few = few; dialect_is = refl }

-- of the bytes the physical lines with these numbers are a logical line that says a pair
pub record SayPair (dialect : Dialect) (bytes : List ℕ) (lines : ℕ × ℕ) : Type 0 where
  pub line : List ℕ
  pub is : IsNext (drop (lines.0 - 1) (line_texts bytes)) (lines.1 + 1 - lines.0) (HasText line)
  pub key : List ℕ
  pub pieces : List Piece
  pub says : Says dialect line (Pair key pieces)

-- a logical line that gives a declaration says a pair
declares : (dialect : Dialect) (lines : Lines) (count : ℕ) (logical : Logical) (key : List ℕ) (pieces : List Piece) →
    IsNext lines count logical → Gives dialect logical (Declares key pieces ∷ []) →
    (line : List ℕ) × IsNext lines count (HasText line) × (own : List ℕ) × (meant : List Piece)
    × Says dialect line (Pair own meant)
declares dialect lines count Skip key pieces is gives = absurd (cc)
declares dialect lines count (HasText line) key pieces is (Nothing, says, entries) = absurd (cc)
declares dialect lines count (HasText line) key pieces is (Pair own meant, says, entries) = (line, is, own, meant, says)
declares dialect lines count (HasText line) key pieces is (Fault text index, says, entries) = absurd (cc)
declares dialect lines count (StaysOpen text index) key pieces is gives = absurd (cc)
declares dialect lines count Broken key pieces is gives = absurd (cc)

-- after an item the iterator goes on; and a pair is of a line that says one
pub record GoesOn {A : Type 0} (dialect : Dialect) (bytes : List ℕ) (item : Item A) (t : IterState) : Type 0 where
  pub reads : ReadsBytes dialect bytes t
  pub pair : IfOk item (λ given. SayPair dialect bytes t.item_lines)

module _ {A : Type 0} (names : Texts) {s t : IterState} {dialect : Dialect} {bytes : List ℕ}
    (small : length bytes + 1 < 2 ^ 64) (h : HasLeft dialect bytes s) where
  -- an entry was taken
  taken : {entries : List Entry} (item : Item A) (entry : Entry) →
      SaysItem item (entry_item (names_of names s.remembered) entry) →
      TakesEntry names (ahead h.left) s entries entry t → GoesOn dialect bytes item t
  taken item entry says k = record {
    reads = λ is_open. record {
      left = k.left;
      told = (k.moves.is_left, λ e. cc);
      lines =
          k.uses.uses.rest ∙ ap (drop k.uses.uses.count) h.lines
          ∙ drop-drop k.uses.uses.count s.lines.lines_taken (physical_lines bytes)
          ∙ ap (λ n. drop n (physical_lines bytes)) (sym taken_is);
      few = omega (arith, taken_is, all);
      dialect_is = k.dialect ∙ h.dialect_is;
    };
    pair = said item entry says k.uses.gives;
  }
    where
      last : IsLast (line_texts h.left) k.uses.before k.uses.uses.count k.uses.last
      last =
          last_of (line_texts h.left) k.uses.before k.uses.uses.count k.uses.lines k.uses.last
          (cut_line_texts h.left) k.uses.are_before k.uses.uses.are_first

      all : s.lines.lines_taken + k.uses.uses.count ≤ length (physical_lines bytes)
      all =
          let inside = last.inside in
          let lines = ap length h.lines in
          let few = h.few in
          omega (
            arith,
            inside,
            lines,
            few,
            length-map (physical_lines h.left) line_text,
            length-drop s.lines.lines_taken (physical_lines bytes),
          )

      fits : s.lines.lines_taken + k.uses.uses.count + 1 < 2 ^ 64
      fits = omega (arith, all, small, lines_short bytes)

      taken_is : t.lines.lines_taken ≡ s.lines.lines_taken + k.uses.uses.count
      taken_is = k.stands.2 (omega (arith, fits))

      first_is : t.item_lines.0 ≡ s.lines.lines_taken + (k.uses.before + 1)
      first_is = let ordered = last.ordered in k.stands.0 (omega (arith, fits, ordered))

      last_is : t.item_lines.1 ≡ s.lines.lines_taken + k.uses.uses.count
      last_is = k.stands.1 (omega (arith, fits))

      texts : drop k.uses.before (line_texts h.left) ≡ drop (t.item_lines.0 - 1) (line_texts bytes)
      texts =
          let after : s.lines.lines_taken + k.uses.before ≡ t.item_lines.0 - 1 = omega (arith, first_is) in
          ap (λ lines. drop k.uses.before (map line_text lines)) h.lines
          ∙ ap (drop k.uses.before) (sym (drop-map line_text s.lines.lines_taken (physical_lines bytes)))
          ∙ drop-drop k.uses.before s.lines.lines_taken (line_texts bytes)
          ∙ ap (λ n. drop n (line_texts bytes)) after

      count : k.uses.uses.count - k.uses.before ≡ t.item_lines.1 + 1 - t.item_lines.0
      count = let ordered = last.ordered in omega (arith, first_is, last_is, ordered)

      said : (given : Item A) (one : Entry) → SaysItem given (entry_item (names_of names s.remembered) one) →
          Gives s.dialect k.uses.last (one ∷ []) → IfOk given (λ pair. SayPair dialect bytes t.item_lines)
      said (Err error) one says gives = tt
      said (Ok pair) (Fails failure) says gives = absurd says
      said (Ok pair) (Declares key pieces) says gives =
          let line =
          declares dialect (drop (t.item_lines.0 - 1) (line_texts bytes)) (t.item_lines.1 + 1 - t.item_lines.0)
          k.uses.last key pieces (rw (texts, count) at last.is) (rw h.dialect_is at gives) in
          record { line = line.0; is = line.1; key = line.2; pieces = line.3; says = line.4 }

  -- the iterator has failed
  failed : (item : Item A) →
      FailsFor (ahead h.left) s.lines.input item (λ front. HasDecided s.dialect front []) t.lines →
      GoesOn dialect bytes item t
  failed (Ok pair) fails = absurd fails
  failed (Err error) (stage, final) =
      record { reads = λ is_open. absurd (let e = sym is_open ∙ stage in cc); pair = tt }

-- an item was given
pub goes_on : {A : Type 0} {names : Texts} {s t : IterState} {dialect : Dialect} {bytes : List ℕ} {item : Item A} →
    length bytes + 1 < 2 ^ 64 → ReadsBytes dialect bytes s → NextItem names s (Some item) t →
    GoesOn dialect bytes item t
goes_on {names = names} {s = s} {t = t} {item = item} small reads next =
    elim (stage_cases s.lines.stage) [
      | inl is_open ↦
          let h = reads is_open in
          let has = entries_exist s.dialect h.left in
          elim (next.0 is_open (ahead h.left) h.told has.0 has.1) [
            | inl (entry, says, takes) ↦ taken names small h item entry says takes
            | inr (fails, on_none) ↦ failed names small h item fails
          ]
      | inr shut ↦ absurd (none-some item (sym (next.1 shut).0))
    ]
