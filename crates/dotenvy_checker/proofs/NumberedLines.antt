-- The lines of a file have the entries of its bytes, and are there once.
use Rattle.std.proofs.Common.{◌≡◌, ◌≢◌, ℕ, ◌+◌, List, [], ◌∷◌, ◌++◌, drop, refl, sym, ◌∙◌, ap}
use Rattle.std.proofs.lemmas.List.{append-nil, append_cancel_left, drop-drop}
use Rattle.dotenvy_format.specs.declared.dialect.Dialect.{Dialect}
use Rattle.dotenvy_format.specs.PhysicalLines.{AreCut, line_texts}
use Rattle.dotenvy_format.specs.LogicalLine.{IsOpenEnd, Logical, Skip, HasText, StaysOpen, Broken}
use Rattle.dotenvy_format.specs.Entries.{Entry, AreLogicalLines, Gives, GiveAll, HasEntries}
use Rattle.dotenvy_format.specs.Decided.{up_to_last_line_feed, without_open_end}
use Rattle.dotenvy_format.proofs.lines.NextLine.{one_next, Lines}
use Rattle.dotenvy_format.proofs.lines.EntriesOnce.{cut_drop, cut_line_texts, all_once, entries_exist, entries_once}
use Rattle.dotenvy_format.proofs.lines.DecidedFront.{decided_exist, decided_once}
use Rattle.dotenvy_lines.specs.Numbered.{FileLine, entries_of, logicals_of, AreNumbered, HasNumbered, DecidesNumbered}
use Rattle.dotenvy_lines.specs.Numbered.{NoneComplete}
use Rattle.dotenvy_checker.specs.Laws.{HasOneNumbering, HasOneNumberedDecision}

-- the lines of all physical lines are the logical lines that these make, with their entries
are_entries : (dialect : Dialect) (number count : ℕ) (physical : Lines) (lines : List FileLine) →
    AreNumbered dialect number physical count lines → drop count physical ≡ [] →
    AreLogicalLines physical (logicals_of lines) × GiveAll dialect (logicals_of lines) (entries_of lines)
are_entries dialect number count physical [] none all = (rw none at all, refl)
are_entries dialect number count physical (line ∷ lines) (some, later, own, is, gives, are, sum) all =
    let left : drop later (drop line.count physical) ≡ [] = drop-drop later line.count physical ∙ rw sum at all in
    let rest = are_entries dialect (number + line.count) later (drop line.count physical) lines are left in
    ((some, line.count, is, rest.0), (line.entries, entries_of lines, gives, rest.1, refl))

-- where physical lines make logical lines, the first of these are lines with their entries, and the others are left
with_numbers : (dialect : Dialect) (firsts others : List Logical) (number : ℕ) (physical : Lines)
    (entries : List Entry) → AreLogicalLines physical (firsts ++ others) → GiveAll dialect firsts entries →
    (count : ℕ) × (lines : List FileLine) × AreNumbered dialect number physical count lines
    × (entries_of lines ≡ entries) × AreLogicalLines (drop count physical) others
with_numbers dialect [] others number physical entries are none = (0, [], refl, sym none, are)
with_numbers dialect (first ∷ firsts) others number physical entries (some, these, is, are)
    (front, after, gives, give, joined) =
    let rest = with_numbers dialect firsts others (number + these) (drop these physical) after are give in (
      these + rest.0,
      record { number = number; count = these; logical = first; entries = front } ∷ rest.1,
      (some, rest.0, refl, is, gives, rest.2, refl),
      rw joined (ap (◌++◌ front) rest.3),
      rw (drop-drop rest.0 these physical) at rest.4,
    )

-- there is no logical line, or the first one stays open
abbrev BeginsOpen : List Logical → Type 0
BeginsOpen [] = Unit {0}
BeginsOpen (line ∷ lines) = IsOpenEnd line

-- the logical lines before an open end are the first
first_closed : (lines : List Logical) →
    (others : List Logical) × (lines ≡ without_open_end lines ++ others) × BeginsOpen others
first_closed [] = ([], refl, tt)
first_closed (StaysOpen text index ∷ lines) = (StaysOpen text index ∷ lines, refl, tt)
first_closed (Skip ∷ lines) = let rest = first_closed lines in (rest.0, ap (◌∷◌ Skip) rest.1, rest.2)
first_closed (HasText text ∷ lines) = let rest = first_closed lines in (rest.0, ap (◌∷◌ (HasText text)) rest.1, rest.2)
first_closed (Broken ∷ lines) = let rest = first_closed lines in (rest.0, ap (◌∷◌ Broken) rest.1, rest.2)

-- physical lines that make logical lines of which the first stays open begin with no complete line
none_complete : (physical : Lines) (lines : List Logical) → AreCut physical → AreLogicalLines physical lines →
    BeginsOpen lines → NoneComplete physical
none_complete physical [] cut none opens count next some is = absurd (some none)
none_complete physical (line ∷ lines) cut are opens count next some is =
    let once = one_next physical are.1 count line next some cut are.2 is in rw once.1 at opens

-- one logical line gives one list of entries
pub gives_same : (dialect : Dialect) (line : Logical) (front other : List Entry) → Gives dialect line front →
    Gives dialect line other → front ≡ other
gives_same dialect line front other a b =
    all_once dialect (line ∷ []) front (front, [], a, refl, sym (append-nil front))
    ∙ sym (all_once dialect (line ∷ []) other (other, [], b, refl, sym (append-nil other)))

-- two lines of which all is the same are the same
same_line : (a b : FileLine) → a.number ≡ b.number → a.count ≡ b.count → a.logical ≡ b.logical →
    a.entries ≡ b.entries → a ≡ b
same_line a b number count logical entries =
    λ i. record { number = number i; count = count i; logical = logical i; entries = entries i }

-- a line that stays open has an entry
open_entries : (dialect : Dialect) (line : Logical) (front after : List Entry) → IsOpenEnd line →
    Gives dialect line front → front ++ after ≢ []
open_entries dialect Skip front after opens gives = absurd opens
open_entries dialect (HasText text) front after opens gives = absurd opens
open_entries dialect (StaysOpen text index) front after opens gives = λ e. cc
open_entries dialect Broken front after opens gives = absurd opens

-- lines of the same physical lines, behind which no line is complete, are the same if their entries are
same_numbering : (dialect : Dialect) (number count sum : ℕ) (physical : Lines) (lines others : List FileLine) →
    AreCut physical → AreNumbered dialect number physical count lines → NoneComplete (drop count physical) →
    AreNumbered dialect number physical sum others → NoneComplete (drop sum physical) →
    entries_of lines ≡ entries_of others → lines ≡ others
same_numbering dialect number count sum physical [] [] cut a rest b rest_also same = refl
same_numbering dialect number count sum physical [] (other ∷ others) cut none rest
    (some, later, own, is, gives, are, adds) rest_also same =
    let opens = (rw none at rest) other.count other.logical some is in
    absurd (open_entries dialect other.logical other.entries (entries_of others) opens gives (sym same))
same_numbering dialect number count sum physical (line ∷ lines) [] cut (some, later, own, is, gives, are, adds) rest
    none rest_also same =
    let opens = (rw none at rest_also) line.count line.logical some is in
    absurd (open_entries dialect line.logical line.entries (entries_of lines) opens gives same)
same_numbering dialect number count sum physical (line ∷ lines) (other ∷ others) cut
    (some, later, own, is, gives, are, adds) rest
    (also, further, own_also, is_also, gives_also, are_also, adds_also) rest_also same =
    let once = one_next physical line.count other.count line.logical other.logical some cut is is_also in
    let entries = gives_same dialect other.logical line.entries other.entries (rw once.1 at gives) gives_also in
    let joins : other.entries ++ entries_of lines ≡ other.entries ++ entries_of others = rw entries at same in
    let later_same =
    same_numbering dialect (number + other.count) later further (drop other.count physical) lines others
    (cut_drop other.count physical cut) (rw once.0 at are)
    (rw (drop-drop later other.count physical, ← once.0, ← adds) rest) are_also
    (rw (drop-drop further other.count physical, ← adds_also) rest_also)
    (append_cancel_left other.entries (entries_of lines) (entries_of others) joins) in
    rw (same_line line other (own ∙ sym own_also) once.0 once.1 entries, later_same) refl

-- the entries of the lines of bytes are the entries of the bytes
pub numbered_entries : (dialect : Dialect) (number : ℕ) (bytes : List ℕ) (lines : List FileLine) →
    HasNumbered dialect number bytes lines → HasEntries dialect bytes (entries_of lines)
numbered_entries dialect number bytes lines has =
    let k = are_entries dialect number has.count (line_texts bytes) lines has.are has.all in
    record { lines = logicals_of lines; are_lines = k.0; give = k.1 }

-- behind all lines there is no complete one
none_behind : (physical : Lines) → physical ≡ [] → NoneComplete physical
none_behind physical none count next some is = absurd (some none)

-- the lines of bytes are there once
pub numbered_once : (dialect : Dialect) (number : ℕ) (bytes : List ℕ) (lines others : List FileLine) →
    HasNumbered dialect number bytes lines → HasNumbered dialect number bytes others → lines ≡ others
numbered_once dialect number bytes lines others has also =
    same_numbering dialect number has.count also.count (line_texts bytes) lines others (cut_line_texts bytes) has.are
    (none_behind (drop has.count (line_texts bytes)) has.all) also.are
    (none_behind (drop also.count (line_texts bytes)) also.all)
    (entries_once dialect bytes _ _ (numbered_entries dialect number bytes lines has)
    (numbered_entries dialect number bytes others also))

-- bytes have one list of lines, with the entries of the bytes
pub one_numbering : HasOneNumbering
one_numbering dialect number bytes =
    let (entries, has) = entries_exist dialect bytes in
    let (count, lines, are, same, left) =
    with_numbers dialect has.lines [] number (line_texts bytes) entries (rw append-nil has.are_lines) has.give in
    let numbered : HasNumbered dialect number bytes lines = record { count = count; are = are; all = left } in (
      lines,
      numbered,
      rw same has,
      λ others other. numbered_once dialect number bytes others lines other numbered,
    )

-- the lines that bytes decide are there once
pub decided_numbers_once : (dialect : Dialect) (number : ℕ) (bytes : List ℕ) (lines others : List FileLine) →
    DecidesNumbered dialect number bytes lines → DecidesNumbered dialect number bytes others → lines ≡ others
decided_numbers_once dialect number bytes lines others has also =
    let front = up_to_last_line_feed bytes in
    same_numbering dialect number has.count also.count (line_texts front) lines others (cut_line_texts front) has.are
    has.rest also.are also.rest (decided_once dialect bytes _ _ has.decided also.decided)

-- bytes decide one list of lines
pub one_numbered_decision : HasOneNumberedDecision
one_numbered_decision dialect number bytes =
    let front = up_to_last_line_feed bytes in
    let (entries, has) = decided_exist dialect bytes in
    let closed = without_open_end has.lines in
    let (opened, cut, opens) = first_closed has.lines in
    let (count, lines, are, same, left) =
    with_numbers dialect closed opened number (line_texts front) entries (rw cut at has.are_lines) has.give in
    let decides : DecidesNumbered dialect number bytes lines = record {
      count = count;
      are = are;
      rest = none_complete (drop count (line_texts front)) opened
          (cut_drop count (line_texts front) (cut_line_texts front)) left opens;
      decided = rw same has;
    } in (lines, decides, λ others other. decided_numbers_once dialect number bytes others lines other decides)
