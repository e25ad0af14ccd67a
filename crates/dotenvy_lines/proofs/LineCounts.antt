-- There are no more entries than physical lines.
use Rattle.std.proofs.Common.{◌≡◌, ℕ, suc, ◌≤◌, List, [], ◌∷◌, length, length-append, length-drop, drop}
use Rattle.std.proofs.Common.{Option, Some, None, refl, ap, arith}
use Rattle.std.proofs.lemmas.List.{length-map}
use Rattle.std.specs.declared.io.ErrorKind.{ErrorKind}
use Rattle.dotenvy_format.specs.declared.dialect.Dialect.{Dialect}
use Rattle.dotenvy_format.specs.PhysicalLines.{physical_lines, line_text, line_texts}
use Rattle.dotenvy_format.specs.LogicalLine.{Logical, HasText, StaysOpen}
use Rattle.dotenvy_format.specs.Entries.{Entry, Declares, Fails, AreLogicalLines, Gives, GiveAll}
use Rattle.dotenvy_format.specs.Items.{LookUp, meaning, or_else, with_value, items_from}
use Rattle.dotenvy_format.specs.Decided.{up_to_last_line_feed, without_open_end}
use Rattle.dotenvy_lines.specs.Reading.{HasEntriesLeft}
use Rattle.dotenvy_format.proofs.lines.EntriesOnce.{some_length, next_positive}
use Rattle.dotenvy_format.proofs.lines.DecidedFront.{front_is}

-- a logical line gives one entry at most
gives_one : (dialect : Dialect) (next : Logical) (entries : List Entry) → Gives dialect next entries →
    length entries ≤ 1
gives_one dialect (HasText text) entries (outcome, says, is) = rw is (grind arith)
gives_one dialect _ entries gives = rw gives (omega arith)

-- logical lines give no more entries than there are lines
give_count : (dialect : Dialect) (lines : List Logical) (entries : List Entry) → GiveAll dialect lines entries →
    length entries ≤ length lines
give_count dialect [] entries gives = rw gives (omega arith)
give_count dialect (next ∷ lines) entries (front, after, gives, later, is) =
    rw (is, length-append) (omega (arith, gives_one dialect next front gives, give_count dialect lines after later))

-- a logical line has one physical line at least
lines_count : (lines : List (Option (List ℕ))) (logical : List Logical) → AreLogicalLines lines logical →
    length logical ≤ length lines
lines_count lines [] are = omega arith
lines_count lines (next ∷ logical) (some, k, is, later) =
    let positive = next_positive lines k next some is in
    let rest = lines_count (drop k lines) logical later in
    omega (arith, positive, rest, some_length lines some, length-drop k lines)

-- the logical lines before an open end are no more than all of them
closed_count : (lines : List Logical) → length (without_open_end lines) ≤ length lines
closed_count [] = omega arith
closed_count (StaysOpen text n ∷ lines) = omega arith
closed_count (_ ∷ lines) = omega (arith, closed_count lines)

-- bytes up to their last line feed have no more physical lines than all the bytes
front_count : (bytes : List ℕ) → length (physical_lines (up_to_last_line_feed bytes)) ≤ length (physical_lines bytes)
front_count bytes =
    let front = front_is bytes in
    let l = rw (← front.joins) at (ap length (front.ends front.after)) in
    omega (arith, l, length-append (physical_lines (up_to_last_line_feed bytes)) (physical_lines front.after))

-- there are no more entries than physical lines
pub entries_count : (dialect : Dialect) (fault : Option ErrorKind) (bytes : List ℕ) (entries : List Entry) →
    HasEntriesLeft dialect fault bytes entries → length entries ≤ length (physical_lines bytes)
entries_count dialect None bytes entries has =
    let logical = lines_count (line_texts bytes) has.lines has.are_lines in
    let given = give_count dialect has.lines entries has.give in
    omega (arith, logical, given, length-map (physical_lines bytes) line_text)
entries_count dialect (Some kind) bytes entries has =
    let front = up_to_last_line_feed bytes in
    let logical = lines_count (line_texts front) has.lines has.are_lines in
    let given = give_count dialect (without_open_end has.lines) entries has.give in
    omega (
      arith,
      logical,
      given,
      closed_count has.lines,
      front_count bytes,
      length-map (physical_lines front) line_text,
    )

-- each entry is one item
pub items_count : (env remembered : LookUp) (entries : List Entry) →
    length (items_from env remembered entries) ≡ length entries
items_count env remembered [] = refl
items_count env remembered (Declares key pieces ∷ entries) =
    ap suc (items_count env (with_value remembered key (meaning (or_else env remembered) pieces)) entries)
items_count env remembered (Fails failure ∷ entries) = ap suc (items_count env remembered entries)
