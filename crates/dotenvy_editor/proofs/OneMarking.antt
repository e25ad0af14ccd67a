-- Bytes have their entries in one marking for a key.
use Rattle.std.proofs.Common.{◌≡◌, ℕ, true, not, List, [], ◌∷◌, ◌++◌, map, refl, sym, ◌∙◌, ap}
use Rattle.std.proofs.Common.{append-nil, inl, inr, length, Ok, Err, arith}
use Rattle.std.specs.Prelude.{◌⊎◌, bytes_eq}
use Rattle.std.specs.Cmp.Lexicographic.{other_text, same_text}
use Rattle.std.proofs.lemmas.Bool.{cases_Bool}
use Rattle.std.proofs.lemmas.Bool.Decides.{nat_tests}
use Rattle.std.proofs.lemmas.List.{map-append}
use Rattle.dotenvy_format.specs.declared.dialect.Dialect.{Dialect}
use Rattle.dotenvy_format.specs.PhysicalLines.{line_texts}
use Rattle.dotenvy_format.specs.LogicalLine.{Broken, HasText, Logical, Skip, StaysOpen}
use Rattle.dotenvy_format.specs.Entries.{Entry, GiveAll, Gives, HasEntries}
use Rattle.dotenvy_format.specs.Outcome.{Fault, Nothing, Pair, is_nothing, trimmed}
use Rattle.dotenvy_format.specs.inside.ParseStatement.{Parsed, parse}
use Rattle.dotenvy_format.proofs.lines.EntriesOnce.{all_give, all_once, cut_line_texts, lines_within, one_list}
use Rattle.dotenvy_format.proofs.statements.Statements.{one_statement, statement-parses}
use Rattle.dotenvy_format.proofs.statements.StatementPlaces.{parse-statement}
use Rattle.dotenvy_editor.specs.Assignments.{AssignsKey}
use Rattle.dotenvy_editor.specs.Laws.{Marked, Assigned, Other, AreMarked, GiveAllMarked, GivesMarked, HasMarked}
use Rattle.dotenvy_editor.specs.Laws.{entry_of}

-- a text is an assignment of the key, or it isn't
text_assigns : (key text : List ℕ) → AssignsKey key (HasText text) ⊎ ¬ (AssignsKey key (HasText text))
text_assigns key text = elim (cases_Bool (is_nothing (trimmed text))) [
  | inl h ↦ inr (λ assigns. let some = assigns.0 in absurd (grind (arith, nat_tests)))
  | inr h ↦ at (parse (trimmed text)) refl (rw h refl)
]
  where
    at : (p : Parsed) → parse (trimmed text) ≡ p → not (is_nothing (trimmed text)) ≡ true →
        AssignsKey key (HasText text) ⊎ ¬ (AssignsKey key (HasText text))
    at (Err left) e some = inr (λ assigns. let parses = statement-parses assigns.2 in cc)
    at (Ok (name, rest)) e some =
        let is = parse-statement (trimmed text) name rest e in
        elim (cases_Bool (bytes_eq name key)) [
          | inl h ↦ let same = same_text name key (sym h) in inl (some, rest, rw same at is)
          | inr h ↦
              let differs = other_text name key (sym h) in
              inr (λ assigns. differs (one_statement (trimmed text) name rest key assigns.1 is assigns.2).0)
        ]

assigns_or_not : (key : List ℕ) (logical : Logical) → AssignsKey key logical ⊎ ¬ (AssignsKey key logical)
assigns_or_not key (HasText text) = text_assigns key text
assigns_or_not key Skip = inr (λ h. h)
assigns_or_not key (StaysOpen text index) = inr (λ h. h)
assigns_or_not key Broken = inr (λ h. h)

-- a logical line gives marked entries
marked_exist : (dialect : Dialect) (key : List ℕ) (logical : Logical) →
    (marked : List Marked) × GivesMarked dialect key logical marked
marked_exist dialect key logical =
    let all = all_give dialect (logical ∷ []) in
    elim (assigns_or_not key logical) [
      | inl own ↦ (map Assigned all.0, (all.0, all.2, inl (own, refl)))
      | inr other ↦ (map Other all.0, (all.0, all.2, inr (other, refl)))
    ]

all_exist : (dialect : Dialect) (key : List ℕ) (lines : List Logical) →
    (marked : List Marked) × GiveAllMarked dialect key lines marked
all_exist dialect key [] = ([], refl)
all_exist dialect key (line ∷ lines) =
    let first = marked_exist dialect key line in
    let rest = all_exist dialect key lines in
    (first.0 ++ rest.0, (first.0, rest.0, first.1, rest.1, refl))

-- the entries of a logical line are one list
gives_once : (dialect : Dialect) (logical : Logical) (es fs : List Entry) → Gives dialect logical es →
    Gives dialect logical fs → es ≡ fs
gives_once dialect logical es fs a b =
    all_once dialect (logical ∷ []) es (es, [], a, refl, sym (append-nil es))
    ∙ sym (all_once dialect (logical ∷ []) fs (fs, [], b, refl, sym (append-nil fs)))

-- so are its marked entries
marked_once : (dialect : Dialect) (key : List ℕ) (logical : Logical) (a b : List Marked) →
    GivesMarked dialect key logical a → GivesMarked dialect key logical b → a ≡ b
marked_once dialect key logical a b (es, gives, inl (own, f)) (fs, also, inl (too, g)) =
    f ∙ ap (map Assigned) (gives_once dialect logical es fs gives also) ∙ sym g
marked_once dialect key logical a b (es, gives, inl (own, f)) (fs, also, inr (differs, g)) = absurd (differs own)
marked_once dialect key logical a b (es, gives, inr (differs, f)) (fs, also, inl (own, g)) = absurd (differs own)
marked_once dialect key logical a b (es, gives, inr (differs, f)) (fs, also, inr (other, g)) =
    f ∙ ap (map Other) (gives_once dialect logical es fs gives also) ∙ sym g

all_marked_once : (dialect : Dialect) (key : List ℕ) (lines : List Logical) (a b : List Marked) →
    GiveAllMarked dialect key lines a → GiveAllMarked dialect key lines b → a ≡ b
all_marked_once dialect key [] a b e f = e ∙ sym f
all_marked_once dialect key (line ∷ lines) a b (front, after, gives, rest, e) (first, later, also, others, f) =
    rw (
      e,
      f,
      marked_once dialect key line front first gives also,
      all_marked_once dialect key lines after later rest others,
    ) refl

-- without their marks the entries are those of the lines
assigned_entries : (entries : List Entry) → map entry_of (map Assigned entries) ≡ entries
assigned_entries [] = refl
assigned_entries (entry ∷ entries) = ap (◌∷◌ entry) (assigned_entries entries)

other_entries : (entries : List Entry) → map entry_of (map Other entries) ≡ entries
other_entries [] = refl
other_entries (entry ∷ entries) = ap (◌∷◌ entry) (other_entries entries)

unmarked_gives : (dialect : Dialect) (key : List ℕ) (logical : Logical) (marked : List Marked) →
    GivesMarked dialect key logical marked → Gives dialect logical (map entry_of marked)
unmarked_gives dialect key logical marked (entries, gives, inl (own, f)) = rw (f, assigned_entries entries) gives
unmarked_gives dialect key logical marked (entries, gives, inr (differs, f)) = rw (f, other_entries entries) gives

all_unmarked : (dialect : Dialect) (key : List ℕ) (lines : List Logical) (marked : List Marked) →
    GiveAllMarked dialect key lines marked → GiveAll dialect lines (map entry_of marked)
all_unmarked dialect key [] marked e = rw e refl
all_unmarked dialect key (line ∷ lines) marked (front, after, gives, rest, e) = (
  map entry_of front,
  map entry_of after,
  unmarked_gives dialect key line front gives,
  all_unmarked dialect key lines after rest,
  ap (map entry_of) e ∙ map-append entry_of front after,
)

-- declarations are marked by their keys
marks_join : (key : List ℕ) (xs ys : List Marked) → AreMarked key xs → AreMarked key ys → AreMarked key (xs ++ ys)
marks_join key [] ys a b = b
marks_join key (x ∷ xs) ys (first, a) b = (first, marks_join key xs ys a b)

text_own : (dialect : Dialect) (key text : List ℕ) (entries : List Entry) → AssignsKey key (HasText text) →
    Gives dialect (HasText text) entries → AreMarked key (map Assigned entries)
text_own dialect key text entries assigns (Nothing, says, e) = rw e tt
text_own dialect key text entries assigns (Pair name pieces, says, e) =
    rw e ((one_statement (trimmed text) name says.1 key assigns.1 says.2 assigns.2).0, tt)
text_own dialect key text entries assigns (Fault rest index, says, e) = rw e (tt, tt)

text_other : (dialect : Dialect) (key text : List ℕ) (entries : List Entry) → ¬ (AssignsKey key (HasText text)) →
    Gives dialect (HasText text) entries → AreMarked key (map Other entries)
text_other dialect key text entries differs (Nothing, says, e) = rw e tt
text_other dialect key text entries differs (Pair name pieces, says, e) =
    rw e (λ same. differs (says.0, says.1, rw same at says.2), tt)
text_other dialect key text entries differs (Fault rest index, says, e) = rw e (tt, tt)

line_marks : (dialect : Dialect) (key : List ℕ) (logical : Logical) (marked : List Marked) →
    GivesMarked dialect key logical marked → AreMarked key marked
line_marks dialect key (HasText text) marked (entries, gives, inl (own, f)) =
    rw f (text_own dialect key text entries own gives)
line_marks dialect key (HasText text) marked (entries, gives, inr (differs, f)) =
    rw f (text_other dialect key text entries differs gives)
line_marks dialect key Skip marked (entries, gives, inl (own, f)) = absurd own
line_marks dialect key Skip marked (entries, gives, inr (differs, f)) = rw (f, gives) tt
line_marks dialect key (StaysOpen text index) marked (entries, gives, inl (own, f)) = absurd own
line_marks dialect key (StaysOpen text index) marked (entries, gives, inr (differs, f)) = rw (f, gives) (tt, tt)
line_marks dialect key Broken marked (entries, gives, inl (own, f)) = absurd own
line_marks dialect key Broken marked (entries, gives, inr (differs, f)) = rw (f, gives) (tt, tt)

all_marks : (dialect : Dialect) (key : List ℕ) (lines : List Logical) (marked : List Marked) →
    GiveAllMarked dialect key lines marked → AreMarked key marked
all_marks dialect key [] marked e = rw e tt
all_marks dialect key (line ∷ lines) marked (front, after, gives, rest, e) =
    rw e (marks_join key front after (line_marks dialect key line front gives) (all_marks dialect key lines after rest))

-- bytes have their entries in one marking alone, and in it declarations are marked by their keys
pub one_marking : (dialect : Dialect) (key bytes : List ℕ) →
    (marked : List Marked) × HasMarked dialect key bytes marked × HasEntries dialect bytes (map entry_of marked)
    × AreMarked key marked × ((others : List Marked) → HasMarked dialect key bytes others → others ≡ marked)
one_marking dialect key bytes =
    let texts = line_texts bytes in
    let cut = cut_line_texts bytes in
    let lines = lines_within (length texts) texts (omega arith) cut in
    let all = all_exist dialect key lines.0 in (
      all.0,
      record { lines = lines.0; are_lines = lines.1; give = all.1 },
      record { lines = lines.0; are_lines = lines.1; give = all_unmarked dialect key lines.0 all.0 all.1 },
      all_marks dialect key lines.0 all.0 all.1,
      λ others has.
          let same = one_list texts has.lines lines.0 cut has.are_lines lines.1 in
          all_marked_once dialect key lines.0 others all.0 (rw same at has.give) all.1,
    )
