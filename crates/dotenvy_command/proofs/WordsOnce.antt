-- Words have one reading as groups and an ending.
use Rattle.std.proofs.Common.{◌≡◌, ℕ, true, false, ◌&&◌, ◌||◌, not, List, [], ◌∷◌, ◌++◌, refl}
use Rattle.std.proofs.Common.{sym, ◌∙◌, ap, append_assoc, drop, take, length, Result}
use Rattle.std.specs.Prelude.{IsTrue, codes, nat_eq, bytes_eq, if◌then◌else◌}
use Rattle.std.specs.List.{flat_map, starts_with}
use Rattle.std.specs.Cmp.Lexicographic.{same_text}
use Rattle.std.proofs.lemmas.List.{take-append-drop}
use Rattle.std.proofs.lemmas.Bool.{and_parts, or_parts, not-true, not-false, both_ways, false_from_ne_true, cond_both}
use Rattle.dotenvy_command.specs.Words.{Form, short, long, Group, next_file, joined_file, assigned_file}
use Rattle.dotenvy_command.specs.Words.{list, next, WordsEnd, no_ending, missing_file, unknown}
use Rattle.dotenvy_command.specs.Words.{command, file_word, group_words, ending_words, is_option}
use Rattle.dotenvy_command.specs.Words.{begins_group, IsGroup, AreGroups, IsWordsEnd, AreWords}
use Rattle.dotenvy_command.specs.Words.{CommandLine, Usage, answer_to, HasUsage}

-- what a word is by itself
pub data Kind : Type 0 where
  takes_file : Form → Kind
  single : Group → Kind
  unknown_option : Kind
  command_word : Kind

-- the kind of a word, by its first characters
abbrev pub kind : List ℕ → Kind
kind w =
    if not (is_option w) then command_word else
    if bytes_eq w (codes "-f") then takes_file short else
    if starts_with nat_eq w (codes "-f") then single (joined_file (drop 2 w)) else
    if bytes_eq w (codes "--file") then takes_file long else
    if starts_with nat_eq w (codes "--file=") then single (assigned_file (drop 7 w)) else
    if bytes_eq w (codes "--list") then single list else
    if bytes_eq w (codes "--next") then single next else unknown_option

-- the groups that were read, and the ending
abbrev pub Reading : Type 0
Reading = List Group × WordsEnd

-- what was read, with one group more at its front
abbrev pub grouped : Group → Reading → Reading
grouped group (groups, ending) = (group ∷ groups, ending)

-- what a word gives by its kind before others: `this` is read from the next word on, `after` from the one after it
abbrev pub first : Kind → List ℕ → List (List ℕ) → Reading → Reading → Reading
first (takes_file form) w [] this after = ([], missing_file form)
first (takes_file form) w (x ∷ ws) this after = grouped (next_file form x) after
first (single group) w ws this after = grouped group this
first unknown_option w ws this after = ([], unknown w ws)
first command_word w ws this after = ([], command w ws)

-- what words are read as, from left to right, and what those after the first one are read as
abbrev pub readings : List (List ℕ) → Reading × Reading
readings [] = (([], no_ending), ([], no_ending))
readings (w ∷ ws) = (first (kind w) w ws (readings ws).0 (readings ws).1, (readings ws).0)

-- what words are read as: groups, and an ending
abbrev pub read : List (List ℕ) → Reading
read words = (readings words).0

-- a word that does not begin with `-f` is not `-f`
front_f : (w : List ℕ) → starts_with nat_eq w (codes "-f") ≡ false → bytes_eq w (codes "-f") ≡ false
front_f w h = false_from_ne_true _ (λ e. both_ways _ (rw (same_text w (codes "-f") (sym e)) at h) refl)

-- an option that begins no group is an unknown option by its kind
kind_unknown : (w : List ℕ) → IsTrue (is_option w && not (begins_group w)) → kind w ≡ unknown_option
kind_unknown w h =
    let both = and_parts (is_option w) (not (begins_group w)) h in
    let front = starts_with nat_eq w (codes "-f") in
    let word = bytes_eq w (codes "--file") in
    let assigned = starts_with nat_eq w (codes "--file=") in
    let none = or_parts ((front || word) || assigned) _ (not-true (begins_group w) both.1) in
    let files = or_parts (front || word) assigned none.0 in
    let fronts = or_parts front word files.0 in
    let flags = or_parts (bytes_eq w (codes "--list")) (bytes_eq w (codes "--next")) none.1 in
    rw (both.0, front_f w fronts.0, fronts.0, fronts.1, files.1, flags.0, flags.1) refl

-- the words of an ending are read as that ending, with no group before it
read_ending : (ending : WordsEnd) → IsWordsEnd ending → read (ending_words ending) ≡ ([], ending)
read_ending no_ending is = refl
read_ending (missing_file short) is = refl
read_ending (missing_file long) is = refl
read_ending (unknown w ws) is = rw (kind_unknown w is) refl
read_ending (command w ws) is = rw is refl

-- the words of groups and then of an ending are read as these groups and this ending
read_groups : (groups : List Group) (ending : WordsEnd) → AreGroups groups → IsWordsEnd ending →
    read (flat_map group_words groups ++ ending_words ending) ≡ (groups, ending)
read_groups [] ending are is = read_ending ending is
read_groups (next_file short name ∷ groups) ending are is =
    ap (grouped (next_file short name)) (read_groups groups ending are.1 is)
read_groups (next_file long name ∷ groups) ending are is =
    ap (grouped (next_file long name)) (read_groups groups ending are.1 is)
read_groups (joined_file [] ∷ groups) ending are is = absurd (are.0 refl)
read_groups (joined_file (c ∷ tail) ∷ groups) ending are is =
    ap (grouped (joined_file (c ∷ tail))) (read_groups groups ending are.1 is)
read_groups (assigned_file name ∷ groups) ending are is =
    ap (grouped (assigned_file name)) (read_groups groups ending are.1 is)
read_groups (list ∷ groups) ending are is = ap (grouped list) (read_groups groups ending are.1 is)
read_groups (next ∷ groups) ending are is = ap (grouped next) (read_groups groups ending are.1 is)

-- words are read as their groups and their ending
pub read-words : (words : List (List ℕ)) (groups : List Group) (ending : WordsEnd) → AreWords words groups ending →
    read words ≡ (groups, ending)
read-words words groups ending are = ap read are.spelled ∙ read_groups groups ending are.are_groups are.is_ending

-- What was read are groups and an ending.
-- a word is of a kind: `-f` or `--file`, a group by itself, an option that begins no group, or no option
abbrev IsKind : List ℕ → Kind → Type 0
IsKind w (takes_file form) = w ≡ file_word form
IsKind w (single group) = IsGroup group × (group_words group ≡ w ∷ [])
IsKind w unknown_option = IsTrue (is_option w && not (begins_group w))
IsKind w command_word = IsTrue (not (is_option w))

-- a word that begins with a front is that front and what is left of the word after it
front_is : (w front : List ℕ) → starts_with nat_eq w front ≡ true → front ++ drop (length front) w ≡ w
front_is w front h =
    rw (← (same_text front (take (length front) w) (sym h))) at (take-append-drop (length front) w)

-- where a word is `-f` with a tail, but not `-f` alone, the tail is not empty
joined_some : (w tail : List ℕ) → bytes_eq w (codes "-f") ≡ false → codes "-f" ++ tail ≡ w → IsGroup (joined_file tail)
joined_some w [] h e none = both_ways _ (rw (← e) at h) refl
joined_some w (c ∷ tail) h e none = cc

-- each word is of the kind that is found by its first characters
kind_is : (w : List ℕ) → IsKind w (kind w)
kind_is w =
    cond_both (not (is_option w)) _ _ (IsKind w) (λ no. no) (λ o.
    cond_both (bytes_eq w (codes "-f")) _ _ (IsKind w) (λ yes. same_text w _ (sym yes)) (λ e.
    cond_both (starts_with nat_eq w (codes "-f")) _ _ (IsKind w)
    (λ yes. let f = front_is w (codes "-f") yes in (joined_some w (drop 2 w) e f, rw f refl)) (λ s.
    cond_both (bytes_eq w (codes "--file")) _ _ (IsKind w) (λ yes. same_text w _ (sym yes)) (λ l.
    cond_both (starts_with nat_eq w (codes "--file=")) _ _ (IsKind w)
    (λ yes. (tt, rw (front_is w (codes "--file=") yes) refl)) (λ a.
    cond_both (bytes_eq w (codes "--list")) _ _ (IsKind w) (λ yes. (tt, rw (same_text w _ (sym yes)) refl)) (λ t.
    cond_both (bytes_eq w (codes "--next")) _ _ (IsKind w) (λ yes. (tt, rw (same_text w _ (sym yes)) refl))
    (λ n. rw (not-false _ o, s, l, a, t, n) refl)))))))

-- the words are the groups and the ending of this reading
abbrev Reads : List (List ℕ) → Reading → Type 0
Reads words (groups, ending) = AreWords words groups ending

-- where words have a reading, the words of a group before them have it with that group at its front
group_first : (group : Group) (front words : List (List ℕ)) (r : Reading) → IsGroup group →
    group_words group ≡ front → Reads words r → Reads (front ++ words) (grouped group r)
group_first group front words (groups, ending) is e are =
    record {
      are_groups = (is, are.are_groups);
      is_ending = are.is_ending;
      spelled = rw (← e, are.spelled, append_assoc) refl;
    }

-- the words of an ending are that ending, with no group before it
only : (ending : WordsEnd) → IsWordsEnd ending → Reads (ending_words ending) ([], ending)
only ending is = record { are_groups = tt; is_ending = is; spelled = refl }

-- a word before others, of whatever kind, is what it gives by that kind, where the others are what they give
first_reads : (w : List ℕ) (ws : List (List ℕ)) (k : Kind) (this after : Reading) → IsKind w k → Reads ws this →
    Reads (drop 1 ws) after → Reads (w ∷ ws) (first k w ws this after)
first_reads w [] (takes_file form) this after is h g = rw is (only (missing_file form) tt)
first_reads w (x ∷ ws) (takes_file form) this after is h g = rw is (group_first (next_file form x) _ ws after tt refl g)
first_reads w ws (single group) this after is h g = group_first group (w ∷ []) ws this is.0 is.1 h
first_reads w ws unknown_option this after is h g = only (unknown w ws) is
first_reads w ws command_word this after is h g = only (command w ws) is

-- all words, and those after the first one, are the groups and the ending that they are read as
all_read : (words : List (List ℕ)) → Reads words (readings words).0 × Reads (drop 1 words) (readings words).1
all_read [] = (only no_ending tt, only no_ending tt)
all_read (w ∷ ws) =
    let both = all_read ws in
    (first_reads w ws (kind w) (readings ws).0 (readings ws).1 (kind_is w) both.0 both.1, both.0)

-- all words are the groups that are read of them, and then the ending that is read of them
pub words-read : (words : List (List ℕ)) → AreWords words (read words).0 (read words).1
words-read words = (all_read words).0

-- words are one row of groups and one ending alone
pub one_reading_of_words : (words : List (List ℕ)) (groups others : List Group) (ending other : WordsEnd) →
    AreWords words groups ending → AreWords words others other → (others ≡ groups) × (other ≡ ending)
one_reading_of_words words groups others ending other is also =
    let e = sym (read-words words others other also) ∙ read-words words groups ending is in
    (ap (λ r. r.0) e, ap (λ r. r.1) e)

-- words have an answer
pub usage_exists : (words : List (List ℕ)) → (answer : Result CommandLine Usage) × HasUsage words answer
usage_exists words = (answer_to (read words).0 (read words).1, ((read words).0, (read words).1, words-read words, refl))

-- two answers that the same words have are one
pub one_usage_of_words : (words : List (List ℕ)) (answer other : Result CommandLine Usage) → HasUsage words answer →
    HasUsage words other → other ≡ answer
one_usage_of_words words answer other (groups, ending, is, e) (groups', ending', is', e') =
    let s = one_reading_of_words words groups groups' ending ending' is is' in rw (e, e', s.0, s.1) refl
