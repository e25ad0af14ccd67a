-- A key that can be unset still can after another one is unset, and nothing refuses it.
use Rattle.std.proofs.Common.{◌≡◌, ◌≢◌, ◌⊎◌, ℕ, true, not, List, [], ◌∷◌, ◌++◌, refl, sym, ap, ◌∙◌}
use Rattle.std.proofs.Common.{append_assoc, arith, inl, inr, subst}
use Rattle.std.specs.Prelude.{IsTrue, encode_utf8_all, if◌then◌else◌}
use Rattle.std.specs.List.{flat_map}
use Rattle.std.proofs.lemmas.Bool.{cases_Bool}
use Rattle.std.proofs.lemmas.List.{append_cancel_right}
use Rattle.std.proofs.lemmas.Str.{encodes-append}
use Rattle.dotenvy_format.specs.declared.dialect.Dialect.{Dialect}
use Rattle.dotenvy_format.specs.Characters.{is_empty_or_comment, line_feed}
use Rattle.dotenvy_format.specs.Keys.{is_key}
use Rattle.dotenvy_format.specs.LogicalLine.{Logical, Skip, HasText, StaysOpen, Broken, line_end}
use Rattle.dotenvy_format.specs.Marks.{byte_order_mark, without_mark}
use Rattle.dotenvy_format.specs.Outcome.{trimmed}
use Rattle.dotenvy_format.specs.Statement.{IsStatement}
use Rattle.dotenvy_format.specs.Value.{IsValue, close_pieces, segment_pieces}
use Rattle.dotenvy_format.proofs.lines.Cuts.{ten}
use Rattle.dotenvy_format.proofs.statements.Statements.{one_statement}
use Rattle.dotenvy_editor.specs.declared.refusal.Reason.{Reason}
use Rattle.dotenvy_editor.specs.declared.refusal.Reason.TheVariants as reason
use Rattle.dotenvy_editor.specs.Assignments.{AreOthers, Assigning, AssignsKey, IsOldValue, IsValuePart}
use Rattle.dotenvy_editor.specs.Assignments.{NoneAssigns}
use Rattle.dotenvy_editor.specs.Edits.{AssignsBefore, HasLongComment, NoLongComments, Unsets, behind_line, has_mark}
use Rattle.dotenvy_editor.specs.Forms.{is_long}
use Rattle.dotenvy_editor.specs.Refusals.{Place, RefusesUnset}
use Rattle.dotenvy_editor.specs.Slices.{AreSlices, ComeBefore, Slice, slices_bytes}
use Rattle.dotenvy_editor.proofs.EndBytes.{long-encodes}
use Rattle.dotenvy_editor.proofs.EntriesMarked.{statement_some}
use Rattle.dotenvy_editor.proofs.NotedLines.{bytes_more}
use Rattle.dotenvy_editor.proofs.OneCut.{one_cut, slices_once}
use Rattle.dotenvy_editor.proofs.ReadTexts.{one_key}
use Rattle.dotenvy_editor.proofs.SlicesChained.{AreChained, IsAlone, chain_of, chain_others, same_rest, slices_of}
use Rattle.dotenvy_editor.proofs.SliceTexts.{alone_text}
use Rattle.dotenvy_editor.proofs.SpotParts.{before_value, front_is, spot_front, statement_cut}
use Rattle.dotenvy_editor.proofs.TailPasses.{one_part}

-- One spot of a value.
-- a part of a value is one of a value
part_value : (dialect : Dialect) (assigned old : List ℕ) (p : IsValuePart dialect assigned old) →
    IsValue dialect assigned (flat_map segment_pieces p.segments ++ close_pieces p.close)
part_value dialect assigned old p = record {
  segments = p.segments;
  close = p.close;
  are_segments = p.are_segments;
  is_close = p.is_close;
  spelled = p.spelled;
  means = refl;
}

-- what is assigned has one old value
one_old : (dialect : Dialect) (assigned a b : List ℕ) → IsOldValue dialect assigned a →
    IsOldValue dialect assigned b → a ≡ b
one_old dialect assigned a b (inl (none, is)) (inl (also, too)) = is ∙ sym too
one_old dialect assigned a b (inl (none, is)) (inr (inl (some, p))) = absurd (grind arith)
one_old dialect assigned a b (inl (none, is)) (inr (inr (some, fails, all))) = absurd (grind arith)
one_old dialect assigned a b (inr (inl (some, p))) (inl (none, is)) = absurd (grind arith)
one_old dialect assigned a b (inr (inl (some, p))) (inr (inl (also, q))) =
    one_part dialect assigned a b p q
one_old dialect assigned a b (inr (inl (some, p))) (inr (inr (also, fails, all))) =
    absurd (fails _ (part_value dialect assigned a p))
one_old dialect assigned a b (inr (inr (some, fails, all))) (inl (none, is)) = absurd (grind arith)
one_old dialect assigned a b (inr (inr (some, fails, all))) (inr (inl (also, q))) =
    absurd (fails _ (part_value dialect assigned b q))
one_old dialect assigned a b (inr (inr (some, fails, all))) (inr (inr (also, none, too))) = all ∙ sym too

-- the same text is a statement with one front
one_front : {line other key name a b : List ℕ} (s : IsStatement line key a) (t : IsStatement other name b) →
    line ≡ other → a ≡ b → spot_front s ≡ spot_front t
one_front {a = a} {b = b} s t e f =
    let same : before_value s ≡ before_value t =
    append_cancel_right (before_value s) (before_value t) a
    (sym (statement_cut s) ∙ e ∙ statement_cut t ∙ ap (λ rest. before_value t ++ rest) (sym f)) in
    sym (front_is s) ∙ ap (λ front. if is_empty_or_comment a then trimmed front else front) same
    ∙ ap (λ rest. if is_empty_or_comment rest then trimmed (before_value t) else before_value t) f ∙ front_is t

-- a text in three parts has the bytes of each
three_parts : (a b c : List ℕ) →
    encode_utf8_all (a ++ (b ++ c)) ≡ encode_utf8_all a ++ (encode_utf8_all b ++ encode_utf8_all c)
three_parts a b c = rw (encodes-append a (b ++ c), encodes-append b c) refl

-- what comes after two parts that are the same is the same
rest_same : (a b c x y z bytes : List ℕ) → bytes ≡ encode_utf8_all (a ++ (b ++ c)) →
    bytes ≡ encode_utf8_all (x ++ (y ++ z)) → a ≡ x → b ≡ y → encode_utf8_all c ≡ encode_utf8_all z
rest_same a b c x y z bytes is also e f =
    let all : encode_utf8_all a ++ (encode_utf8_all b ++ encode_utf8_all c)
    ≡ encode_utf8_all a ++ (encode_utf8_all b ++ encode_utf8_all z) =
    sym (three_parts a b c) ∙ sym is ∙ also ∙ three_parts x y z ∙ rw (e, f) refl in
    same_rest (encode_utf8_all b) (encode_utf8_all c) (encode_utf8_all z)
    (same_rest (encode_utf8_all a) _ _ all)

-- lines with one text have one text
same_text : (logical : Logical) (a b : List ℕ) → logical ≡ HasText a → logical ≡ HasText b → a ≡ b
same_text logical a b e f = cc

-- a comment doesn't both go over several lines and stay on one
pub one_length : (dialect : Dialect) (key : List ℕ) (slice : Slice) → HasLongComment dialect key slice →
    AssignsBefore dialect key (λ rest. IsTrue (not (is_long rest))) slice → ⊥
one_length dialect key slice x y =
    let text = same_text slice.logical x.text y.text x.is_text y.is_text in
    let line : trimmed x.text ≡ trimmed y.text = ap trimmed text in
    let states : IsStatement (trimmed x.text) key y.is_spot.assigned = rw line y.is_spot.statement in
    let assigned : x.is_spot.assigned ≡ y.is_spot.assigned =
    (one_statement (trimmed x.text) key x.is_spot.assigned key y.is_spot.assigned x.is_spot.statement states).1 in
    let front : x.spot.front ≡ y.spot.front =
    x.is_spot.front_is ∙ one_front x.is_spot.statement y.is_spot.statement line assigned ∙ sym y.is_spot.front_is in
    let is_old : IsOldValue dialect x.is_spot.assigned y.spot.old = rw assigned y.is_spot.is_old in
    let old = one_old dialect x.is_spot.assigned x.spot.old y.spot.old x.is_spot.is_old is_old in
    let rest = rest_same x.spot.front x.spot.old x.spot.rest y.spot.front y.spot.old y.spot.rest slice.bytes
    x.is_spot.spelled y.is_spot.spelled front old in
    let long : is_long x.spot.rest ≡ is_long y.spot.rest =
    sym (long-encodes x.spot.rest) ∙ ap is_long rest ∙ long-encodes y.spot.rest in
    let holds : is_long x.spot.rest ≡ true = x.holds in
    let not_so : not (is_long y.spot.rest) ≡ true = y.holds in
    absurd (grind (arith, long, holds, not_so))

-- Keys that can be unset.
-- in bytes without their mark a line assigns the key, and no comment of such a line goes on over several lines
pub record CanUnset (dialect : Dialect) (key body : List ℕ) : Type 0 where
  pub named : is_key key ≡ true
  pub slices : List Slice
  pub are : AreSlices body slices
  pub some : ¬ (NoneAssigns key slices)
  pub short : NoLongComments dialect key slices

-- what a line assigns is a key
assigned_key : (key : List ℕ) (logical : Logical) → AssignsKey key logical → is_key key ≡ true
assigned_key key Skip assigns = absurd assigns
assigned_key key (HasText text) (some, assigned, is) = is.is_key
assigned_key key (StaysOpen text index) assigns = absurd assigns
assigned_key key Broken assigns = absurd assigns

-- a line among others assigns the key
some_assigns : (key : List ℕ) (before : List Slice) (slice : Slice) (after : List Slice) →
    AssignsKey key slice.logical → ¬ (NoneAssigns key (before ++ slice ∷ after))
some_assigns key [] slice after assigns none = none.0 assigns
some_assigns key (first ∷ before) slice after assigns none = some_assigns key before slice after assigns none.1

-- where lines before don't assign the key, no comment of such a line goes on over several lines
short_behind : (dialect : Dialect) (key : List ℕ) (before slices : List Slice) → NoneAssigns key before →
    NoLongComments dialect key slices → NoLongComments dialect key (before ++ slices)
short_behind dialect key [] slices none short = short
short_behind dialect key (first ∷ before) slices (differs, none) short =
    (inl differs, short_behind dialect key before slices none short)

-- a key that was unset could be
pub could_unset : (dialect : Dialect) (key bytes new : List ℕ) → Unsets dialect key bytes new →
    CanUnset dialect key (without_mark bytes)
could_unset dialect key bytes new u = record {
  named = assigned_key key u.slice.logical u.assigns;
  slices = u.before ++ u.slice ∷ u.after;
  are = u.are;
  some = some_assigns key u.before u.slice u.after u.assigns;
  short = short_behind dialect key u.before (u.slice ∷ u.after) u.none_before u.none_long;
}

-- slices before others, which are those of the later bytes
come_slices : (before : List Slice) (later : List ℕ) (after : List Slice) → ComeBefore before later →
    AreSlices later after → AreSlices (slices_bytes before ++ later) (before ++ after)
come_slices [] later after come are = are
come_slices (slice ∷ before) later after (is, come) are = (
  slices_bytes before ++ later,
  append_assoc slice.bytes (slices_bytes before) later,
  is,
  come_slices before later after come are,
)

-- of lines with short comments each has one
short_at : (dialect : Dialect) (key : List ℕ) (before : List Slice) (slice : Slice) (after : List Slice) →
    NoLongComments dialect key (before ++ slice ∷ after) →
    ¬ (Assigning key slice) ⊎ AssignsBefore dialect key (λ rest. IsTrue (not (is_long rest))) slice
short_at dialect key [] slice after short = short.0
short_at dialect key (first ∷ before) slice after short = short_at dialect key before slice after short.1

-- a line with a comment that goes on over several lines assigns the key
long_assigns : (dialect : Dialect) (key : List ℕ) (slice : Slice) → HasLongComment dialect key slice →
    Assigning key slice
long_assigns dialect key slice long =
    let is = long.is_spot in
    rw long.is_text (statement_some (trimmed long.text) key is.assigned is.statement, is.assigned, is.statement)

-- no line of a file in which the key can be unset has a comment of the key that goes on over several lines
none_long : (dialect : Dialect) (key body : List ℕ) → CanUnset dialect key body → (place : Place body) →
    ¬ (HasLongComment dialect key place.slice)
none_long dialect key body c place long =
    let front = place.before ++ place.slice ∷ [] in
    let (after, are, once) = one_cut place.later in
    let bytes : slices_bytes front ++ place.later ≡ body =
    ap (λ bytes. bytes ++ place.later) (bytes_more place.before place.slice)
    ∙ append_assoc (slices_bytes place.before) place.slice.bytes place.later ∙ sym place.cut in
    let P : List ℕ → Type 0 = λ bytes. AreSlices bytes (front ++ after) in
    let all = subst P bytes (come_slices front place.later after place.come are) in
    let same : c.slices ≡ place.before ++ place.slice ∷ after =
    slices_once body c.slices (front ++ after) c.are all ∙ append_assoc place.before (place.slice ∷ []) after in
    let short = subst (NoLongComments dialect key) same c.short in
    elim (short_at dialect key place.before place.slice after short) [
      | inl differs ↦ differs (long_assigns dialect key place.slice long)
      | inr one_line ↦ one_length dialect key place.slice long one_line
    ]

-- a file in which no line assigns the key is none in which it can be unset
none_assigns : (dialect : Dialect) (key body : List ℕ) → CanUnset dialect key body → (slices : List Slice) →
    AreSlices body slices → ¬ (NoneAssigns key slices)
none_assigns dialect key body c slices are none =
    c.some (subst (NoneAssigns key) (slices_once body slices c.slices are c.are) none)

-- nothing refuses to unset a key that can be unset
pub refuses_none : (dialect : Dialect) (key bytes : List ℕ) → CanUnset dialect key (without_mark bytes) →
    (why : Reason) (line : ℕ) → ¬ (RefusesUnset dialect key bytes why line)
refuses_none dialect key bytes c reason.Key line (no_key, at) = let is = c.named in absurd (grind (arith, no_key, is))
refuses_none dialect key bytes c reason.Nul line refuses = refuses
refuses_none dialect key bytes c reason.Absent line ((slices, are, none, readable), at) =
    none_assigns dialect key (without_mark bytes) c slices are none
refuses_none dialect key bytes c reason.Present line refuses = refuses
refuses_none dialect key bytes c reason.QuoteOpen line refuses = refuses
refuses_none dialect key bytes c reason.EndOpen line refuses = refuses
refuses_none dialect key bytes c reason.Unreadable line ((slices, are, none), at) =
    none_assigns dialect key (without_mark bytes) c slices are none
refuses_none dialect key bytes c reason.LongComment line (place, any, long, at) =
    none_long dialect key (without_mark bytes) c place long
refuses_none dialect key bytes c (reason.Unportable form) line refuses = refuses

-- Another key was unset.
-- a line assigns one key
one_assigned : (logical : Logical) (key other : List ℕ) → AssignsKey key logical → AssignsKey other logical →
    key ≡ other
one_assigned Skip key other assigns also = absurd assigns
one_assigned (HasText text) key other assigns also = one_key text key other assigns also
one_assigned (StaysOpen text index) key other assigns also = absurd assigns
one_assigned Broken key other assigns also = absurd assigns

-- where no line that is left assigns the other key, none did
none_did : (key other : List ℕ) → key ≢ other → (slices others : List Slice) → AreOthers key slices others →
    NoneAssigns other others → NoneAssigns other slices
none_did key other differ [] others are none = tt
none_did key other differ (slice ∷ slices) others (inl (assigns, are)) none = (
  λ also. differ (one_assigned slice.logical key other assigns also),
  none_did key other differ slices others are none,
)
none_did key other differ (slice ∷ slices) others (inr (not_so, later, is, are)) none =
    let both : NoneAssigns other (slice ∷ later) = subst (NoneAssigns other) is none in
    (both.0, none_did key other differ slices later are both.1)

-- what is left has no comment that goes on over several lines where there was none
short_others : (dialect : Dialect) (key other : List ℕ) (slices others : List Slice) → AreOthers key slices others →
    NoLongComments dialect other slices → NoLongComments dialect other others
short_others dialect key other [] others are short = rw are tt
short_others dialect key other (slice ∷ slices) others (inl (assigns, are)) (first, short) =
    short_others dialect key other slices others are short
short_others dialect key other (slice ∷ slices) others (inr (not_so, later, is, are)) (first, short) =
    rw is (first, short_others dialect key other slices later are short)

-- slices none of which assigns the key are all left where others are gone
others_behind : (key : List ℕ) (before slices others : List Slice) → NoneAssigns key before →
    AreOthers key slices others → AreOthers key (before ++ slices) (before ++ others)
others_behind key [] slices others none are = are
others_behind key (slice ∷ before) slices others (differs, none) are =
    inr (differs, before ++ others, refl, others_behind key before slices others none are)

-- a line feed alone is a slice, which is the empty text
abbrev empty_line : Slice
empty_line = record { bytes = line_feed ∷ []; logical = HasText [] }

empty_alone : IsAlone empty_line
empty_alone =
    alone_text (line_feed ∷ []) [] (λ e. cc) (record {
      text = line_feed ∷ [];
      spells = sym (ten line_feed [] refl);
      are_scalars = refl;
      shown = λ h. cc;
      whole = record { tokens = []; ending = line_end; are_tokens = tt; is_ending = tt; spelled = refl; cut = refl };
    })

-- the key can be unset in slices
can_in : (dialect : Dialect) (key bytes : List ℕ) (slices : List Slice) → is_key key ≡ true → AreSlices bytes slices →
    ¬ (NoneAssigns key slices) → NoLongComments dialect key slices → CanUnset dialect key bytes
can_in dialect key bytes slices named are some short =
    record { named = named; slices = slices; are = are; some = some; short = short }

-- the same behind an empty line, where they would begin with a mark
can_behind : (dialect : Dialect) (key : List ℕ) (slices : List Slice) → is_key key ≡ true → AreChained slices →
    ¬ (NoneAssigns key slices) → NoLongComments dialect key slices →
    CanUnset dialect key (without_mark (behind_line (slices_bytes slices)))
can_behind dialect key slices named chain some short = elim (cases_Bool (has_mark (slices_bytes slices))) [
  | inl h ↦
      rw h (can_in dialect key (line_feed ∷ slices_bytes slices) (empty_line ∷ slices) named
      (slices_of (empty_line ∷ slices) (empty_alone, λ more. (refl, λ stays. stays), chain)) (λ none. some none.1)
      (inl (λ assigns. let full = assigns.0 in cc), short))
  | inr h ↦ rw (h, h) (can_in dialect key (slices_bytes slices) slices named (slices_of slices chain) some short)
]

-- a key that can be unset can be still where another one was unset
pub could_still : (dialect : Dialect) (key other old new : List ℕ) → key ≢ other → Unsets dialect key old new →
    CanUnset dialect other (without_mark old) → CanUnset dialect other (without_mark new)
could_still dialect key other old new differ u c =
    let all = u.before ++ u.slice ∷ u.after in
    let kept = u.before ++ u.later in
    let others =
    others_behind key u.before (u.slice ∷ u.after) u.later u.none_before (inl (u.assigns, u.are_others)) in
    let chain = chain_of (without_mark old) all u.are in
    let rest = chain_others key all kept others chain.1 in
    let some : ¬ (NoneAssigns other kept) =
    λ none. none_assigns dialect other (without_mark old) c all u.are
    (none_did key other differ all kept others none) in
    let same = slices_once (without_mark old) c.slices all c.are u.are in
    let short = short_others dialect key other all kept others (subst (NoLongComments dialect other) same c.short) in
    elim (cases_Bool (has_mark old)) [
      | inl h ↦
          let is : new ≡ byte_order_mark ++ slices_bytes kept = rw h at u.new_is in
          rw is (can_in dialect other (slices_bytes kept) kept c.named (slices_of kept rest.0) some short)
      | inr h ↦
          let is : new ≡ behind_line (slices_bytes kept) = rw h at u.new_is in
          rw is (can_behind dialect other kept c.named rest.0 some short)
    ]
