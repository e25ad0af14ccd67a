-- A value read from left to right, character by character.
use Rattle.std.proofs.Common.{◌≡◌, ℕ, Bool, true, false, not, List, [], ◌∷◌, ◌++◌}
use Rattle.std.proofs.Common.{Some, None, refl, arith, append_assoc}
use Rattle.std.specs.Prelude.{◌==◌, MatchOption}
use Rattle.std.specs.List.{flat_map, list_all}
use Rattle.std.proofs.lemmas.List.{append-nil}
use Rattle.std.proofs.lemmas.Bool.Decides.{nat_tests}
use Rattle.dotenvy_format.specs.declared.dialect.Dialect.{Dialect}
use Rattle.dotenvy_format.specs.Characters.{is_space_or_tab, is_name_character, is_empty_or_comment}
use Rattle.dotenvy_format.specs.Characters.{single_quote, double_quote, dollar, backslash}
use Rattle.dotenvy_format.specs.Characters.{left_brace, right_brace, hash}
use Rattle.dotenvy_format.specs.declared.text.Quoting.{Quoting}
use Rattle.dotenvy_format.specs.declared.text.Quoting.TheVariants.{Unquoted, DoubleQuoted}
use Rattle.dotenvy_format.specs.Value.{Piece, Text, Name, Part}
use Rattle.dotenvy_format.specs.Value.{plain, escape, braced, bare, bare_before, Segment}
use Rattle.dotenvy_format.specs.Value.{unquoted_part, single, double, Close, no_close}
use Rattle.dotenvy_format.specs.Value.{lone_backslash, bare_name, tail, part_text, parts_text}
use Rattle.dotenvy_format.specs.Value.{segment_text, segments_text, close_text}
use Rattle.dotenvy_format.specs.Value.{part_pieces, segment_pieces, close_pieces, is_plain}
use Rattle.dotenvy_format.specs.Value.{is_escape, is_left_by_name}
use Rattle.dotenvy_format.specs.Value.{ends_name, IsPart, AreParts, IsSegment}
use Rattle.dotenvy_format.specs.Value.{AreSegments, IsClose, IsValue}
use Rattle.dotenvy_format.specs.inside.ReadValue.{ValueMode, base, escaping, in_single, naming}
use Rattle.dotenvy_format.specs.inside.ReadValue.{bracing, in_tail, in_comment, ValueReading}
use Rattle.dotenvy_format.specs.inside.ReadValue.{ValueStep, given, is_brace_first}
use Rattle.dotenvy_format.specs.inside.ReadValue.{goes_base, with_pieces, value_goes}
use Rattle.dotenvy_format.specs.inside.ReadValue.{value_at_end, read_after, read_value}
use Rattle.dotenvy_format.specs.inside.NextPiece.{IsReadTo, other_quoting}
use Rattle.std.proofs.lemmas.Bool.{eqb-true}
use Rattle.std.proofs.lemmas.List.Folds.{list_all-append}
pub use Rattle.dotenvy_format.proofs.values.Readings.{given-given}
use Rattle.dotenvy_format.proofs.values.Readings.{one, none_read, read_then, plain_goes, escape_begun, name_begun}
use Rattle.dotenvy_format.proofs.values.Readings.{brace_begun, escape_read, name_run, tail_run, single_read}
use Rattle.dotenvy_format.proofs.values.Readings.{braced_read, name_ended, name_left, comment_read}

-- a part is read as what it means
read_part : (dialect : Dialect) (q : Quoting) (p : Part) (cs : List ℕ) → IsPart dialect q p cs →
    IsReadTo dialect (base q) (part_text p ++ cs) (part_pieces p) (base q) cs
read_part dialect q (plain c) cs is = one (plain_goes dialect q c is)
read_part dialect q (escape c) cs is = read_then escape_begun (escape_read is)
read_part dialect q (braced name) cs is =
    rw append_assoc (read_then name_begun (read_then brace_begun (braced_read name cs is)))
read_part dialect q (bare name c) cs is =
    rw append_assoc (read_then name_begun (read_then (name_run name (c ∷ cs) is.0) (name_ended is.1)))
read_part dialect q (bare_before name) cs is =
    read_then name_begun (read_then (name_run name cs is.0) (name_left cs is.1))

-- parts in a row are read as what they mean
read_parts : (dialect : Dialect) (q : Quoting) (ps : List Part) (cs : List ℕ) → AreParts dialect q ps cs →
    IsReadTo dialect (base q) (parts_text ps ++ cs) (flat_map part_pieces ps) (base q) cs
read_parts dialect q [] cs are = none_read dialect (base q) cs
read_parts dialect q (p ∷ ps) cs are =
    rw append_assoc
    (read_then (read_part dialect q p (parts_text ps ++ cs) are.0) (read_parts dialect q ps cs are.1))

-- a segment is read as what it means
read_segment : (dialect : Dialect) (s : Segment) (cs : List ℕ) → IsSegment dialect s cs →
    IsReadTo dialect (base Unquoted) (segment_text s ++ cs) (segment_pieces s) (base Unquoted) cs
read_segment dialect (unquoted_part p) cs is = read_part dialect Unquoted p cs is
read_segment dialect (single inner) cs is = rw append_assoc (read_then (one refl) (single_read inner cs is))
read_segment dialect (double inner) cs is =
    let parts = read_parts dialect DoubleQuoted inner (double_quote ∷ cs) is in
    rw append_assoc (read_then (one refl) (rw append-nil at (read_then parts (one refl))))

-- what may be at the end of a value is read as what it means
read_close : (dialect : Dialect) (close : Close) → IsClose dialect close →
    read_value dialect (close_text close) (base Unquoted) ≡ Some (close_pieces close)
read_close dialect no_close is = refl
read_close dialect lone_backslash is = refl
read_close dialect (bare_name name) is =
    (read_then name_begun (rw append-nil at (name_run {q = Unquoted} name [] is))).reads
read_close dialect (tail blank blanks comment) is =
    let k : (is_space_or_tab blank ≡ true) × (list_all is_space_or_tab blanks ≡ true) = grind (arith, is.0) in
    let goes : value_goes dialect (base Unquoted) blank ≡ Some (in_tail, []) = grind (arith, nat_tests) in
    let run : IsReadTo dialect (base Unquoted) (blank ∷ (blanks ++ comment)) [] in_tail comment =
    read_then (one goes) (tail_run blanks comment k.1) in
    rw (run.reads, comment_read dialect comment is.1)

-- segments in a row, and what is at the end of the value, are read as what they mean
read_segments : (dialect : Dialect) (ss : List Segment) (close : Close) →
    AreSegments dialect ss (close_text close) → IsClose dialect close →
    read_value dialect (segments_text ss ++ close_text close) (base Unquoted)
    ≡ Some (flat_map segment_pieces ss ++ close_pieces close)
read_segments dialect [] close are is = read_close dialect close is
read_segments dialect (s ∷ ss) close are is =
    simp append_assoc (rw (
      (read_segment dialect s (segments_text ss ++ close_text close) are.0).reads,
      read_segments dialect ss close are.1 is,
    ))

-- a value is read as its pieces
pub read-value : (dialect : Dialect) (value : List ℕ) (pieces : List Piece) → IsValue dialect value pieces →
    read_value dialect value (base Unquoted) ≡ Some pieces
read-value dialect value pieces is =
    rw (is.spelled, is.means) (read_segments dialect is.segments is.close is.are_segments is.is_close)

-- a value means one list of pieces alone
pub one_list_of_pieces : (dialect : Dialect) (value : List ℕ) (p q : List Piece) → IsValue dialect value p →
    IsValue dialect value q → p ≡ q
one_list_of_pieces dialect value p q is also = cc (read-value dialect value p is, read-value dialect value q also)

-- What was read is a value: from each mode, with what was read before it put back.
-- a text that closes double quotes and goes on as a value means these pieces
record Closes (dialect : Dialect) (text : List ℕ) (pieces : List Piece) : Type 0 where
  pub inner : List Part
  pub after : List ℕ
  pub more : List Piece
  pub are : AreParts dialect DoubleQuoted inner (double_quote ∷ after)
  pub spelled : text ≡ parts_text inner ++ double_quote ∷ after
  pub means : pieces ≡ flat_map part_pieces inner ++ more
  pub reads : IsValue dialect after more

-- the text from where a part may begin means these pieces: a value, or what closes the quotes and a value
abbrev IsBase : Dialect → Quoting → List ℕ → List Piece → Type 0
IsBase dialect Unquoted text pieces = IsValue dialect text pieces
IsBase dialect DoubleQuoted text pieces = Closes dialect text pieces

-- the text is the rest of a tail, which means nothing: spaces and tabs, then nothing or a comment
record IsTail (text : List ℕ) (pieces : List Piece) : Type 0 where
  pub blanks : List ℕ
  pub comment : List ℕ
  pub are : list_all is_space_or_tab blanks ≡ true
  pub is : is_empty_or_comment comment ≡ true
  pub spelled : text ≡ blanks ++ comment
  pub means : pieces ≡ []

-- what the mode has taken and the text mean these pieces
abbrev IsRead : Dialect → ValueMode → List ℕ → List Piece → Type 0
IsRead dialect (base q) text pieces = IsBase dialect q text pieces
IsRead dialect (escaping q) text pieces = IsBase dialect q (backslash ∷ text) pieces
IsRead dialect (in_single inner) text pieces = IsValue dialect (single_quote ∷ (inner ++ text)) pieces
IsRead dialect (naming q name) text pieces = IsBase dialect q (dollar ∷ (name ++ text)) pieces
IsRead dialect (bracing q name) text pieces = IsBase dialect q (dollar ∷ left_brace ∷ (name ++ text)) pieces
IsRead dialect in_tail text pieces = IsTail text pieces
IsRead dialect in_comment text pieces = pieces ≡ []

-- a sound mode: what it has taken may be in its single quotes, its bare name or its braces
abbrev IsValueMode : Dialect → ValueMode → Type 0
IsValueMode dialect (base q) = Unit {0}
IsValueMode dialect (escaping q) = Unit {0}
IsValueMode dialect (in_single inner) = list_all (λ c. not (c == single_quote)) inner ≡ true
IsValueMode dialect (naming q name) = list_all (is_name_character dialect) name ≡ true
IsValueMode dialect (bracing q name) = list_all (λ c. not (c == right_brace)) name ≡ true
IsValueMode dialect in_tail = Unit {0}
IsValueMode dialect in_comment = Unit {0}

-- a segment before a value is a value with it, with its meaning first
segment_first : {dialect : Dialect} (s : Segment) {text : List ℕ} {pieces : List Piece} → IsSegment dialect s text →
    IsValue dialect text pieces → IsValue dialect (segment_text s ++ text) (segment_pieces s ++ pieces)
segment_first s is h = record {
  segments = s ∷ h.segments;
  close = h.close;
  are_segments = (rw (← h.spelled) is, h.are_segments);
  is_close = h.is_close;
  spelled = rw (append_assoc, ← h.spelled);
  means = rw (append_assoc, ← h.means);
}

-- a part before a text that means pieces, where a part may begin, means with it its own and these
part_first : (dialect : Dialect) (q : Quoting) (p : Part) (text : List ℕ) (pieces : List Piece) →
    IsPart dialect q p text → IsBase dialect q text pieces →
    IsBase dialect q (part_text p ++ text) (part_pieces p ++ pieces)
part_first dialect Unquoted p text pieces is h = segment_first (unquoted_part p) is h
part_first dialect DoubleQuoted p text pieces is h = record {
  inner = p ∷ h.inner;
  after = h.after;
  more = h.more;
  are = (rw (← h.spelled) is, h.are);
  spelled = rw (append_assoc, ← h.spelled);
  means = rw (append_assoc, ← h.means);
  reads = h.reads;
}

-- What each character leads to.
-- a character that leads to a mode leads there soundly, and what means pieces from there does so with it in front
abbrev Leads : Dialect → ValueMode → ℕ → ValueStep → Type 0
Leads dialect m c None = Unit {0}
Leads dialect m c (Some (n, ps)) =
    IsValueMode dialect n
    × ((cs : List ℕ) (qs : List Piece) → IsRead dialect n cs qs → IsRead dialect m (c ∷ cs) (ps ++ qs))

-- what holds of both answers to a test holds of the answer
by_test : {A : Type 0} {x y : A} (P : A → Type 0) (b : Bool) → (b ≡ true → P x) → (b ≡ false → P y) →
    P (elim b [ true ↦ x | false ↦ y ])
by_test P true t f = t refl
by_test P false t f = f refl

-- a statement holds of each step from where a part may begin
record EachStep (P : ℕ → ValueStep → Type 0) (q : Quoting) (c : ℕ) : Type 0 where
  escapes : P backslash (Some (escaping q, []))
  quotes : q ≡ Unquoted → P single_quote (Some (in_single [], []))
  double_quotes : P double_quote (Some (base (other_quoting q), []))
  names : P dollar (Some (naming q [], []))
  ends : q ≡ Unquoted → is_space_or_tab c ≡ true → P c (Some (in_tail, []))
  is_text : is_plain q c ≡ true → P c (Some (base q, Text (c ∷ []) ∷ []))

-- what holds of each step holds of the one that a character takes
each_step : {P : ℕ → ValueStep → Type 0} {q : Quoting} {c : ℕ} → EachStep P q c → P c (goes_base q c)
each_step {q = q} e = grind (arith, nat_tests)

-- a double quote leads into double quotes, or out of them
leads_quote : (dialect : Dialect) (q : Quoting) →
    Leads dialect (base q) double_quote (Some (base (other_quoting q), []))
leads_quote dialect Unquoted =
    (tt, λ cs qs h. rw (h.spelled, h.means) (rw append_assoc at (segment_first (double h.inner) h.are h.reads)))
leads_quote dialect DoubleQuoted = (
  tt,
  λ cs qs h. record { inner = []; after = cs; more = qs; are = tt; spelled = refl; means = refl; reads = h },
)

-- where a part may begin, each character leads on
leads_base : (dialect : Dialect) (q : Quoting) (c : ℕ) → Leads dialect (base q) c (goes_base q c)
leads_base dialect q c = each_step {P = Leads dialect (base q)} (record {
  escapes = (tt, λ cs qs h. h);
  quotes = λ e. rw e (refl, λ cs qs h. h);
  double_quotes = leads_quote dialect q;
  names = (refl, λ cs qs h. h);
  ends = λ e is. rw e (
    tt,
    λ cs qs h. record {
      segments = [];
      close = tail c h.blanks h.comment;
      are_segments = tt;
      is_close = (rw (is, h.are), h.is);
      spelled = rw (← h.spelled);
      means = h.means;
    },
  );
  is_text = λ is. (tt, λ cs qs h. part_first dialect q (plain c) cs qs is h);
})

-- a character that a bare name leaves leads where it leads after the name
leads_left : (dialect : Dialect) (q : Quoting) (name : List ℕ) (c : ℕ) (g : ValueStep) →
    IsPart dialect q (bare_before name) (c ∷ []) → Leads dialect (base q) c g →
    Leads dialect (naming q name) c (with_pieces (Name name [] ∷ []) g)
leads_left dialect q name c None is l = tt
leads_left dialect q name c (Some (n, ps)) is l =
    (l.0, λ cs qs h. part_first dialect q (bare_before name) (c ∷ cs) (ps ++ qs) is (l.1 cs qs h))

-- from each sound mode, each character leads on
leads : (dialect : Dialect) (m : ValueMode) (c : ℕ) → IsValueMode dialect m → Leads dialect m c (value_goes dialect m c)
leads dialect (base q) c ok = leads_base dialect q c
leads dialect (escaping q) c ok =
    by_test (Leads dialect (escaping q) c) (is_escape c)
    (λ is. (tt, λ cs qs h. part_first dialect q (escape c) cs qs is h)) (λ is. tt)
leads dialect (in_single inner) c ok =
    by_test (Leads dialect (in_single inner) c) (c == single_quote)
    (λ is. (tt, λ cs qs h. rw (eqb-true c single_quote is) (rw append_assoc at (segment_first (single inner) ok h))))
    (λ is. (rw (list_all-append, ok, is), λ cs qs h. rw append_assoc at h))
leads dialect (naming q name) c ok =
    by_test (Leads dialect (naming q name) c) (is_name_character dialect c)
    (λ is. (rw (list_all-append, ok, is), λ cs qs h. rw append_assoc at h))
    (λ no_name. by_test (Leads dialect (naming q name) c) (is_left_by_name dialect q c)
    (λ left. leads_left dialect q name c (goes_base q c) (ok, left) (leads_base dialect q c))
    (λ not_left. by_test (Leads dialect (naming q name) c) (is_brace_first name c)
    (λ brace.
    let e : (name ≡ []) × (c ≡ left_brace) = grind (arith, nat_tests) in
    rw (e.0, e.1) (refl, λ cs qs h. h))
    (λ no_brace.
    let ends : ends_name dialect q name c ≡ true = grind arith in
    (tt, λ cs qs h. rw append_assoc at (part_first dialect q (bare name c) cs qs (ok, ends) h)))))
leads dialect (bracing q name) c ok =
    by_test (Leads dialect (bracing q name) c) (c == right_brace)
    (λ is. (
      tt,
      λ cs qs h. rw (eqb-true c right_brace is)
          (rw append_assoc at (part_first dialect q (braced name) cs qs ok h)),
    ))
    (λ is. (rw (list_all-append, ok, is), λ cs qs h. rw append_assoc at h))
leads dialect in_tail c ok =
    by_test (Leads dialect in_tail c) (is_space_or_tab c)
    (λ is. (
      tt,
      λ cs qs h. record {
        blanks = c ∷ h.blanks;
        comment = h.comment;
        are = rw (is, h.are);
        is = h.is;
        spelled = rw (← h.spelled);
        means = h.means;
      },
    ))
    (λ no_blank. by_test (Leads dialect in_tail c) (c == hash)
    (λ is. (tt, λ cs qs h. record { blanks = []; comment = c ∷ cs; are = refl; is = is; spelled = refl; means = h }))
    (λ no_comment. tt))
leads dialect in_comment c ok = (tt, λ cs qs h. h)

-- what may be at the end of a value is a value by itself, and means the same
close_value : {dialect : Dialect} (close : Close) → IsClose dialect close →
    IsValue dialect (close_text close) (close_pieces close)
close_value close is =
    record { segments = []; close = close; are_segments = tt; is_close = is; spelled = refl; means = refl }

-- no pieces were read, or those that were read are right
abbrev IsRight : Dialect → ValueMode → List ℕ → ValueReading → Type 0
IsRight dialect m text r = MatchOption r (Unit {0}) (λ pieces. IsRead dialect m text pieces)

-- what the end of the text gives is right in every sound mode
end_right : (dialect : Dialect) (m : ValueMode) → IsValueMode dialect m → IsRight dialect m [] (value_at_end m)
end_right dialect (base Unquoted) ok = close_value no_close tt
end_right dialect (escaping Unquoted) ok = close_value lone_backslash tt
end_right dialect (naming Unquoted name) ok = rw append-nil (close_value (bare_name name) ok)
end_right dialect in_tail ok =
    record { blanks = []; comment = []; are = refl; is = refl; spelled = refl; means = refl }
end_right dialect in_comment ok = refl
end_right dialect _ ok = tt

-- where what is read after a step is right, so is what is read with the step
step_right : (dialect : Dialect) (m : ValueMode) (c : ℕ) (cs : List ℕ) (g : ValueStep) → Leads dialect m c g →
    ((n : ValueMode) → IsValueMode dialect n → IsRight dialect n cs (read_value dialect cs n)) →
    IsRight dialect m (c ∷ cs) (read_after g (λ n. read_value dialect cs n))
step_right dialect m c cs None l later = tt
step_right dialect m c cs (Some (n, ps)) l later = after (read_value dialect cs n) (later n l.0)
  where
    after : (r : ValueReading) → IsRight dialect n cs r → IsRight dialect m (c ∷ cs) (given ps r)
    after None h = tt
    after (Some qs) h = l.1 cs qs h

-- each text is read right from every sound mode
read_right : (dialect : Dialect) (text : List ℕ) (m : ValueMode) → IsValueMode dialect m →
    IsRight dialect m text (read_value dialect text m)
read_right dialect [] m ok = end_right dialect m ok
read_right dialect (c ∷ cs) m ok =
    step_right dialect m c cs (value_goes dialect m c) (leads dialect m c ok) (λ n. read_right dialect cs n)

-- what reads as pieces is a value of these pieces
pub value-read : (dialect : Dialect) (text : List ℕ) (pieces : List Piece) →
    read_value dialect text (base Unquoted) ≡ Some pieces → IsValue dialect text pieces
value-read dialect text pieces h = rw h at (read_right dialect text (base Unquoted) tt)

-- what is not read is no value
pub no_value : (dialect : Dialect) (text : List ℕ) → read_value dialect text (base Unquoted) ≡ None →
    (pieces : List Piece) → ¬ (IsValue dialect text pieces)
no_value dialect text h pieces is = cc (read-value dialect text pieces is)
