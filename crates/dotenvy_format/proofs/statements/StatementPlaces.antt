-- What is parsed of a line is its statement, or what is left at the place of its fault.
use Rattle.std.proofs.Common.{◌≡◌, ℕ, suc, Bool, true, false, not, List, [], ◌∷◌, ◌++◌, Ok, Err, refl, sym, ◌∙◌}
use Rattle.std.proofs.Common.{append_assoc, arith, inl, inr, ap, length, take, ◌<◌, length-append, ⊎_elim}
use Rattle.std.specs.Prelude.{IsTrue, bytes_eq}
use Rattle.std.specs.Char.{is_whitespace, is_ascii}
use Rattle.std.specs.List.{list_all}
use Rattle.std.specs.Str.{skip_leading_whitespace}
use Rattle.std.specs.Cmp.Lexicographic.{same_text}
use Rattle.std.proofs.lemmas.Bool.{and_from, cases_Bool, eqb-true}
use Rattle.std.proofs.lemmas.List.{append-nil}
use Rattle.std.proofs.Math.Seq.{take-append_seam}
use Rattle.dotenvy_format.specs.Characters.{begins_key, continues_key, equals_sign, begins_passing, begins_with}
use Rattle.dotenvy_format.specs.Characters.{byte_len}
use Rattle.dotenvy_format.specs.Statement.{IsStatement, IsPrefix, is_white_space}
use Rattle.dotenvy_format.specs.Places.{BeginsStatement, IsPlace}
use Rattle.dotenvy_format.specs.inside.Slices.{IsSpan}
use Rattle.dotenvy_format.specs.inside.ParseStatement.{◌>>=◌, split_key, export, Parsed}
use Rattle.dotenvy_format.specs.inside.ParseStatement.{passing_front, after_passing, after_key}
use Rattle.dotenvy_format.specs.inside.ParseStatement.{after_prefix, after_first_key, parse}
use Rattle.dotenvy_format.proofs.KeyCharacters.{key_begins_continues}
use Rattle.dotenvy_format.proofs.statements.Statements.{IsCut, cut_splits, skip_is, skip_white, equals_cut, parse_cut}
use Rattle.dotenvy_format.proofs.statements.Statements.{no_equals_first, after_word, after_equals, statement-parses}

-- a test holds or fails
pub by_test : {A : Type 0} (b : Bool) → (b ≡ true → A) → (b ≡ false → A) → A
by_test b holds fails = ⊎_elim holds fails (cases_Bool b)

-- a text is its longest first part that passes the test, and what follows
span : (passes : ℕ → Bool) (cs : List ℕ) → IsSpan passes cs (passing_front passes cs) (after_passing passes cs)
span passes [] = record { spelled = refl; pass = refl; longest = refl }
span passes (c ∷ cs) =
    let later = span passes cs in
    by_test (passes c)
    (λ h. rw h (record { spelled = cc; pass = and_from _ _ h later.pass; longest = later.longest }))
    (λ h. rw h (record { spelled = refl; pass = refl; longest = rw h }))

-- a text is white space, if any, and what is left when that is skipped
white_span : (cs : List ℕ) → IsSpan is_whitespace cs (passing_front is_whitespace cs) (skip_leading_whitespace cs)
white_span cs = rw (skip_is cs) (span is_whitespace cs)

-- a text that begins a key is cut behind the key and white space
split_cuts : (text : List ℕ) → begins_passing begins_key text ≡ true →
    IsCut text (passing_front continues_key text) (skip_leading_whitespace (after_passing continues_key text))
split_cuts [] h = cc
split_cuts (c ∷ cs) h =
    let key = span continues_key (c ∷ cs) in
    let gap = white_span (after_passing continues_key (c ∷ cs)) in
    record {
      gap = passing_front is_whitespace (after_passing continues_key (c ∷ cs));
      is_key = rw (key_begins_continues c h) (and_from _ _ h (span continues_key cs).pass);
      white = gap.pass;
      spelled = cc (key.spelled, gap.spelled);
      ends = rw gap.spelled at key.longest;
      visible = gap.longest;
    }

-- the texts are both empty, or begin with the same character
abbrev SameFirst : List ℕ → List ℕ → Type 0
SameFirst left other = (passes : ℕ → Bool) → begins_passing passes left ≡ begins_passing passes other

-- what ends a key does so whatever follows its first character
same_end : (gap left other : List ℕ) → SameFirst left other →
    not (begins_passing continues_key (gap ++ left)) ≡ true → not (begins_passing continues_key (gap ++ other)) ≡ true
same_end [] left other same h = rw same at h
same_end (w ∷ gap) left other same h = h

-- a text is cut at the same place whatever follows the first character that is left
recut : {text key left other : List ℕ} (cut : IsCut text key left) → SameFirst left other →
    IsCut (key ++ (cut.gap ++ other)) key other
recut {left = left} {other = other} cut same = record {
  gap = cut.gap;
  is_key = cut.is_key;
  white = cut.white;
  spelled = refl;
  ends = same_end cut.gap left other same cut.ends;
  visible = rw same at cut.visible;
}

-- with some ASCII characters after it the text is a statement
abbrev StatementByText : List ℕ → Type 0
StatementByText text =
    (more : List ℕ) × (key rest : List ℕ) × IsTrue (list_all is_ascii more) × IsStatement (text ++ more) key rest

-- the line has a fault: its front can be completed, but not with the first character that is left
pub record Stops (line left : List ℕ) : Type 0 where
  pub front : List ℕ
  pub spelled : line ≡ front ++ left
  pub completed : StatementByText front
  pub stays : (other : List ℕ) → SameFirst left other → parse (front ++ other) ≡ Err other

-- what was parsed is right: the line's statement, or what is left at its fault
abbrev Right : List ℕ → Parsed → Type 0
Right line (Ok (key, rest)) = IsStatement line key rest
Right line (Err left) = Stops line left

-- how a line may begin before its key: with white space, and a prefix or none
record Start : Type 0 where
  indent : List ℕ
  prefix : List ℕ
  white : is_white_space indent ≡ true
  is_prefix : IsPrefix prefix

-- behind such a start, a key, white space, `=` and what follows are a statement
found : {text key left : List ℕ} (start : Start) → IsCut text key left → (cs : List ℕ) → left ≡ equals_sign ∷ cs →
    IsStatement (start.indent ++ (start.prefix ++ text)) key (skip_leading_whitespace cs)
found start cut cs e = let rest = white_span cs in record {
  indent = start.indent;
  prefix = start.prefix;
  before = cut.gap;
  after = passing_front is_whitespace cs;
  white_space = and_from _ _ (and_from _ _ start.white cut.white) rest.pass;
  is_prefix = start.is_prefix;
  is_key = cut.is_key;
  trimmed = rest.longest;
  spelled = rw (← rest.spelled, ← e, ← cut.spelled);
}

-- what parsing does not go on with behind a key is left at a fault
stop : {text key left : List ℕ} (start : Start) → IsCut text key left →
    ((other : List ℕ) → SameFirst left other → after_word start.is_prefix key other ≡ Err other) →
    Stops (start.indent ++ (start.prefix ++ text)) left
stop {text} {key} start cut fails = record {
  front = start.indent ++ (start.prefix ++ (key ++ cut.gap));
  spelled = simp append_assoc (rw (← cut.spelled));
  completed =
      let is = found start (equals_cut key cut.gap [] cut.is_key cut.white) [] refl in
      (equals_sign ∷ [], key, [], refl, simp append_assoc is);
  stays =
      λ other same.
      rw (append_assoc, append_assoc, append_assoc)
      (parse_cut start.indent start.prefix start.white start.is_prefix (recut cut same) ∙ fails other same);
}

-- a text that begins with `=` is that and what follows
equals_text : (text : List ℕ) → begins_with equals_sign text ≡ true → (cs : List ℕ) × (text ≡ equals_sign ∷ cs)
equals_text [] h = cc
equals_text (c ∷ cs) h = (cs, rw (eqb-true c equals_sign h))

-- what is parsed of a text that begins a key is right, if it is where no `=` comes behind the key
word_right : (start : Start) (text : List ℕ) → begins_passing begins_key text ≡ true →
    ((key left : List ℕ) → IsCut text key left → begins_with equals_sign left ≡ false →
    Right (start.indent ++ (start.prefix ++ text)) (after_word start.is_prefix key left)) →
    Right (start.indent ++ (start.prefix ++ text)) (split_key text >>= λ cut. after_word start.is_prefix cut.0 cut.1)
word_right start text begins others =
    let cut = split_cuts text begins in
    let left = skip_leading_whitespace (after_passing continues_key text) in
    rw (cut_splits cut) (by_test (begins_with equals_sign left)
    (λ h.
    let equals = equals_text left h in
    rw (equals.1, after_equals start.is_prefix (passing_front continues_key text) equals.0)
    (found start cut equals.0 equals.1))
    (others _ _ cut))

-- after a key that is no prefix, what is no `=` is a fault
no_equals_key : (key text : List ℕ) → begins_with equals_sign text ≡ false → after_key key text ≡ Err text
no_equals_key key text h = grind arith

-- what is parsed behind `export` and white space is right where a key follows
second_right : (indent gap left : List ℕ) → is_white_space indent ≡ true → is_white_space gap ≡ true →
    not (begins_passing continues_key (gap ++ left)) ≡ true → begins_passing begins_key left ≡ true →
    Right (indent ++ (export ++ (gap ++ left))) (after_prefix left)
second_right indent [] left white gap_white ends begins = absurd (grind (arith, key_begins_continues))
second_right indent (first ∷ gap) left white gap_white ends begins =
    let prefix = export ++ first ∷ gap in
    let is_prefix : IsPrefix prefix = inr (first, gap, refl, gap_white) in
    let start : Start = record { indent = indent; prefix = prefix; white = white; is_prefix = is_prefix } in
    word_right start left begins (λ key left cut h.
    rw (no_equals_key key left h) (stop start cut (λ other same. no_equals_key key other (rw same at h))))

-- what is parsed behind a first word, without `=`, is right: the word may be `export`, before a key
first_right : {text key left : List ℕ} (indent : List ℕ) → is_white_space indent ≡ true → IsCut text key left →
    begins_with equals_sign left ≡ false → Right (indent ++ text) (after_first_key key left)
first_right {text} {key} {left} indent white cut no_equals =
    let start : Start = record { indent = indent; prefix = []; white = white; is_prefix = inl refl } in
    rw (no_equals_first key left no_equals)
    (by_test (bytes_eq key export)
    (λ is.
    rw is
    (by_test (begins_passing begins_key left)
    (λ begins.
    rw (cut.spelled, same_text key export (sym is))
    (second_right indent cut.gap left white cut.white cut.ends begins))
    (λ no_key.
    rw no_key
    (stop start cut (λ other same.
    rw (no_equals_first key other (rw same at no_equals), is, sym (same begins_key) ∙ no_key))))))
    (λ no_export.
    rw no_export
    (stop start cut (λ other same. rw (no_equals_first key other (rw same at no_equals), no_export)))))

-- what is parsed of a line is right
parse-right : (line : List ℕ) → Right line (parse line)
parse-right line =
    let indent = passing_front is_whitespace line in
    let white = white_span line in
    let text = skip_leading_whitespace line in
    let start : Start = record { indent = indent; prefix = []; white = white.pass; is_prefix = inl refl } in
    by_test (begins_passing begins_key text)
    (λ begins.
    rw (← white.spelled) at (word_right start text begins (λ key left cut. first_right indent white.pass cut)))
    (λ no_key.
    rw no_key (record {
      front = indent;
      spelled = white.spelled;
      completed =
          let is = found start (equals_cut (65 ∷ []) [] [] refl refl) [] refl in
          (65 ∷ equals_sign ∷ [], 65 ∷ [], [], refl, is);
      stays =
          λ other same.
          rw (skip_white indent other white.pass (rw same at white.longest), sym (same begins_key) ∙ no_key);
    }))

-- a line that parses is a statement
pub parse-statement : (line key rest : List ℕ) → parse line ≡ Ok (key, rest) → IsStatement line key rest
parse-statement line key rest h = rw h at (parse-right line)

-- a character more than a front is what stands behind it
take_more : (front : List ℕ) (c : ℕ) (cs : List ℕ) → take (suc (length front)) (front ++ c ∷ cs) ≡ front ++ c ∷ []
take_more [] c cs = refl
take_more (d ∷ front) c cs = rw (take_more front c cs)

-- no longer front than that before a fault begins a statement
no_longer : {line left : List ℕ} (stops : Stops line left) → length stops.front < length line →
    ¬ (BeginsStatement (take (suc (length stops.front)) line))
no_longer {left = []} stops below begins =
    absurd (let e = ap length stops.spelled in omega (arith, e, length-append stops.front []))
no_longer {left = c ∷ cs} stops below begins =
    let (more, key, rest, is) = rw (stops.spelled, take_more stops.front c cs) at begins in
    let parses = statement-parses (rw append_assoc at is) in
    absurd (let stays = stops.stays (c ∷ more) (λ passes. refl) in cc)

-- the place of a fault is the length of what stands before what is left
stops_place : {line left : List ℕ} (stops : Stops line left) → IsPlace BeginsStatement line (length stops.front)
stops_place {line} {left} stops = record {
  within = (let e = ap length stops.spelled in omega (arith, e, length-append stops.front left));
  completed =
      let (more, key, rest, ascii, is) = stops.completed in
      (more, key, rest, rw (stops.spelled, take-append_seam stops.front left) is);
  longest = no_longer stops;
}

-- a line that doesn't parse is no statement, and its place is the length of what stands before what is left
pub parse-fault : (line left : List ℕ) → parse line ≡ Err left →
    ((key rest : List ℕ) → ¬ (IsStatement line key rest))
    × (front : List ℕ)
    × (line ≡ front ++ left)
    × IsPlace BeginsStatement line (length front)
parse-fault line left h =
    let stops : Stops line left = rw h at (parse-right line) in
    (λ key rest is. (let parses = statement-parses is in cc), stops.front, stops.spelled, stops_place stops)

-- the fault's index is the number of bytes before what is left
pub front_bytes : (front left : List ℕ) → byte_len (take (length front) (front ++ left)) ≡ byte_len front
front_bytes front left = rw (take-append_seam front left)

-- what begins a statement can be completed by ASCII characters, where it was parsed
by_text : (front : List ℕ) (parsed : Parsed) → Right front parsed → BeginsStatement front → StatementByText front
by_text front (Ok (key, rest)) is begins = ([], key, rest, refl, rw append-nil is)
by_text front (Err []) stops begins = rw (stops.spelled, append-nil) stops.completed
by_text front (Err (c ∷ cs)) stops (more, key, rest, is) =
    let parses = statement-parses (rw (stops.spelled, append_assoc) at is) in
    absurd (let stays = stops.stays (c ∷ (cs ++ more)) (λ passes. refl) in cc)

-- a front of a statement can be completed to one by ASCII characters
pub statement_by_text : (front : List ℕ) → BeginsStatement front → StatementByText front
statement_by_text front = by_text front (parse front) (parse-right front)

-- each front of a text that begins a statement begins one
pub statement_fronts : (text more : List ℕ) → BeginsStatement (text ++ more) → BeginsStatement text
statement_fronts text more (others, key, rest, is) = (more ++ others, key, rest, rw append_assoc at is)
