-- How the pieces that the code reads follow from the reader of values.
use Rattle.std.proofs.lemmas.Bool.{and_parts, eqb-true, not-false, not-true}
use Rattle.std.proofs.Common.{◌≡◌, ◌≢◌, ℕ, suc, ◌%◌, ◌<◌, true, false, not, ◌&&◌, List, [], ◌∷◌, ◌++◌}
use Rattle.std.proofs.Common.{Option, Some, None, refl, arith, length}
use Rattle.std.specs.Prelude.{MatchOption}
use Rattle.std.specs.Prelude.{◌==◌, if◌then◌else◌}
use Rattle.std.specs.List.{list_all}
use denote.Ref.{Bor}
use Rattle.std.proofs.Math.Utf8.{scalars}
use Rattle.std.specs.Str.{chars, encode_utf8_all, IsUtf8}
use Rattle.std.proofs.lemmas.List.{append-nil}
use Rattle.std.proofs.lemmas.Grind.{common_steps}
use Rattle.std.proofs.lemmas.Bool.Decides.{nat_tests}
use Rattle.std.proofs.lemmas.Str.{chars-encodes, scalars-chars, encodes-append, encode_ascii}
use Rattle.dotenvy_format.specs.declared.dialect.Dialect.{Dialect}
use Rattle.dotenvy_format.specs.declared.dialect.Dialect.TheVariants.{V15}
use Rattle.dotenvy_format.specs.declared.text.Quoting.{Quoting}
use Rattle.dotenvy_format.specs.declared.text.Quoting.TheVariants.{Unquoted, DoubleQuoted}
use Rattle.dotenvy_format.specs.declared.value.Kind.{Kind}
use Rattle.dotenvy_format.specs.declared.value.Kind.TheVariants.{Backslash, SingleQuote}
use Rattle.dotenvy_format.specs.declared.value.Kind.TheVariants.{DoubleQuote, Dollar, SpaceOrTab}
use Rattle.dotenvy_format.specs.declared.value.Kind.TheVariants.{Plain}
use Rattle.dotenvy_format.specs.declared.value.Piece.TheVariants.{Text as CodeText, Name as CodeName}
use Rattle.dotenvy_format.specs.declared.value.NextPiece.{NextPiece}
use Rattle.dotenvy_format.specs.declared.value.TextPart.{TextPart}
use Rattle.dotenvy_format.specs.declared.value.NextPiece.TheVariants.{Piece as GivesNext, End, Unfinished, Fault}
use Rattle.dotenvy_format.specs.Characters.{double_quote, single_quote, left_brace, is_space_or_tab}
use Rattle.dotenvy_format.specs.Characters.{is_name_character}
use Rattle.dotenvy_format.specs.Characters.{is_empty_or_comment, begins_with, begins_passing}
use Rattle.dotenvy_format.specs.inside.Slices.{BeginsWith, IsSpan}
use Rattle.dotenvy_format.specs.Value.{Text, Name}
use Rattle.dotenvy_format.specs.Value.{is_escape, is_plain, is_left_by_name, ends_name}
use Rattle.dotenvy_format.specs.Items.{LookUp, meaning}
use Rattle.dotenvy_format.specs.inside.ReadValue.{ValueMode, base, escaping, in_single, naming, in_tail}
use Rattle.dotenvy_format.specs.inside.ReadValue.{ValueStep, value_goes}
use Rattle.dotenvy_format.specs.inside.NextPiece.{other_quoting, is_empty, kind_of, IsReadTo}
use Rattle.dotenvy_format.specs.inside.NextPiece.{GivesPiece, StopsAt, NextPieceIs, IsShorter, without_texts}
use Rattle.dotenvy_format.specs.inside.NextPiece.{MeansText, begins_text, begins_text_by, piece_of}
pub use Rattle.dotenvy_format.proofs.values.Readings.{none_read}
use Rattle.dotenvy_format.proofs.values.Readings.{one, stop, read_then, stop_then, stop_open, each_text, plain_run}
use Rattle.dotenvy_format.proofs.values.Readings.{single_run}

-- after characters that complete no piece, what comes next is what comes next from before them
pub next_after : {dialect : Dialect} {m n : ValueMode} {text left : List ℕ} (result : NextPiece) →
    IsReadTo dialect m text [] n left → NextPieceIs dialect n left result → NextPieceIs dialect m text result
next_after End a h = rw (a.reads, h)
next_after (GivesNext next) a h = record {
  pieces = h.pieces;
  is_read = read_then a h.is_read;
  follows = h.follows;
  means = h.means;
  names = h.names;
}
next_after Unfinished a h = stop_then a h
next_after (Fault rest) a h = stop_then a h

-- where the first character leads, by what it begins
abbrev goes_kind : Kind → Quoting → ℕ → ValueStep
goes_kind Backslash q c = Some (escaping q, [])
goes_kind SingleQuote q c = Some (in_single [], [])
goes_kind DoubleQuote q c = Some (base (other_quoting q), [])
goes_kind Dollar q c = Some (naming q [], [])
goes_kind SpaceOrTab q c = Some (in_tail, [])
goes_kind Plain q c = Some (base q, Text (c ∷ []) ∷ [])

-- where a part may begin, a character leads where its kind leads
kind_goes : (dialect : Dialect) (q : Quoting) (c : ℕ) →
    value_goes dialect (base q) c ≡ goes_kind (kind_of q c) q c
kind_goes dialect q c = grind arith

-- a character of the plain kind means itself there
pub kind_plain : (q : Quoting) (c : ℕ) → Plain ≡ kind_of q c → is_plain q c ≡ true
kind_plain q c h = grind arith

-- what comes next after a first character that begins something is what comes next, and leaves fewer characters
pub next_by_kind : (dialect : Dialect) (q : Quoting) {kind : Kind} {n : ValueMode} {text cs : List ℕ} {c : ℕ}
    (result : NextPiece) → text ≡ c ∷ cs → kind ≡ kind_of q c → goes_kind kind q c ≡ Some (n, []) →
    NextPieceIs dialect n cs result →
    record { next : NextPieceIs dialect (base q) text result; shorter : IsShorter text result }
next_by_kind dialect q {n = n} {cs = cs} result e k g h = record {
  next = rw e (next_after result (one (rw (kind_goes, ← k, g))) h);
  shorter = rw e (grind (arith, common_steps));
}

-- after characters that complete no piece, a text is meant as from before them
pub means_after : {dialect : Dialect} {m n : ValueMode} {text left : List ℕ} {part : TextPart}
    → IsReadTo dialect m text [] n left → MeansText dialect n left part → MeansText dialect m text part
means_after {part = part} a h = next_after (piece_of part) a h

-- a text that is meant after a first character that begins something is meant with it, and leaves fewer characters
pub means_by_kind : {q : Quoting} {kind : Kind} {n : ValueMode} {text cs : List ℕ} {c : ℕ} {part : TextPart}
    → text ≡ c ∷ cs → kind ≡ kind_of q c → goes_kind kind q c ≡ Some (n, [])
    → ((dialect : Dialect) → MeansText dialect n cs part)
    → ((dialect : Dialect) → MeansText dialect (base q) text part)
    × (length (chars part.rest.now) < length text)
means_by_kind {q = q} {part = part} e k g h = (
  λ dialect. (next_by_kind dialect q (piece_of part) e k g (h dialect)).next,
  (next_by_kind V15 q (piece_of part) e k g (h V15)).shorter,
)

-- so is one that may be meant
pub part_by_kind : (q : Quoting) {kind : Kind} {n : ValueMode} {text cs : List ℕ} {c : ℕ} (found : Option TextPart)
    → text ≡ c ∷ cs → kind ≡ kind_of q c → goes_kind kind q c ≡ Some (n, [])
    → MatchOption found (begins_text_by kind cs ≡ false) (λ part. (dialect : Dialect) → MeansText dialect n cs part)
    → MatchOption found (begins_text q text ≡ false)
    (λ part. ((dialect : Dialect) → MeansText dialect (base q) text part)
    × (length (chars part.rest.now) < length text))
part_by_kind q None e k g h = rw (e, ← k) h
part_by_kind q (Some part) e k g h = means_by_kind e k g h

-- texts of one character each mean these characters in a row
meaning-each : (look_up : LookUp) (cs : List ℕ) → meaning look_up (each_text cs) ≡ cs
meaning-each look_up [] = refl
meaning-each look_up (c ∷ cs) = rw (meaning-each look_up cs)

-- texts of one character each are all texts
without_texts-each : (cs : List ℕ) → without_texts (each_text cs) ≡ []
without_texts-each [] = refl
without_texts-each (c ∷ cs) = without_texts-each cs

-- texts of one character each are given as one text, which has the bytes of these characters
pub gives_texts : {dialect : Dialect} {m : ValueMode} {q : Quoting} {text : List ℕ} {meant rest : Bor (List ℕ)}
    (cs : List ℕ) → IsUtf8 rest.now → meant.now ≡ encode_utf8_all cs →
    IsReadTo dialect m text (each_text cs) (base q) (chars rest.now) →
    GivesPiece dialect m text (record { piece = CodeText meant; rest = rest; quoting = q })
gives_texts cs u e read = record {
  pieces = each_text cs;
  is_read = read;
  follows = u;
  means = λ look_up. rw (e, meaning-each look_up cs);
  names = without_texts-each cs;
}

-- one character that means itself is meant, and fewer are left
pub one_plain : {q : Quoting} {text : List ℕ} {c : ℕ} {meant rest : Bor (List ℕ)} → text ≡ c ∷ chars rest.now
    → Plain ≡ kind_of q c → IsUtf8 rest.now → meant.now ≡ encode_utf8_all (c ∷ [])
    → ((dialect : Dialect) → MeansText dialect (base q) text (record { meant = meant; rest = rest; quoting = q }))
    × (length (chars rest.now) < length text)
one_plain {q = q} {c = c} e k u m =
    let is : list_all (is_plain q) (c ∷ []) ≡ true = rw (kind_plain q c k) refl in
    (λ dialect. gives_texts (c ∷ []) u m (rw e (plain_run dialect q (c ∷ []) _ is)), rw e (omega arith))

-- a name and the characters after it are given as that name, and a text that has the bytes of these characters
pub gives_name : {dialect : Dialect} {m : ValueMode} {q : Quoting} {text : List ℕ}
    {name follows rest : Bor (List ℕ)} (after : List ℕ) → IsUtf8 rest.now → scalars after ≡ true →
    follows.now ≡ encode_utf8_all after →
    IsReadTo dialect m text (Name (chars name.now) after ∷ []) (base q) (chars rest.now) →
    GivesPiece dialect m text (record { piece = CodeName name follows; rest = rest; quoting = q })
gives_name after u are e read = record {
  pieces = Name (chars _) after ∷ [];
  is_read = read;
  follows = u;
  means = λ look_up. rw (e, append-nil, encodes-append);
  names = rw (e, chars-encodes after are);
}

-- a row of one ASCII character is its own UTF-8
pub own_bytes : (c : ℕ) (row : List ℕ) → c < 128 → list_all (λ d. d == c) row ≡ true → encode_utf8_all row ≡ row
own_bytes c [] small h = refl
own_bytes c (d ∷ row) small h = grind (arith, nat_tests, encode_ascii c small, own_bytes c row small)

-- behind a run without a single quote, the first character is one
pub behind_single : {text run rest behind : List ℕ} {c : ℕ} → IsSpan (λ d. not (d == single_quote)) text run rest
    → rest ≡ c ∷ behind → text ≡ run ++ single_quote ∷ behind
behind_single {run = run} {behind = behind} {c = c} span parts =
    let is : c ≡ single_quote = eqb-true c single_quote (not-false _ (not-true _ (rw parts at span.longest))) in
    rw (span.spelled, parts, is) refl

-- where nothing is behind such a run, no text begins
pub none_single : {text run rest : List ℕ} → IsSpan (λ d. not (d == single_quote)) text run rest → rest ≡ []
    → begins_text_by SingleQuote text ≡ false
none_single {run = run} span none = rw (span.spelled, none, append-nil run, span.pass) refl

-- where no single quote follows one, the text lacks the end of its value
pub single_stops : (dialect : Dialect) (text : List ℕ) → begins_text_by SingleQuote text ≡ false
    → StopsAt dialect (in_single []) text []
single_stops dialect text h =
    stop_open text (single_run text [] (not-false (list_all (λ c. not (c == single_quote)) text) h)) refl

-- a character behind a backslash that is no escape is a fault where it is
pub no_escape_stops : (dialect : Dialect) (q : Quoting) (c : ℕ) (cs : List ℕ) → is_escape c ≡ false
    → StopsAt dialect (escaping q) (c ∷ cs) (c ∷ cs)
no_escape_stops dialect q c cs h = stop (rw (h, value_goes))

-- in a value's tail, a character that is no space, tab or `#` is a fault where it is
pub tail_stops : (dialect : Dialect) (comment : List ℕ) → not (begins_passing is_space_or_tab comment) ≡ true →
    is_empty_or_comment comment ≡ false → StopsAt dialect in_tail comment comment
tail_stops dialect [] h k = cc
tail_stops dialect (c ∷ comment) h k = stop {m = in_tail} (grind arith)

-- a bare name ends before a character that is no name character, is not left by it and opens no braces
pub ends_before : (dialect : Dialect) (q : Quoting) (name : List ℕ) (c : ℕ) →
    not (is_name_character dialect c) ≡ true → not (is_empty name && c == left_brace) ≡ true →
    is_left_by_name dialect q c ≡ false → ends_name dialect q name c ≡ true
ends_before dialect q name c h k l = grind arith

-- the first character of a text is a Unicode scalar value
pub first_scalar : {text rest : List ℕ} {c : ℕ} → IsUtf8 text → BeginsWith text c rest → scalars (c ∷ []) ≡ true
first_scalar {text = text} u first =
    let all = rw first.characters at (scalars-chars text u) in grind (arith, all)

-- where no `{` follows the dollar, none follows a bare name that is empty
pub no_brace_after : (dialect : Dialect) (text name rest : List ℕ) →
    IsSpan (is_name_character dialect) text name rest → not (begins_with left_brace text) ≡ true →
    not (is_empty name && begins_with left_brace rest) ≡ true
no_brace_after dialect text [] rest is h = rw is.spelled at h
no_brace_after dialect text (c ∷ name) rest is h = refl

-- where as many double quotes lead: into double quotes or out of them where they are odd
abbrev pub after_quotes : ℕ → Quoting → Quoting
after_quotes n q = if n % 2 == 0 then q else other_quoting q

-- an odd number of double quotes leads back from the other side
pub odd_back : (n : ℕ) (q : Quoting) → n % 2 ≢ 0 → after_quotes n (other_quoting q) ≡ q
odd_back n q h = grind (arith, nat_tests)

-- a row of double quotes gives no piece, and each leads into double quotes or out of them
pub quotes_run : (dialect : Dialect) (q : Quoting) (quotes rest : List ℕ)
    → list_all (λ c. c == double_quote) quotes ≡ true
    → IsReadTo dialect (base q) (quotes ++ rest) [] (base (after_quotes (length quotes) q)) rest
quotes_run dialect q [] rest h = none_read dialect (base q) rest
quotes_run dialect q (c ∷ cs) rest h =
    let k = and_parts (c == double_quote) (list_all (λ d. d == double_quote) cs) h in
    let goes : value_goes dialect (base q) c ≡ Some (base (other_quoting q), []) = grind (arith, nat_tests, k.0) in
    let later : after_quotes (length cs) (other_quoting q) ≡ after_quotes (suc (length cs)) q =
    grind (arith, nat_tests) in
    rw (← later) (read_then (one goes) (quotes_run dialect (other_quoting q) cs rest k.1))

-- in double quotes, characters that mean themselves and then the quote are read as these texts, and end the quotes
pub quoted_read : (dialect : Dialect) (text rest : List ℕ) → list_all (is_plain DoubleQuoted) text ≡ true
    → IsReadTo dialect (base DoubleQuoted) (text ++ double_quote ∷ rest) (each_text text) (base Unquoted) rest
quoted_read dialect text rest h =
    rw (append-nil (each_text text)) at
    (read_then (plain_run dialect DoubleQuoted text (double_quote ∷ rest) h) (one refl))
