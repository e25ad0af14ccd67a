-- What pieces mean, as they are read one after another.
use Rattle.std.proofs.Common.{◌≡◌, ◌≢◌, ℕ, zero, suc, ◌<◌, Bool, true, not, List, [], ◌∷◌, ◌++◌, length, Option, Some, None}
use Rattle.std.proofs.Common.{refl, sym, ap, ◌∙◌, arith, inl, inr, append_assoc, append-nil, length-append}
use Rattle.std.specs.Prelude.{◌==◌, ◌||◌, ◌↔◌, IsTrue, MatchOption}
use Rattle.std.specs.List.{list_any}
use Rattle.std.specs.Str.{chars, encode_utf8_all, IsUtf8}
use Rattle.std.proofs.lemmas.Bool.Decides.{nat_tests}
use Rattle.std.proofs.lemmas.List.{append_cancel_left, nil_from_length}
use Rattle.std.proofs.lemmas.List.Folds.{list_any-append}
use Rattle.std.proofs.lemmas.Str.{chars-nil, chars_from_encodes, encodes-append, encodes-chars, length-le-encodes}
use Rattle.std.proofs.Math.Utf8.{encode}
use Rattle.dotenvy.specs.Dialect.{Dialect}
use Rattle.dotenvy.specs.Quoting.{Quoting}
use Rattle.dotenvy_format.specs.declared.text.Quoting.TheVariants.{Unquoted}
use Rattle.dotenvy.specs.Characters.{is_empty_or_comment}
use Rattle.dotenvy.specs.Items.{LookUp, meaning, no_values}
use Rattle.dotenvy.specs.Value.{Piece, Text, Name, LastBackslash}
use denote.Ref.{Bor}
use Rattle.dotenvy_format.specs.declared.value.Given.{Given}
use Rattle.dotenvy_format.specs.declared.value.Piece.TheVariants.{Name as GivesName, Text as GivesText}
use Rattle.dotenvy_format.specs.declared.value.Piece.TheVariants.{EmptyNames as GivesEmptyNames}
use Rattle.dotenvy_format.specs.inside.ReadValue.{ValueMode, ValueReading, base, given, read_value}
use Rattle.dotenvy_format.specs.inside.NextPiece.{GivesPiece, IsReadTo, empty_names, piece_bytes, times, without_texts}
use Rattle.dotenvy_format.proofs.values.Values.{given-given, read-value, value-read}
use Rattle.dotenvy_editor.specs.Forms.{has}
use Rattle.dotenvy_editor.specs.Lines.{AssignsText, MeansText}
use Rattle.dotenvy_editor.specs.Told.{MeansFront}
use Rattle.dotenvy_editor.specs.Warnings.{has_nul, is_among, mention, mentions_one}

-- a character's bytes have a NUL where it is one
has-encode : (c : ℕ) → has 0 (encode c) ≡ (c == 0)
unfolding encode
has-encode c = grind (arith, nat_tests)

-- a text's bytes have a NUL just where its characters do
has-encodes : (cs : List ℕ) → has 0 (encode_utf8_all cs) ≡ has 0 cs
has-encodes [] = refl
has-encodes (c ∷ cs) =
    rw (list_any-append (λ d. d == 0) (encode c) (encode_utf8_all cs), has-encode c, has-encodes cs)

-- pieces have a NUL just where what they mean without any names does
meaning_nul : (pieces : List Piece) → has 0 (meaning no_values pieces) ≡ list_any has_nul pieces
meaning_nul [] = refl
meaning_nul (Text text ∷ pieces) =
    rw (list_any-append (λ d. d == 0) text (meaning no_values pieces), meaning_nul pieces)
meaning_nul (Name name after ∷ pieces) =
    rw (list_any-append (λ d. d == 0) after (meaning no_values pieces), meaning_nul pieces)
meaning_nul (LastBackslash ∷ pieces) = meaning_nul pieces

-- a piece of the code has a NUL just where one of its pieces has
pub piece_nul : (bytes : List ℕ) (pieces : List Piece) → bytes ≡ encode_utf8_all (meaning no_values pieces) →
    has 0 bytes ≡ list_any has_nul pieces
piece_nul bytes pieces e = rw (e, has-encodes (meaning no_values pieces)) (meaning_nul pieces)

-- texts mention no name
pub mention-texts : (names : List (List ℕ)) (pieces : List Piece) →
    mention names pieces ≡ mention names (without_texts pieces)
mention-texts names [] = refl
mention-texts names (Text text ∷ pieces) = mention-texts names pieces
mention-texts names (Name name after ∷ pieces) = rw (mention-texts names pieces)
mention-texts names (LastBackslash ∷ pieces) = mention-texts names pieces

-- where the value ends, all of it was read
pub all_read : {dialect : Dialect} {m n : ValueMode} {text rest : List ℕ} {pieces : List Piece} →
    IsReadTo dialect m text pieces n rest → read_value dialect rest n ≡ Some [] →
    read_value dialect text m ≡ Some pieces
all_read {pieces = pieces} is h = is.reads ∙ ap (given pieces) h ∙ ap Some (append-nil pieces)

-- pieces before those that are read are some of all that are read
given_some : (pieces : List Piece) (r : ValueReading) (all : List Piece) → given pieces r ≡ Some all →
    (later : List Piece) × (all ≡ pieces ++ later)
given_some pieces None all h = absurd (cc)
given_some pieces (Some later) all h = (later, cc)

-- pieces one after another mean what they mean, one after another
meaning-append : (look_up : LookUp) (p q : List Piece) →
    meaning look_up (p ++ q) ≡ meaning look_up p ++ meaning look_up q
meaning-append look_up [] q = refl
meaning-append look_up (Text text ∷ p) q = simp (meaning-append look_up p q, append_assoc)
meaning-append look_up (Name name after ∷ p) q = simp (meaning-append look_up p q, append_assoc)
meaning-append look_up (LastBackslash ∷ p) q = meaning-append look_up p q

-- a text begins with what pieces mean, whatever names stand for
pub record BeginsMeant (text : List ℕ) (pieces : List Piece) (left : List ℕ) : Type 0 where
  pub is : (look_up : LookUp) → text ≡ encode_utf8_all (meaning look_up pieces) ++ left

-- what more pieces mean is taken from what is left
pub meant_more : {text left later : List ℕ} {p : List Piece} (q : List Piece) → BeginsMeant text p left →
    ((look_up : LookUp) → left ≡ encode_utf8_all (meaning look_up q) ++ later) → BeginsMeant text (p ++ q) later
meant_more {later = later} {p = p} q a next = record {
  is = λ look_up.
      let both : encode_utf8_all (meaning look_up (p ++ q))
      ≡ encode_utf8_all (meaning look_up p) ++ encode_utf8_all (meaning look_up q) =
      ap encode_utf8_all (meaning-append look_up p q) ∙ encodes-append (meaning look_up p) (meaning look_up q) in
      a.is look_up ∙ ap (λ cs. encode_utf8_all (meaning look_up p) ++ cs) (next look_up)
      ∙ rw (both, append_assoc) refl;
}

-- pieces that mean all of a text, whatever names stand for, mean this text
pub means_text : {text : List ℕ} {pieces : List Piece} → IsUtf8 text → BeginsMeant text pieces [] →
    MeansText pieces (chars text)
means_text {text} {pieces} u a =
    λ look_up. chars_from_encodes (meaning look_up pieces) text u (sym (a.is look_up ∙ append-nil _))

-- what is assigned means a text that is all that its pieces mean
pub assigns_text : {dialect : Dialect} {assigned text : List ℕ} {pieces : List Piece} →
    IsTrue (not (is_empty_or_comment assigned)) → read_value dialect assigned (base Unquoted) ≡ Some pieces →
    IsUtf8 text → BeginsMeant text pieces [] → AssignsText dialect assigned (chars text)
assigns_text {dialect} {assigned} {pieces = pieces} some read u a =
    (pieces, inr (some, value-read dialect assigned pieces read), means_text u a)

-- the pieces of what is assigned, where it is a value that means the text
assigned_pieces : {dialect : Dialect} {assigned text : List ℕ} →
    IsTrue (not (is_empty_or_comment assigned)) → AssignsText dialect assigned text →
    (pieces : List Piece) × (read_value dialect assigned (base Unquoted) ≡ Some pieces) × MeansText pieces text
assigned_pieces some (pieces, inl (none, e), means) = absurd (grind arith)
assigned_pieces {dialect} {assigned} some (pieces, inr (_, is), means) =
    (pieces, read-value dialect assigned pieces is, means)

-- where pieces that were read mean a front of the text, and all of it is assigned, nothing is left of the text
pub nothing_left : {dialect : Dialect} {assigned text left : List ℕ} {pieces : List Piece} →
    IsTrue (not (is_empty_or_comment assigned)) → read_value dialect assigned (base Unquoted) ≡ Some pieces →
    IsUtf8 text → BeginsMeant text pieces left → AssignsText dialect assigned (chars text) → left ≡ []
nothing_left {text = text} {left = left} {pieces = pieces} some read u a assigns =
    let (others, is, means) = assigned_pieces some assigns in
    let same : others ≡ pieces = cc in
    let whole : encode_utf8_all (meaning no_values pieces) ≡ text =
    ap encode_utf8_all (rw same at (means no_values)) ∙ encodes-chars text u in
    append_cancel_left text left [] (rw whole at (sym (a.is no_values)) ∙ sym (append-nil text))

-- pieces that mean a text, one after others that mean a front of it: what is left begins with its meaning
meaning_left : (text left : List ℕ) (p q later all : List Piece) → IsUtf8 text → BeginsMeant text p left →
    all ≡ (p ++ q) ++ later → MeansText all (chars text) → (look_up : LookUp) →
    left ≡ encode_utf8_all (meaning look_up q) ++ encode_utf8_all (meaning look_up later)
meaning_left text left p q later all u a cut means look_up =
    let spelled : meaning look_up p ++ (meaning look_up q ++ meaning look_up later) ≡ chars text =
    sym (append_assoc (meaning look_up p) (meaning look_up q) (meaning look_up later))
    ∙ ap (λ cs. cs ++ meaning look_up later) (sym (meaning-append look_up p q))
    ∙ sym (meaning-append look_up (p ++ q) later) ∙ ap (meaning look_up) (sym cut) ∙ means look_up in
    let bytes : encode_utf8_all (meaning look_up p)
    ++ (encode_utf8_all (meaning look_up q) ++ encode_utf8_all (meaning look_up later)) ≡ text =
    ap (λ cs. encode_utf8_all (meaning look_up p) ++ cs)
    (sym (encodes-append (meaning look_up q) (meaning look_up later)))
    ∙ sym (encodes-append (meaning look_up p) (meaning look_up q ++ meaning look_up later))
    ∙ ap encode_utf8_all spelled ∙ encodes-chars text u in
    append_cancel_left (encode_utf8_all (meaning look_up p)) left _ (sym (a.is look_up) ∙ sym bytes)

-- where a piece comes next in what is assigned, and means the text, what is left of the text begins with its meaning
pub front_meant : {dialect : Dialect} {assigned rest text left : List ℕ} {q : Quoting} {pieces : List Piece}
    {next : Given} → IsTrue (not (is_empty_or_comment assigned)) →
    IsReadTo dialect (base Unquoted) assigned pieces (base q) rest → GivesPiece dialect (base q) rest next →
    IsUtf8 text → BeginsMeant text pieces left → AssignsText dialect assigned (chars text) →
    MeansFront next.piece left
front_meant {dialect} {text = text} {left = left} {pieces = pieces} {next = next} some is more u a assigns =
    let (all, read, means) = assigned_pieces some assigns in
    let rest = read_value dialect (chars next.rest.now) (base next.quoting) in
    let both : given (pieces ++ more.pieces) rest ≡ Some all =
    sym (given-given pieces more.pieces rest) ∙ ap (given pieces) (sym more.is_read.reads) ∙ sym is.reads ∙ read in
    let (later, cut) = given_some (pieces ++ more.pieces) rest all both in (
      λ look_up. encode_utf8_all (meaning look_up later),
      λ look_up.
          meaning_left text left pieces more.pieces later all u a cut means look_up
          ∙ ap (λ cs. cs ++ encode_utf8_all (meaning look_up later)) (sym (more.means look_up)),
    )

-- what is stripped of a text is what a piece of text means
pub text_stripped : (meant : Bor (List ℕ)) (front text : List ℕ) (r : Option (Bor (List ℕ))) → front ≡ meant.now →
    MatchOption r ((rest : List ℕ) → text ≢ front ++ rest) (λ later. text ≡ front ++ later.now) →
    MatchOption r (¬ (MeansFront (GivesText meant) text))
    (λ later. (look_up : LookUp) → text ≡ piece_bytes look_up (GivesText meant) ++ later.now)
text_stripped meant front text None e none =
    λ (later, is). none (later no_values) (is no_values ∙ ap (λ cs. cs ++ later no_values) (sym e))
text_stripped meant front text (Some later) e is = λ look_up. is ∙ ap (λ cs. cs ++ later.now) e

-- where no value is assigned, no text is
pub no_text : {dialect : Dialect} {assigned text : List ℕ} → IsTrue (not (is_empty_or_comment assigned)) →
    read_value dialect assigned (base Unquoted) ≡ None → ¬ (AssignsText dialect assigned text)
no_text some none assigns = let (pieces, is, means) = assigned_pieces some assigns in cc

-- nothing or a comment means the empty text
pub assigns_nothing : {dialect : Dialect} {assigned text : List ℕ} → is_empty_or_comment assigned ≡ true →
    AssignsText dialect assigned text → text ≡ []
assigns_nothing h (pieces, inl (_, none), means) = sym (means no_values) ∙ ap (meaning no_values) none
assigns_nothing h (pieces, inr (some, is), means) = absurd (grind arith)

-- bytes that are longer than others aren't among them
no_longer : (text bytes after later : List ℕ) → length bytes < length text →
    bytes ≡ (encode_utf8_all text ++ after) ++ later → ⊥
no_longer text bytes after later below is =
    let long = length-le-encodes text in
    let total = simp length-append at (ap length is) in
    omega (arith, below, long, total)

-- a name may stand for a text that is longer than all
pub no_name : (name after : Bor (List ℕ)) (bytes : List ℕ) → ¬ (MeansFront (GivesName name after) bytes)
no_name name after bytes (later, is) =
    let look_up : LookUp = λ other. Some (0 ∷ bytes) in
    no_longer (0 ∷ bytes) bytes after.now (later look_up) (omega arith) (is look_up)

-- nor do empty names stand for a text that is known
pub no_empty_names : (more : ℕ) (bytes : List ℕ) → ¬ (MeansFront (GivesEmptyNames more) bytes)
no_empty_names more bytes (later, is) =
    let look_up : LookUp = λ other. Some (0 ∷ bytes) in
    no_longer (0 ∷ bytes) bytes (times more (encode_utf8_all (0 ∷ bytes))) (later look_up) (omega arith) (is look_up)

-- nothing, so many times in a row, is nothing
pub no_times : (n : ℕ) → times n [] ≡ []
no_times zero = refl
no_times (suc n) = no_times n

-- empty names mention a name just where the empty one is among these
pub empty_mentioned : (names : List (List ℕ)) (more : ℕ) →
    mention names (empty_names (suc more)) ≡ is_among names []
empty_mentioned names zero = grind arith
empty_mentioned names (suc more) = grind (arith, empty_mentioned names more)

-- nothing or a comment means just the empty text
pub empty_means : {dialect : Dialect} {assigned : List ℕ} (text : List ℕ) (empty : Bool) →
    is_empty_or_comment assigned ≡ true → IsUtf8 text → empty ≡ (length text == 0) →
    IsTrue empty ↔ AssignsText dialect assigned (chars text)
empty_means {dialect} {assigned} text empty h u e = (
  λ is.
      let none : length text ≡ 0 = grind (arith, nat_tests, e, is) in
      let chars_none : chars text ≡ [] = rw (nil_from_length text none) chars-nil in
      ([], inl (h, refl), λ look_up. sym chars_none),
  λ assigns.
      let none : text ≡ [] = sym (encodes-chars text u) ∙ ap encode_utf8_all (assigns_nothing h assigns) in
      e ∙ rw none refl,
)

-- where a value ends, it means the text just where nothing is left of that
pub end_means : {dialect : Dialect} {assigned : List ℕ} {pieces : List Piece} (text left : List ℕ) (empty : Bool) →
    IsTrue (not (is_empty_or_comment assigned)) → read_value dialect assigned (base Unquoted) ≡ Some pieces →
    IsUtf8 text → BeginsMeant text pieces left → empty ≡ (length left == 0) →
    IsTrue empty ↔ AssignsText dialect assigned (chars text)
end_means {dialect} {assigned} {pieces} text left empty some read u a e = (
  λ is.
      let none : length left ≡ 0 = grind (arith, nat_tests, e, is) in
      assigns_text some read u (rw (nil_from_length left none) at a),
  λ assigns. e ∙ rw (nothing_left some read u a assigns) refl,
)

-- of two tests either may come first
or_turned : (b c : Bool) → (b || c) ≡ (c || b)
or_turned b c = grind arith

-- a NUL in pieces, or in more of them
pub nul_more : (nul more : Bool) (bytes : List ℕ) (p q : List Piece) → nul ≡ list_any has_nul p → more ≡ has 0 bytes →
    bytes ≡ encode_utf8_all (meaning no_values q) → (more || nul) ≡ list_any has_nul (p ++ q)
nul_more nul more bytes p q a b is =
    let own : more ≡ list_any has_nul q = b ∙ piece_nul bytes q is in
    rw (list_any-append has_nul p q, ← a, ← own) (or_turned more nul)

-- a mention in pieces, or in more of them
pub mentions_more : (names : List (List ℕ)) (mentioned more : Bool) (named p q : List Piece) →
    mentioned ≡ mention names p → more ≡ mention names named → without_texts q ≡ named →
    (more || mentioned) ≡ mention names (p ++ q)
mentions_more names mentioned more named p q a b same =
    let own : more ≡ mention names q = b ∙ sym (mention-texts names q ∙ ap (mention names) same) in
    rw (list_any-append (mentions_one names) p q, ← a, ← own) (or_turned more mentioned)
