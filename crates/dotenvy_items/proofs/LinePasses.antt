-- What the first pass over a line finds, in the words of the format.
use Rattle.std.proofs.Common.{◌≡◌, ◌≢◌, ℕ, ◌+◌, ◌<◌, Bool, false, not, List, [], ◌∷◌, ◌++◌, Option}
use Rattle.std.proofs.Common.{Some, None, Ok, Err, refl, sym, ◌∙◌, ap, subst, arith, length, take}
use Rattle.std.proofs.Common.{length-append, inl, inr}
use Rattle.std.specs.Prelude.{◌-◌, MatchOption, is_some, if◌then◌else◌, string_bytes}
use Rattle.std.specs.Str.{chars, encode_utf8_all, IsUtf8, drop_trailing_whitespace, trim_end, trim_start}
use Rattle.std.proofs.lemmas.Bool.Decides.{nat_tests}
use Rattle.std.proofs.lemmas.List.{append-nil}
use Rattle.std.proofs.lemmas.Str.{encodes-chars, encodes-append, chars-nil, chars_from_encodes, IsUtf8-string_bytes}
use Rattle.dotenvy_format.specs.declared.text.Quoting.TheVariants.{Unquoted}
use Rattle.dotenvy_format.specs.declared.dialect.Dialect.{Dialect}
use Rattle.dotenvy_items.specs.declared.parse.Declaration.{Declaration}
use Rattle.dotenvy_items.specs.declared.parse.Value.{Value}
use Rattle.dotenvy_items.specs.declared.parse.Fault.{Fault}
use Rattle.std.specs.declared.string.String.{String}
use Rattle.std.specs.FinMap as fin
use Rattle.dotenvy_items.specs.Remembered.{Remembered}
use Rattle.dotenvy_items.specs.inside.ParsedLine.{IsLineAnswer, Remembers}
use Rattle.dotenvy_format.specs.Characters.{byte_len, is_empty_or_comment}
use Rattle.dotenvy_format.specs.Value.{Piece, IsValue}
use Rattle.dotenvy_format.specs.Outcome.{Outcome, Pair, Fault as SaysFault, HasNoValue, Says, is_nothing, value_index, Assigns}
use Rattle.dotenvy_format.specs.Items.{LookUp, meaning}
use Rattle.dotenvy_format.specs.inside.ReadValue.{base, read_value}
use Rattle.dotenvy_items.specs.inside.ValuePasses.{IsMeasured, KnowsMeaning}
use Rattle.dotenvy_base.proofs.Basics.{nil_of}
use Rattle.dotenvy_format.proofs.Basics.{not_is}
use Rattle.dotenvy_format.proofs.statements.StatementParts.{chars-trim_start, chars-trim_end}
use Rattle.dotenvy_format.specs.inside.ParseStatement.{parse}
use Rattle.dotenvy_items.specs.inside.FirstPass.{IsAssigned, IsDeclared, Scans, IsPairOf}
use Rattle.dotenvy_format.proofs.values.Values.{value-read}
use Rattle.dotenvy_format.proofs.statements.StatementPlaces.{parse-statement, parse-fault, front_bytes}

-- a text has as many bytes as its front and what is left have together
pub front_and_left : (text left front : List ℕ) → IsUtf8 text → IsUtf8 left → chars text ≡ front ++ chars left →
    length text ≡ byte_len front + length left
front_and_left text left front u v h =
    let whole = rw (h, encodes-append front (chars left), encodes-chars left v) at (encodes-chars text u) in
    let lengths = simp length-append at (ap length whole) in
    omega (arith, lengths)

-- where nothing is left, the index of the fault is one less than the number of the value's bytes
pub index_open : (value left front : List ℕ) → IsUtf8 value → length left ≡ 0 →
    chars value ≡ front ++ chars left → length value - 1 ≡ value_index (chars value) (length front)
index_open value left front u none h =
    let whole = rw (nil_of left none, chars-nil, append-nil front) at h in
    let bytes = ap length (rw whole at (encodes-chars value u)) in
    rw whole (grind (arith, nat_tests, bytes))

-- where a byte is left, a character is left
pub some_left : (left : List ℕ) → IsUtf8 left → length left ≢ 0 → 0 < length (chars left)
some_left left u some =
    (elim (chars left) as (λ cs. encode_utf8_all cs ≡ left → 0 < length cs) [
      | [] ↦ λ e. absurd (some (ap length (sym e)))
      | c ∷ cs ↦ λ e. omega arith
    ]) (encodes-chars left u)

-- where some of a value is left at its fault, the index is its characters less those that are left
pub index_before : (cs left front : List ℕ) → 0 < length left → cs ≡ front ++ left →
    length cs - length left ≡ value_index cs (length front)
index_before cs left front some h =
    let all = simp length-append at (ap length h) in grind (arith, nat_tests, some, all)

-- what the index of a fault in a value is proved from
pub ruleset fault_places = (index_open, index_before, some_left)

-- what is neither empty nor a comment has a byte
pub some_bytes : (text : List ℕ) → is_empty_or_comment (chars text) ≡ false → 0 < length text
some_bytes [] h = let e = rw chars-nil at h in cc
some_bytes (b ∷ text) h = omega arith

-- a value that was measured has pieces, and what is known of it is so
pub measured_value : (dialect : Dialect) (look_up : LookUp) (value : Value) → IsMeasured dialect look_up value →
    (pieces : List Piece) × IsValue dialect (chars value.text.now) pieces × KnowsMeaning look_up value pieces
measured_value dialect look_up value = at (read_value dialect (chars value.text.now) (base Unquoted)) refl
  where
    at : (r : Option (List Piece)) → read_value dialect (chars value.text.now) (base Unquoted) ≡ r →
        MatchOption r ⊥ (KnowsMeaning look_up value) →
        (pieces : List Piece) × IsValue dialect (chars value.text.now) pieces × KnowsMeaning look_up value pieces
    at None e k = absurd k
    at (Some pieces) e k = (pieces, value-read dialect (chars value.text.now) pieces e, k)

-- a line says nothing where its text, without white space around it, is empty or a comment
pub says_nothing : (line end start : List ℕ) (nothing : Bool) → IsUtf8 line → IsUtf8 end → end ≡ trim_end line →
    start ≡ trim_start end → nothing ≡ is_empty_or_comment (chars start) →
    is_nothing (drop_trailing_whitespace (chars line)) ≡ nothing
says_nothing line end start nothing u v ends starts is =
    rw (← chars-trim_end line end u ends, ← chars-trim_start end start v starts) (sym is)

-- where what a line's statement assigns is so declared, the line declares it
pub declared : (dialect : Dialect) (look_up : LookUp) (line rest : List ℕ) (pieces : List Piece)
    (declaration : Declaration) → is_nothing (drop_trailing_whitespace line) ≡ false →
    parse (drop_trailing_whitespace line) ≡ Ok (chars declaration.key.now, rest) →
    IsAssigned dialect look_up rest pieces declaration.value → Scans dialect look_up line (Ok (Some declaration))
declared dialect look_up line rest pieces declaration some parsed is = record {
  some = ap not some;
  rest = rest;
  statement = parse-statement (drop_trailing_whitespace line) (chars declaration.key.now) rest parsed;
  pieces = pieces;
  is_assigned = is;
}

-- a line that assigns what has a fault says that fault
pub value_fault : (dialect : Dialect) (look_up : LookUp) (line key : List ℕ) (fault : Fault) →
    is_nothing (drop_trailing_whitespace line) ≡ false →
    parse (drop_trailing_whitespace line) ≡ Ok (key, chars fault.text.now) →
    HasNoValue dialect (chars fault.text.now) fault.index → Scans dialect look_up line (Err fault)
value_fault dialect look_up line key fault some parsed is = (
  ap not some,
  inr (key, parse-statement (drop_trailing_whitespace line) key (chars fault.text.now) parsed, is),
)

-- what is left at a fault in a statement is the back of its text
pub left_of_statement : (text left : List ℕ) → parse text ≡ Err left → (front : List ℕ) × (text ≡ front ++ left)
left_of_statement text left h = let f = parse-fault text left h in (f.1, f.2)

-- a fault before the value: its index is the number of bytes before what is left
pub says-no_statement : (dialect : Dialect) (line front left : List ℕ) →
    is_nothing (drop_trailing_whitespace line) ≡ false → parse (drop_trailing_whitespace line) ≡ Err left →
    drop_trailing_whitespace line ≡ front ++ left → Says dialect line (SaysFault line (byte_len front))
says-no_statement dialect line front left some h e =
    let u = drop_trailing_whitespace line in
    let f = parse-fault u left h in
    let same : length f.1 ≡ length front =
    (let d = ap length (sym f.2 ∙ e) in omega (arith, d, length-append f.1 left, length-append front left)) in (
      ap not some,
      inl (record {
        none = f.0;
        place = length f.1;
        is_place = f.3;
        line_is = refl;
        index_is =
            sym (ap (λ t. byte_len (take (length f.1) t)) e
            ∙ ap (λ n. byte_len (take n (front ++ left))) same
            ∙ front_bytes front left);
      }),
    )

-- a line that is neither nothing nor a statement has its fault at the bytes before what is left
pub statement_fault : (dialect : Dialect) (line left : List ℕ) (index : ℕ) →
    is_nothing (drop_trailing_whitespace line) ≡ false → parse (drop_trailing_whitespace line) ≡ Err left →
    ((front : List ℕ) → drop_trailing_whitespace line ≡ front ++ left → index ≡ byte_len front) →
    Says dialect line (SaysFault line index)
statement_fault dialect line left index some parsed counts =
    let f = left_of_statement (drop_trailing_whitespace line) left parsed in
    subst (λ n. Says dialect line (SaysFault line n)) (sym (counts f.0 f.1))
    (says-no_statement dialect line f.0 left some parsed f.1)

-- the characters of a text that was spelled from characters
pub chars-spelled : (text spelled : List ℕ) → IsUtf8 text → text ≡ encode_utf8_all spelled → chars text ≡ spelled
chars-spelled text spelled u h = sym (chars_from_encodes spelled text u (sym h))

-- what is declared is what the line says
pub says_declared : (dialect : Dialect) (look_up : LookUp) (line key : List ℕ) (declaration : Declaration)
    (is : IsDeclared dialect look_up line declaration) → chars declaration.key.now ≡ key →
    Says dialect line (Pair key is.pieces)
says_declared dialect look_up line key declaration is e =
    (is.some, is.rest, rw e at is.statement, at declaration.value is.is_assigned)
  where
    at : (value : Option Value) → IsAssigned dialect look_up is.rest is.pieces value → Assigns dialect is.rest is.pieces
    at None h = inl h
    at (Some written) h = inr (h.0, h.2)

-- no value is remembered where none is assigned
remembered_as : (dialect : Dialect) (look_up : LookUp) (rest : List ℕ) (pieces : List Piece) (value : Option Value)
    (text : List ℕ) → IsAssigned dialect look_up rest pieces value →
    (if is_some value then Some text else None) ≡ (if is_empty_or_comment rest then None else Some text)
remembered_as dialect look_up rest pieces None text is = rw is.0 refl
remembered_as dialect look_up rest pieces (Some written) text is = rw (not_is (is_empty_or_comment rest) is.0) refl

module _ {A : Type 0} {dialect : Dialect} {look_up : LookUp} {line : List ℕ} {declaration : Declaration}
    {pair : String A × String A} (is : IsDeclared dialect look_up line declaration)
    (says : IsPairOf look_up declaration is.pieces pair) where
  -- the pair of a declaration is the answer to what its line says
  pub pair_answer : (outcome : Outcome) × Says dialect line outcome
      × IsLineAnswer {A = A} look_up outcome (Ok (Some pair))
  pair_answer =
      let value = chars-spelled (string_bytes pair.1) (meaning look_up is.pieces) (IsUtf8-string_bytes pair.1)
      says.value in
      let key = chars (string_bytes pair.0) in (
        Pair key is.pieces,
        says_declared dialect look_up line key declaration is (rw says.key refl),
        ((refl, value), tt),
      )

  -- of a pair its value is remembered under its key, or no value where nothing is assigned
  pub pair_remembered : (old new : Remembered) {value : Option (List ℕ)} →
      new ≡ fin.insert old declaration.key.now value →
      value ≡ (if is_some declaration.value then Some (string_bytes pair.1) else None) →
      Remembers {A = A} line old new (Ok (Some pair))
  pair_remembered old new inserted same =
      let value = remembered_as dialect look_up is.rest is.pieces declaration.value (string_bytes pair.1)
      is.is_assigned in
      (is.rest, rw says.key is.statement, rw (inserted, same, says.key, value))
