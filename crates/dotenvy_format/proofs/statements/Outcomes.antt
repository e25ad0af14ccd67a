-- Each line says one thing.
use Rattle.std.proofs.Common.{◌≡◌, ℕ, false, List, [], ◌++◌, Some, None, Ok, Err, refl, sym, ◌∙◌}
use Rattle.std.proofs.Common.{ap, length, take, inl, inr, arith, length-append}
use Rattle.std.specs.Prelude.{◌-◌, if◌then◌else◌}
use Rattle.dotenvy_format.specs.declared.text.Quoting.TheVariants.{Unquoted}
use Rattle.dotenvy_format.specs.declared.dialect.Dialect.{Dialect}
use Rattle.dotenvy_format.specs.Characters.{byte_len, is_empty_or_comment}
use Rattle.dotenvy_format.specs.Statement.{IsStatement}
use Rattle.dotenvy_format.specs.Places.{BeginsStatement, BeginsValue}
use Rattle.dotenvy_format.specs.Outcome.{Outcome, Nothing, Pair, Fault, is_nothing, trimmed, value_index, Says}
use Rattle.dotenvy_format.specs.inside.ParseStatement.{Parsed, parse}
use Rattle.dotenvy_format.specs.inside.ReadValue.{ValueReading, read_value, value_reach, base}
use Rattle.std.proofs.lemmas.Bool.{not-true}
use Rattle.std.proofs.lemmas.Bool.Decides.{nat_tests}
use Rattle.dotenvy_format.proofs.statements.Statements.{statement-parses}
use Rattle.dotenvy_format.proofs.statements.StatementPlaces.{by_test, parse-statement, parse-fault, statement_fronts}
use Rattle.dotenvy_format.proofs.values.Values.{read-value, value-read, no_value}
use Rattle.dotenvy_format.proofs.values.ValuePlaces.{value_place, value_fronts}
use Rattle.dotenvy_format.proofs.values.LongestFronts.{one_place}

-- what a key says whose value is read so: a pair, or a fault in the value
abbrev pub value_outcome : (dialect : Dialect) → List ℕ → List ℕ → ValueReading → Outcome
value_outcome dialect key rest (Some pieces) = Pair key pieces
value_outcome dialect key rest None = Fault rest (value_index rest (value_reach dialect rest (base Unquoted)))

-- what a line says that is parsed so: no value, what its value is read as, or a fault where something is left
abbrev pub statement_outcome : (dialect : Dialect) → List ℕ → Parsed → Outcome
statement_outcome dialect line (Ok (key, rest)) =
    if is_empty_or_comment rest
    then Pair key []
    else value_outcome dialect key rest (read_value dialect rest (base Unquoted))
statement_outcome dialect line (Err left) =
    Fault line (byte_len (take (length (trimmed line) - length left) (trimmed line)))

-- what a line says: nothing where it is empty or a comment, else what it is parsed as
abbrev pub outcome_of : (dialect : Dialect) → List ℕ → Outcome
outcome_of dialect line =
    if is_nothing (trimmed line) then Nothing else statement_outcome dialect line (parse (trimmed line))

-- what is left after a front is shorter by that
front_length : (text front left : List ℕ) → text ≡ front ++ left → length text - length left ≡ length front
front_length text front left h = let e = ap length h in omega (arith, e, length-append front left)

-- a statement that assigns something, and no comment, says what its value is read as
value_says : (dialect : Dialect) (line key rest : List ℕ) → is_nothing (trimmed line) ≡ false →
    IsStatement (trimmed line) key rest → is_empty_or_comment rest ≡ false → (r : ValueReading) →
    read_value dialect rest (base Unquoted) ≡ r → Says dialect line (value_outcome dialect key rest r)
value_says dialect line key rest some is h (Some pieces) e =
    (rw some, rest, is, inr (rw h, value-read dialect rest pieces e))
value_says dialect line key rest some is h None e =
    grind (arith, nat_tests, value_place dialect rest, no_value dialect rest e)

-- a line that is neither empty nor a comment says what it is parsed as
statement_says : (dialect : Dialect) (line : List ℕ) → is_nothing (trimmed line) ≡ false → (r : Parsed) →
    parse (trimmed line) ≡ r → Says dialect line (statement_outcome dialect line r)
statement_says dialect line some (Ok (key, rest)) e =
    grind (arith, nat_tests, parse-statement (trimmed line) key rest e, by_test, value_says)
statement_says dialect line some (Err left) e =
    grind (arith, nat_tests, parse-fault (trimmed line) left e, front_length)

-- each line says what is computed
pub outcome_of-is : (dialect : Dialect) (line : List ℕ) → Says dialect line (outcome_of dialect line)
outcome_of-is dialect line = grind (arith, nat_tests, by_test, statement_says)

-- a line says only what is computed
says_only : (dialect : Dialect) (line : List ℕ) (a : Outcome) → Says dialect line a → a ≡ outcome_of dialect line
says_only dialect line Nothing h = rw h
says_only dialect line (Pair key pieces) (some, rest, is, inl (empty, none)) =
    rw (not-true _ some, statement-parses is, empty, none)
says_only dialect line (Pair key pieces) (some, rest, is, inr (assigned, value)) =
    rw (not-true _ some, statement-parses is, not-true _ assigned, read-value dialect rest pieces value)
says_only dialect line (Fault text index) (some, inl fault) = at (parse (trimmed line)) refl
  where
    at : (r : Parsed) → parse (trimmed line) ≡ r → Fault text index ≡ outcome_of dialect line
    at (Ok (key, rest)) e = absurd (fault.none key rest (parse-statement (trimmed line) key rest e))
    at (Err left) e =
        let other = parse-fault (trimmed line) left e in
        let length_is = front_length (trimmed line) other.1 left other.2 in
        let place = one_place BeginsStatement statement_fronts (trimmed line) fault.place _ fault.is_place other.3 in
        rw (not-true _ some, e, length_is, fault.line_is, fault.index_is, place)
says_only dialect line (Fault text index) (some, inr (key, is, fault)) =
    at (read_value dialect text (base Unquoted)) refl
  where
    at : (r : ValueReading) → read_value dialect text (base Unquoted) ≡ r → Fault text index ≡ outcome_of dialect line
    at (Some pieces) e = absurd (fault.none pieces (value-read dialect text pieces e))
    at None e =
        let other = value_place dialect text in
        let place = one_place (BeginsValue dialect) (value_fronts dialect) text fault.place _ fault.is_place other in
        rw (not-true _ some, statement-parses is, not-true _ fault.assigned, e, fault.index_is, place)

-- a line says at most one thing
pub one_outcome : (dialect : Dialect) (line : List ℕ) (a b : Outcome) → Says dialect line a → Says dialect line b →
    a ≡ b
one_outcome dialect line a b x y = says_only dialect line a x ∙ sym (says_only dialect line b y)
