-- Reading a value from one mode to another, character by character.
use Rattle.std.proofs.lemmas.Bool.{and_parts}
use Rattle.std.proofs.Common.{◌≡◌, ℕ, Bool, true, not, List, [], ◌∷◌, ◌++◌, Some, None, refl}
use Rattle.std.proofs.Common.{arith, length-append, append_assoc}
use Rattle.std.specs.Prelude.{◌==◌}
use Rattle.std.specs.List.{list_all}
use Rattle.std.proofs.lemmas.List.{append-nil}
use Rattle.std.proofs.lemmas.Bool.Decides.{nat_tests}
use Rattle.dotenvy_format.specs.declared.dialect.Dialect.{Dialect}
use Rattle.dotenvy_format.specs.Characters.{single_quote, dollar, backslash, left_brace, right_brace, hash}
use Rattle.dotenvy_format.specs.Characters.{is_space_or_tab, is_name_character, is_empty_or_comment}
use Rattle.dotenvy_format.specs.declared.text.Quoting.{Quoting}
use Rattle.dotenvy_format.specs.declared.text.Quoting.TheVariants.{Unquoted}
use Rattle.dotenvy_format.specs.Value.{Piece, Text, Name}
use Rattle.dotenvy_format.specs.Value.{is_plain, is_escape, is_left_by_name, is_before_left, ends_name, escape_meaning}
use Rattle.dotenvy_format.specs.inside.ReadValue.{ValueMode, base, escaping, in_single, naming, bracing, in_tail}
use Rattle.dotenvy_format.specs.inside.ReadValue.{in_comment, ValueReading, ValueStep, given, with_pieces}
use Rattle.dotenvy_format.specs.inside.ReadValue.{value_goes, value_at_end, read_after, read_value}
use Rattle.dotenvy_format.specs.inside.ReadValue.{value_reach_after, value_reach}
use Rattle.dotenvy_format.specs.inside.NextPiece.{IsReadTo, StopsAt}
use Rattle.std.proofs.lemmas.Bool.{eqb-true}
use Rattle.dotenvy_format.proofs.bytes.NameCharacters.{no_names}

-- pieces given before others that are given are both given, in order
pub given-given : (xs ys : List Piece) (r : ValueReading) → given xs (given ys r) ≡ given (xs ++ ys) r
given-given xs ys r = grind (arith, append_assoc)

-- no pieces before those that are read change nothing
given-nil : (r : ValueReading) → given [] r ≡ r
given-nil r = grind arith

-- a character that leads to a mode is read to there, and gives the pieces of its step
pub one : {dialect : Dialect} {m n : ValueMode} {c : ℕ} {cs : List ℕ} {pieces : List Piece} →
    value_goes dialect m c ≡ Some (n, pieces) → IsReadTo dialect m (c ∷ cs) pieces n cs
one {c = c} h = record { front = c ∷ []; spelled = refl; reads = rw h; counts = rw h (omega arith) }

-- at a character that no value goes on with, reading stops, and that character and the others are left
pub stop : {dialect : Dialect} {m : ValueMode} {c : ℕ} {cs : List ℕ} → value_goes dialect m c ≡ None →
    StopsAt dialect m (c ∷ cs) (c ∷ cs)
stop h = record { front = []; spelled = refl; reads = rw h; counts = rw h }

-- where a text ends and its value lacks its end, reading stops
pub lacks_end : {dialect : Dialect} {m : ValueMode} → value_at_end m ≡ None → StopsAt dialect m [] []
lacks_end h = record { front = []; spelled = refl; reads = h; counts = refl }

-- where a text ends and its value may end, what was read ends there
pub end_read : {dialect : Dialect} {m : ValueMode} {ps : List Piece} → value_at_end m ≡ Some ps →
    IsReadTo dialect m [] ps (base Unquoted) []
end_read h = record { front = []; spelled = refl; reads = rw (h, append-nil); counts = refl }

-- where nothing was read yet, the mode stays, no piece is given, and the whole text is left
pub none_read : (dialect : Dialect) (m : ValueMode) (text : List ℕ) → IsReadTo dialect m text [] m text
none_read dialect m text = record { front = []; spelled = refl; reads = rw given-nil; counts = omega arith }

-- what is read to one mode, and then on to another, is read to that one, and gives the pieces of both
pub read_then : {dialect : Dialect} {m n k : ValueMode} {text left rest : List ℕ} {p q : List Piece} →
    IsReadTo dialect m text p n left → IsReadTo dialect n left q k rest → IsReadTo dialect m text (p ++ q) k rest
read_then a b = record {
  front = a.front ++ b.front;
  spelled = rw append_assoc (cc);
  reads = rw (a.reads, b.reads, given-given);
  counts = omega (arith, length-append a.front b.front);
}

-- where reading stops after what was read, it stops there from the start
pub stop_then : {dialect : Dialect} {m n : ValueMode} {text left rest : List ℕ} {p : List Piece} →
    IsReadTo dialect m text p n left → StopsAt dialect n left rest → StopsAt dialect m text rest
stop_then a b = record {
  front = a.front ++ b.front;
  spelled = rw append_assoc (cc);
  reads = rw (a.reads, b.reads);
  counts = omega (arith, length-append a.front b.front);
}

-- where what is read reaches the end of a text whose value lacks its end, reading stops there
pub stop_open : {dialect : Dialect} {m n : ValueMode} (text : List ℕ) {p : List Piece} →
    IsReadTo dialect m (text ++ []) p n [] → value_at_end n ≡ None → StopsAt dialect m text []
stop_open text a h = rw append-nil at (stop_then a (lacks_end h))

-- a run of characters, each of which the mode collects, is collected, and gives no piece yet
collected_run : {dialect : Dialect} (mode : List ℕ → ValueMode) (passes : ℕ → Bool) →
    ((held : List ℕ) (c : ℕ) → passes c ≡ true → value_goes dialect (mode held) c ≡ Some (mode (held ++ c ∷ []), [])) →
    (held front rest : List ℕ) → list_all passes front ≡ true →
    IsReadTo dialect (mode held) (front ++ rest) [] (mode (held ++ front)) rest
collected_run {dialect = dialect} mode passes step held [] rest h = rw append-nil (none_read dialect (mode held) rest)
collected_run mode passes step held (c ∷ front) rest h =
    let k = and_parts (passes c) (list_all passes front) h in
    rw append_assoc at
    (read_then (one {c = c} (step held c k.0)) (collected_run mode passes step (held ++ c ∷ []) front rest k.1))

-- where a part may begin, a plain character gives itself as text, and a part may begin after it
pub plain_goes : (dialect : Dialect) (q : Quoting) (c : ℕ) → is_plain q c ≡ true →
    value_goes dialect (base q) c ≡ Some (base q, Text (c ∷ []) ∷ [])
plain_goes dialect q c h = grind arith

-- where a part may begin, a backslash begins an escape
pub escape_begun : {dialect : Dialect} {q : Quoting} {cs : List ℕ} →
    IsReadTo dialect (base q) (backslash ∷ cs) [] (escaping q) cs
escape_begun {q = q} = one (grind arith)

-- where a part may begin, a dollar begins a name
pub name_begun : {dialect : Dialect} {q : Quoting} {cs : List ℕ} →
    IsReadTo dialect (base q) (dollar ∷ cs) [] (naming q []) cs
name_begun {q = q} = one (grind arith)

-- after a dollar, a left brace begins a braced name
pub brace_begun : {dialect : Dialect} {q : Quoting} {cs : List ℕ} →
    IsReadTo dialect (naming q []) (left_brace ∷ cs) [] (bracing q []) cs
brace_begun {dialect = dialect} {q = q} = one (grind (arith, no_names dialect))

-- after a backslash, an escape gives what it means, and a part may begin after it
pub escape_read : {dialect : Dialect} {q : Quoting} {c : ℕ} {cs : List ℕ} → is_escape c ≡ true →
    IsReadTo dialect (escaping q) (c ∷ cs) (Text (escape_meaning c ∷ []) ∷ []) (base q) cs
escape_read h = one (rw (h, value_goes))

-- in single quotes, characters that are no such quote are collected
pub single_run : {dialect : Dialect} (inner rest : List ℕ) → list_all (λ c. not (c == single_quote)) inner ≡ true →
    IsReadTo dialect (in_single []) (inner ++ rest) [] (in_single inner) rest
single_run = collected_run in_single (λ c. not (c == single_quote)) (λ held c k. grind arith) []

-- in braces, characters other than `}` are collected
pub braced_run : {dialect : Dialect} {q : Quoting} (name rest : List ℕ) →
    list_all (λ c. not (c == right_brace)) name ≡ true →
    IsReadTo dialect (bracing q []) (name ++ rest) [] (bracing q name) rest
braced_run {q = q} = collected_run (bracing q) (λ c. not (c == right_brace)) (λ held c k. grind arith) []

-- after a dollar, name characters are collected
pub name_run : {dialect : Dialect} {q : Quoting} (name rest : List ℕ) →
    list_all (is_name_character dialect) name ≡ true →
    IsReadTo dialect (naming q []) (name ++ rest) [] (naming q name) rest
name_run {dialect = dialect} {q = q} =
    collected_run (naming q) (is_name_character dialect) (λ held c k. grind arith) []

-- in a tail, spaces and tabs give nothing
pub tail_run : {dialect : Dialect} (blanks rest : List ℕ) → list_all is_space_or_tab blanks ≡ true →
    IsReadTo dialect in_tail (blanks ++ rest) [] in_tail rest
tail_run = collected_run (λ _. in_tail) is_space_or_tab (λ held c k. grind arith) []

-- in single quotes, a text without one and then the quote are read as that text, and end the quotes
pub single_read : {dialect : Dialect} (inner rest : List ℕ) → list_all (λ c. not (c == single_quote)) inner ≡ true →
    IsReadTo dialect (in_single []) (inner ++ single_quote ∷ rest) (Text inner ∷ []) (base Unquoted) rest
single_read inner rest h = read_then (single_run inner (single_quote ∷ rest) h) (one refl)

-- in braces, a text without `}` and then the brace are read as a name, and end the braces
pub braced_read : {dialect : Dialect} {q : Quoting} (name rest : List ℕ) →
    list_all (λ c. not (c == right_brace)) name ≡ true →
    IsReadTo dialect (bracing q []) (name ++ right_brace ∷ rest) (Name name [] ∷ []) (base q) rest
braced_read name rest h = read_then (braced_run name (right_brace ∷ rest) h) (one refl)

-- a character that ends a bare name gives the name with itself
pub name_ended : {dialect : Dialect} {q : Quoting} {name cs : List ℕ} {c : ℕ} → ends_name dialect q name c ≡ true →
    IsReadTo dialect (naming q name) (c ∷ cs) (Name name (c ∷ []) ∷ []) (base q) cs
name_ended {name = name} h = one (grind arith)

-- what is read, and how far, after a step with pieces before its own is that after the step, with those pieces before
with_before : (ps : List Piece) (g : ValueStep) (next : ValueMode → ValueReading) (reach : ValueMode → ℕ) →
    (read_after (with_pieces ps g) next ≡ given ps (read_after g next))
    × (value_reach_after (with_pieces ps g) reach ≡ value_reach_after g reach)
with_before ps g next reach = grind (arith, given-given)

-- a character that leads where it leads from another mode, with pieces before, is left to that mode
left_to : {dialect : Dialect} {m n : ValueMode} {c : ℕ} {cs : List ℕ} {ps : List Piece} →
    value_goes dialect m c ≡ with_pieces ps (value_goes dialect n c) → IsReadTo dialect m (c ∷ cs) ps n (c ∷ cs)
left_to {dialect = dialect} {n = n} {c = c} {cs = cs} {ps = ps} h =
    let both = with_before ps (value_goes dialect n c) (λ k. read_value dialect cs k) (λ k. value_reach dialect cs k) in
    record { front = []; spelled = refl; reads = rw h both.0; counts = rw (h, both.1) (omega arith) }

-- a bare name before a character that it leaves is given, and that character is read from where a part may begin
pub name_left : {dialect : Dialect} {q : Quoting} {name : List ℕ} (cs : List ℕ) → is_before_left dialect q cs ≡ true →
    IsReadTo dialect (naming q name) cs (Name name [] ∷ []) (base q) cs
name_left [] h = cc
name_left {dialect = dialect} {q = q} {name = name} (c ∷ cs) h = left_to (left_goes h)
  where
    left_goes : is_left_by_name dialect q c ≡ true →
        value_goes dialect (naming q name) c ≡ with_pieces (Name name [] ∷ []) (value_goes dialect (base q) c)
    left_goes k = grind (arith, nat_tests, no_names dialect)

-- a comment is read to the end of the value and gives nothing
in_comment_read : (dialect : Dialect) (cs : List ℕ) → read_value dialect cs in_comment ≡ Some []
in_comment_read dialect [] = refl
in_comment_read dialect (c ∷ cs) = rw (in_comment_read dialect cs)

-- in a tail, nothing or a comment gives nothing
pub comment_read : (dialect : Dialect) (comment : List ℕ) → is_empty_or_comment comment ≡ true →
    read_value dialect comment in_tail ≡ Some []
comment_read dialect [] h = refl
comment_read dialect (c ∷ cs) h = rw (eqb-true c hash h, in_comment_read dialect cs)

-- the characters of a text, each as a separate text
abbrev pub each_text : List ℕ → List Piece
each_text [] = []
each_text (c ∷ cs) = Text (c ∷ []) ∷ each_text cs

-- a row of plain characters gives a text for each, and a part may begin after it
pub plain_run : (dialect : Dialect) (q : Quoting) (front rest : List ℕ) → list_all (is_plain q) front ≡ true →
    IsReadTo dialect (base q) (front ++ rest) (each_text front) (base q) rest
plain_run dialect q [] rest h = none_read dialect (base q) rest
plain_run dialect q (c ∷ front) rest h =
    let k : (is_plain q c ≡ true) × (list_all (is_plain q) front ≡ true) = grind arith in
    read_then (one (plain_goes dialect q c k.0)) (plain_run dialect q front rest k.1)
