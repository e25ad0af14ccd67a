-- A value that is read character by character gives what its segments and its end give.
use Rattle.std.proofs.Common.{◌≡◌, ℕ, Bool, true, not, List, [], ◌∷◌, ◌++◌, refl, sym, ap, ◌∙◌, arith}
use Rattle.std.proofs.Common.{Some, None, append_assoc, append-nil}
use Rattle.std.specs.Prelude.{◌==◌}
use Rattle.std.specs.List.{flat_map, list_all}
use Rattle.std.proofs.lemmas.Bool.{and_parts}
use Rattle.std.proofs.lemmas.Bool.Decides.{nat_tests}
use Rattle.dotenvy.specs.Dialect.{Dialect}
use Rattle.dotenvy.specs.Quoting.{Quoting}
use Rattle.dotenvy.specs.Dialect.TheVariants.{V15, Next}
use Rattle.dotenvy_format.specs.declared.text.Quoting.TheVariants.{Unquoted, DoubleQuoted}
use Rattle.dotenvy.specs.Characters.{is_name_character, single_quote, double_quote}
use Rattle.dotenvy.specs.Characters.{backslash, dollar, left_brace, right_brace}
use Rattle.dotenvy.specs.Value.{Part, plain, escape, braced, bare, bare_before, Segment}
use Rattle.dotenvy.specs.Value.{unquoted_part, single, double, Close, no_close, lone_backslash}
use Rattle.dotenvy.specs.Value.{bare_name, tail, part_text, parts_text, segment_text, segments_text}
use Rattle.dotenvy.specs.Value.{close_text, escape_meaning, is_plain, is_before_left, is_left_by_name}
use Rattle.dotenvy.specs.Value.{ends_name}
use Rattle.dotenvy.specs.Value.{IsPart, AreParts, IsSegment, AreSegments, IsClose}
use Rattle.dotenvy_editor.specs.declared.tail.Reading.{Reading}
use Rattle.dotenvy_editor.specs.declared.tail.Reading.TheVariants.{Base, Escaping, Single, Dollar}
use Rattle.dotenvy_editor.specs.declared.tail.Reading.TheVariants.{Name, Brace, Tail}
use Rattle.dotenvy_editor.specs.Tails.{after}
use Rattle.dotenvy_editor.specs.Verbatim.{IsVerbatim, close_verbatim, part_verbatim, segment_verbatim}
use Rattle.dotenvy_editor.specs.inside.VerbatimReading.{given, given_base, given_name, given_text, verbatim}
use Rattle.dotenvy_format.proofs.bytes.NameCharacters.{no_names}
use Rattle.dotenvy_editor.proofs.TailPasses.{plain_after, backslash_after, dollar_after, name_first, name_more}
use Rattle.dotenvy_editor.proofs.TailPasses.{named, left_after}

-- before the rest, the front is read from one reading to another, and gives this text
record Gives (dialect : Dialect) (r : Reading) (front : List ℕ) (s : Reading) (text rest : List ℕ) : Type 0 where
  pub is : verbatim dialect r (front ++ rest) ≡ text ++ verbatim dialect s rest

-- a character is read
give_one : {dialect : Dialect} {r s : Reading} {c : ℕ} {text rest : List ℕ} → after dialect r c ≡ s →
    given_text (given dialect r c) ≡ text → Gives dialect r (c ∷ []) s text rest
give_one h k = record { is = rw (h, k) refl }

-- what is read in two steps gives what both give
give_then : {dialect : Dialect} {r s t : Reading} {a b x y rest : List ℕ} → Gives dialect r a s x (b ++ rest) →
    Gives dialect s b t y rest → Gives dialect r (a ++ b) t (x ++ y) rest
give_then {a = a} {b = b} {rest = rest} p q =
    record { is = rw (append_assoc a b rest, p.is, q.is) (rw append_assoc refl) }

-- a run of characters that leave the reading as it is, and give themselves
give_run : {dialect : Dialect} (r : Reading) (passes : ℕ → Bool) →
    ((c : ℕ) → passes c ≡ true → (after dialect r c ≡ r) × (given dialect r c ≡ Some c)) → (front : List ℕ)
    {rest : List ℕ} → list_all passes front ≡ true → Gives dialect r front r front rest
give_run r passes step [] h = record { is = refl }
give_run r passes step (c ∷ front) h =
    let are = and_parts (passes c) (list_all passes front) h in
    let one = step c are.0 in
    give_then {a = c ∷ []} {b = front} {x = c ∷ []} {y = front} (give_one one.0 (ap given_text one.1))
    (give_run r passes step front are.1)

-- where a part begins, a plain character and a dollar give themselves, and a backslash gives nothing
plain_given : (q : Quoting) (c : ℕ) → is_plain q c ≡ true → given_base q c ≡ Some c
plain_given q c h = grind arith

dollar_given : (q : Quoting) → given_base q dollar ≡ Some dollar
dollar_given Unquoted = refl
dollar_given DoubleQuoted = refl

backslash_given : (q : Quoting) → given_text (given_base q backslash) ≡ []
backslash_given Unquoted = refl
backslash_given DoubleQuoted = refl

-- a character of a bare name gives itself
named_given : (dialect : Dialect) (q : Quoting) (name : List ℕ) (c : ℕ) → is_name_character dialect c ≡ true →
    given dialect (named q name) c ≡ Some c
named_given dialect q [] c h = let none = no_names dialect in grind (arith, nat_tests, none)
named_given dialect q (d ∷ name) c h = let none = no_names dialect in grind (arith, nat_tests, none)

-- so does the one that ends it
end_given : (dialect : Dialect) (q : Quoting) (name : List ℕ) (c : ℕ) → ends_name dialect q name c ≡ true →
    given dialect (named q name) c ≡ Some c
end_given dialect q [] c h = grind arith
end_given dialect q (d ∷ name) c h = grind arith

-- a bare name gives itself
name_given : {dialect : Dialect} {q : Quoting} (name : List ℕ) {rest : List ℕ} →
    list_all (is_name_character dialect) name ≡ true → Gives dialect (Dollar q) name (named q name) name rest
name_given [] h = record { is = refl }
name_given {dialect} {q} (c ∷ name) h =
    let are = and_parts (is_name_character dialect c) (list_all (is_name_character dialect) name) h in
    let more : (d : ℕ) → is_name_character dialect d ≡ true →
    (after dialect (Name q) d ≡ Name q) × (given dialect (Name q) d ≡ Some d) =
    λ d k. (name_more dialect q d k, named_given dialect q (c ∷ []) d k) in
    give_then {a = c ∷ []} {b = name} {x = c ∷ []} {y = name}
    (give_one (name_first dialect q c are.0) (ap given_text (named_given dialect q [] c are.0)))
    (give_run (Name q) (is_name_character dialect) more name are.1)

-- after the character that ends it a part may begin
end_after : (dialect : Dialect) (q : Quoting) (name : List ℕ) (c : ℕ) → ends_name dialect q name c ≡ true →
    after dialect (named q name) c ≡ Base q
end_after dialect q [] c h = grind arith
end_after dialect q (d ∷ name) c h = grind arith

-- a character that a bare name leaves gives what it gives where a part begins
left_by_name : (dialect : Dialect) (q : Quoting) (c : ℕ) → is_left_by_name dialect q c ≡ true →
    given_name dialect q c ≡ given_base q c
left_by_name V15 Unquoted c h = grind (arith, nat_tests)
left_by_name V15 DoubleQuoted c h = grind (arith, nat_tests)
left_by_name Next Unquoted c h = grind (arith, nat_tests)
left_by_name Next DoubleQuoted c h = grind (arith, nat_tests)

left_given : (dialect : Dialect) (q : Quoting) (name : List ℕ) (c : ℕ) (cs : List ℕ) →
    is_before_left dialect q (c ∷ cs) ≡ true → given dialect (named q name) c ≡ given_base q c
left_given dialect q [] c cs h = let same = left_by_name dialect q c h in grind (arith, nat_tests, same)
left_given dialect q (d ∷ name) c cs h = left_by_name dialect q c h

-- so before such a character a part may begin
name_left : {dialect : Dialect} {q : Quoting} (name cs : List ℕ) → is_before_left dialect q cs ≡ true →
    Gives dialect (named q name) [] (Base q) [] cs
name_left name [] h = absurd (cc)
name_left {dialect} {q} name (c ∷ cs) h =
    record { is = rw (left_after dialect q name c cs h, left_given dialect q name c cs h) refl }

-- a part gives its text
part_gives : (dialect : Dialect) (q : Quoting) (p : Part) (cs : List ℕ) → IsPart dialect q p cs →
    Gives dialect (Base q) (part_text p) (Base q) (part_verbatim p) cs
part_gives dialect q (plain c) cs is = give_one (plain_after q c is) (ap given_text (plain_given q c is))
part_gives dialect q (escape c) cs is =
    give_then {a = backslash ∷ []} {b = c ∷ []} {x = []} {y = escape_meaning c ∷ []}
    (give_one {r = Base q} (backslash_after q) (backslash_given q)) (give_one {r = Escaping q} refl refl)
part_gives dialect q (braced name) cs is =
    let step : (c : ℕ) → not (c == right_brace) ≡ true →
    (after dialect (Brace q) c ≡ Brace q) × (given dialect (Brace q) c ≡ Some c) =
    λ c h. ((let goes : after dialect (Brace q) c ≡ Brace q = grind arith in goes), refl) in
    give_then {a = dollar ∷ []} {b = left_brace ∷ (name ++ right_brace ∷ [])} {x = dollar ∷ []}
    {y = left_brace ∷ (name ++ right_brace ∷ [])}
    (give_one {r = Base q} (dollar_after q) (ap given_text (dollar_given q)))
    (give_then {a = left_brace ∷ []} {b = name ++ right_brace ∷ []} {x = left_brace ∷ []}
    {y = name ++ right_brace ∷ []} (give_one {r = Dollar q} refl refl)
    (give_then {a = name} {b = right_brace ∷ []} {x = name} {y = right_brace ∷ []}
    (give_run (Brace q) (λ c. not (c == right_brace)) step name is) (give_one {r = Brace q} refl refl)))
part_gives dialect q (bare name c) cs is =
    give_then {a = dollar ∷ []} {b = name ++ c ∷ []} {x = dollar ∷ []} {y = name ++ c ∷ []}
    (give_one {r = Base q} (dollar_after q) (ap given_text (dollar_given q)))
    (give_then {a = name} {b = c ∷ []} {x = name} {y = c ∷ []} (name_given {q = q} name is.0)
    (give_one (end_after dialect q name c is.1) (ap given_text (end_given dialect q name c is.1))))
part_gives dialect q (bare_before name) cs is =
    let read = give_then {a = name} {b = []} {x = name} {y = []} (name_given {q = q} name {rest = cs} is.0)
    (name_left name cs is.1) in
    give_then {a = dollar ∷ []} {b = name} {x = dollar ∷ []} {y = name}
    (give_one {r = Base q} (dollar_after q) (ap given_text (dollar_given q))) (rw append-nil at read)

-- parts in a row give theirs
parts_give : (dialect : Dialect) (q : Quoting) (ps : List Part) (cs : List ℕ) → AreParts dialect q ps cs →
    Gives dialect (Base q) (parts_text ps) (Base q) (flat_map part_verbatim ps) cs
parts_give dialect q [] cs are = record { is = refl }
parts_give dialect q (p ∷ ps) cs are =
    give_then {a = part_text p} {b = parts_text ps} {x = part_verbatim p} {y = flat_map part_verbatim ps}
    (part_gives dialect q p (parts_text ps ++ cs) are.0) (parts_give dialect q ps cs are.1)

-- a segment gives what is in its quotes
segment_gives : (dialect : Dialect) (s : Segment) (cs : List ℕ) → IsSegment dialect s cs →
    Gives dialect (Base Unquoted) (segment_text s) (Base Unquoted) (segment_verbatim s) cs
segment_gives dialect (unquoted_part p) cs is = part_gives dialect Unquoted p cs is
segment_gives dialect (single inner) cs is =
    let step : (c : ℕ) → not (c == single_quote) ≡ true →
    (after dialect Single c ≡ Single) × (given dialect Single c ≡ Some c) =
    λ c h. (
      (let goes : after dialect Single c ≡ Single = grind arith in goes),
      (let gives : given dialect Single c ≡ Some c = grind arith in gives),
    ) in
    let inside = give_then {dialect = dialect} {a = inner} {b = single_quote ∷ []} {x = inner} {y = []} {rest = cs}
    (give_run Single (λ c. not (c == single_quote)) step inner is) (give_one {r = Single} refl refl) in
    give_then {a = single_quote ∷ []} {b = inner ++ single_quote ∷ []} {x = []} {y = inner}
    (give_one {r = Base Unquoted} refl refl) (rw append-nil at inside)
segment_gives dialect (double inner) cs is =
    let inside = give_then {dialect = dialect} {a = parts_text inner} {b = double_quote ∷ []}
    {x = flat_map part_verbatim inner} {y = []} {rest = cs}
    (parts_give dialect DoubleQuoted inner (double_quote ∷ cs) is) (give_one {r = Base DoubleQuoted} refl refl) in
    give_then {a = double_quote ∷ []} {b = parts_text inner ++ double_quote ∷ []} {x = []}
    {y = flat_map part_verbatim inner} (give_one {r = Base Unquoted} refl refl) (rw append-nil at inside)

-- blanks and a comment give nothing
tail_gives : (dialect : Dialect) (cs : List ℕ) → verbatim dialect Tail cs ≡ []
tail_gives dialect [] = refl
tail_gives dialect (c ∷ cs) = tail_gives dialect cs

-- the end of a value gives a name, or nothing
close_gives : (dialect : Dialect) (close : Close) → IsClose dialect close →
    verbatim dialect (Base Unquoted) (close_text close) ≡ close_verbatim close
close_gives dialect no_close is = refl
close_gives dialect lone_backslash is = refl
close_gives dialect (bare_name name) is =
    let read = give_then {a = dollar ∷ []} {b = name} {x = dollar ∷ []} {y = name} {rest = []}
    (give_one {dialect = dialect} {r = Base Unquoted} {c = dollar} refl refl)
    (name_given {q = Unquoted} name is) in
    ap (verbatim dialect (Base Unquoted)) (sym (append-nil (dollar ∷ name))) ∙ read.is ∙ append-nil (dollar ∷ name)
close_gives dialect (tail blank blanks comment) is =
    let goes : after dialect (Base Unquoted) blank ≡ Tail = grind (arith, nat_tests, is.0) in
    let none : given_base Unquoted blank ≡ None = grind (arith, nat_tests, is.0) in
    rw (goes, none, tail_gives dialect (blanks ++ comment)) refl

-- segments and the end of a value give theirs
segments_give : (dialect : Dialect) (ss : List Segment) (close : Close) → AreSegments dialect ss (close_text close) →
    IsClose dialect close →
    verbatim dialect (Base Unquoted) (segments_text ss ++ close_text close)
    ≡ flat_map segment_verbatim ss ++ close_verbatim close
segments_give dialect [] close are is = close_gives dialect close is
segments_give dialect (s ∷ ss) close are is =
    simp append_assoc (rw (
      (segment_gives dialect s (segments_text ss ++ close_text close) are.0).is,
      segments_give dialect ss close are.1 is,
    ))

-- a value gives what is read of it, and nothing else
pub verbatim_is : (dialect : Dialect) (value text : List ℕ) → IsVerbatim dialect value text →
    verbatim dialect (Base Unquoted) value ≡ text
verbatim_is dialect value text (pieces, is, gives) =
    ap (verbatim dialect (Base Unquoted)) is.spelled
    ∙ segments_give dialect is.segments is.close is.are_segments is.is_close ∙ sym gives
