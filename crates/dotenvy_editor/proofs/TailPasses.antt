-- A value is read character by character up to the blank that ends it.
use Rattle.std.proofs.Common.{◌≡◌, ℕ, Bool, true, false, not, List, [], ◌∷◌, ◌++◌, refl, sym, ap, ◌∙◌, arith}
use Rattle.std.proofs.Common.{append_assoc, append-nil}
use Rattle.std.specs.Prelude.{◌==◌}
use Rattle.std.specs.List.{list_all}
use Rattle.std.proofs.lemmas.Bool.{and_parts}
use Rattle.std.proofs.lemmas.Bool.Decides.{nat_tests}
use Rattle.dotenvy.specs.Dialect.{Dialect}
use Rattle.dotenvy.specs.Quoting.{Quoting}
use Rattle.dotenvy_format.specs.declared.text.Quoting.TheVariants.{Unquoted, DoubleQuoted}
use Rattle.dotenvy.specs.Characters.{is_name_character, single_quote, double_quote}
use Rattle.dotenvy.specs.Characters.{backslash, dollar, left_brace, right_brace}
use Rattle.dotenvy.specs.Value.{Piece, Part, plain, escape, braced, bare, bare_before, Segment}
use Rattle.dotenvy.specs.Value.{unquoted_part, single, double, Close, no_close, lone_backslash}
use Rattle.dotenvy.specs.Value.{bare_name, tail, part_text, parts_text, segment_text, segments_text}
use Rattle.dotenvy.specs.Value.{close_text, is_plain, is_before_left, ends_name, IsPart, AreParts}
use Rattle.dotenvy.specs.Value.{IsSegment, AreSegments, IsClose, IsValue}
use Rattle.dotenvy_editor.specs.declared.tail.Reading.{Reading}
use Rattle.dotenvy_editor.specs.declared.tail.Reading.TheVariants.{Base, Escaping, Single, Dollar}
use Rattle.dotenvy_editor.specs.declared.tail.Reading.TheVariants.{Name, Brace}
use Rattle.dotenvy_editor.specs.Assignments.{IsValuePart, meant_close}
use Rattle.dotenvy_editor.specs.Tails.{after, after_base, is_tail, meant_part}
use Rattle.dotenvy_format.proofs.bytes.NameCharacters.{no_names}

-- before the rest, the front is read from one reading to another, and belongs to the part with a meaning
pub record Passes (dialect : Dialect) (r : Reading) (front : List ℕ) (s : Reading) (rest : List ℕ) : Type 0 where
  pub is : meant_part dialect r (front ++ rest) ≡ front ++ meant_part dialect s rest

-- a character that leads to a reading other than that of a tail is read
pub pass_one : {dialect : Dialect} {r s : Reading} {c : ℕ} {rest : List ℕ} → after dialect r c ≡ s →
    is_tail s ≡ false → Passes dialect r (c ∷ []) s rest
pass_one h k = record { is = rw (h, k) refl }

-- what is read in two steps is read
pass_then : {dialect : Dialect} {r s t : Reading} {a b rest : List ℕ} → Passes dialect r a s (b ++ rest) →
    Passes dialect s b t rest → Passes dialect r (a ++ b) t rest
pass_then {a = a} {b = b} {rest = rest} p q =
    record { is = rw (append_assoc a b rest, p.is, q.is) (rw append_assoc refl) }

-- a run of characters that leave the reading as it is, is read
pass_run : {dialect : Dialect} (r : Reading) (passes : ℕ → Bool) →
    ((c : ℕ) → passes c ≡ true → after dialect r c ≡ r) → is_tail r ≡ false → (front : List ℕ) {rest : List ℕ} →
    list_all passes front ≡ true → Passes dialect r front r rest
pass_run r passes step k [] h = record { is = refl }
pass_run r passes step k (c ∷ front) h =
    let are = and_parts (passes c) (list_all passes front) h in
    pass_then {a = c ∷ []} {b = front} (pass_one (step c are.0) k) (pass_run r passes step k front are.1)

-- where a part begins, a plain character is read alone
pub plain_after : (q : Quoting) (c : ℕ) → is_plain q c ≡ true → after_base q c ≡ Base q
plain_after q c h = grind arith

-- a backslash begins an escape
pub backslash_after : (q : Quoting) → after_base q backslash ≡ Escaping q
backslash_after Unquoted = refl
backslash_after DoubleQuoted = refl

-- a dollar begins a name
pub dollar_after : (q : Quoting) → after_base q dollar ≡ Dollar q
dollar_after Unquoted = refl
dollar_after DoubleQuoted = refl

-- a first character of a bare name is read
pub name_first : (dialect : Dialect) (q : Quoting) (c : ℕ) → is_name_character dialect c ≡ true →
    after dialect (Dollar q) c ≡ Name q
name_first dialect q c h = let none = no_names dialect in grind (arith, nat_tests, none)

-- a further character of a bare name is read
pub name_more : (dialect : Dialect) (q : Quoting) (c : ℕ) → is_name_character dialect c ≡ true →
    after dialect (Name q) c ≡ Name q
name_more dialect q c h = rw h refl

-- a character that ends a bare name is read
name_end : {dialect : Dialect} {q : Quoting} (name : List ℕ) (c : ℕ) {cs : List ℕ} →
    list_all (is_name_character dialect) name ≡ true → ends_name dialect q name c ≡ true →
    Passes dialect (Dollar q) (name ++ c ∷ []) (Base q) cs
name_end {dialect} {q} [] c h ends =
    let goes : after dialect (Dollar q) c ≡ Base q = grind arith in pass_one goes refl
name_end {dialect} {q} (d ∷ name) c h ends =
    let are = and_parts (is_name_character dialect d) (list_all (is_name_character dialect) name) h in
    let goes : after dialect (Name q) c ≡ Base q = grind arith in
    pass_then {a = d ∷ []} {b = name ++ c ∷ []} (pass_one (name_first dialect q d are.0) refl)
    (pass_then {a = name} {b = c ∷ []}
    (pass_run (Name q) (is_name_character dialect) (name_more dialect q) refl name are.1) (pass_one goes refl))

-- the reading right after a dollar and a bare name
abbrev pub named : Quoting → List ℕ → Reading
named q [] = Dollar q
named q (c ∷ name) = Name q

-- a bare name is read
name_read : {dialect : Dialect} {q : Quoting} (name : List ℕ) {rest : List ℕ} →
    list_all (is_name_character dialect) name ≡ true → Passes dialect (Dollar q) name (named q name) rest
name_read [] h = record { is = refl }
name_read {dialect} {q} (c ∷ name) h =
    let are = and_parts (is_name_character dialect c) (list_all (is_name_character dialect) name) h in
    pass_then {a = c ∷ []} {b = name} (pass_one (name_first dialect q c are.0) refl)
    (pass_run (Name q) (is_name_character dialect) (name_more dialect q) refl name are.1)

-- a character that a bare name leaves begins a part
pub left_after : (dialect : Dialect) (q : Quoting) (name : List ℕ) (c : ℕ) (cs : List ℕ) →
    is_before_left dialect q (c ∷ cs) ≡ true → after dialect (named q name) c ≡ after_base q c
left_after dialect q [] c cs h = let none = no_names dialect in grind (arith, nat_tests, none)
left_after dialect q (d ∷ name) c cs h = let none = no_names dialect in grind (arith, nat_tests, none)

-- before a character that a bare name leaves a part may begin
name_left : {dialect : Dialect} {q : Quoting} (name cs : List ℕ) → is_before_left dialect q cs ≡ true →
    Passes dialect (named q name) [] (Base q) cs
name_left name [] h = absurd (cc)
name_left {dialect} {q} name (c ∷ cs) h = record { is = rw (left_after dialect q name c cs h) refl }

-- a part is read
part_passes : (dialect : Dialect) (q : Quoting) (p : Part) (cs : List ℕ) → IsPart dialect q p cs →
    Passes dialect (Base q) (part_text p) (Base q) cs
part_passes dialect q (plain c) cs is = pass_one (plain_after q c is) refl
part_passes dialect q (escape c) cs is =
    pass_then {a = backslash ∷ []} {b = c ∷ []} (pass_one {r = Base q} (backslash_after q) refl)
    (pass_one {r = Escaping q} refl refl)
part_passes dialect q (braced name) cs is =
    let step : (c : ℕ) → not (c == right_brace) ≡ true → after dialect (Brace q) c ≡ Brace q = λ c h. grind arith in
    pass_then {a = dollar ∷ []} {b = left_brace ∷ (name ++ right_brace ∷ [])}
    (pass_one {r = Base q} (dollar_after q) refl)
    (pass_then {a = left_brace ∷ []} {b = name ++ right_brace ∷ []} (pass_one {r = Dollar q} refl refl)
    (pass_then {a = name} {b = right_brace ∷ []}
    (pass_run (Brace q) (λ c. not (c == right_brace)) step refl name is) (pass_one {r = Brace q} refl refl)))
part_passes dialect q (bare name c) cs is =
    pass_then {a = dollar ∷ []} {b = name ++ c ∷ []} (pass_one {r = Base q} (dollar_after q) refl)
    (name_end name c is.0 is.1)
part_passes dialect q (bare_before name) cs is =
    let read = pass_then {a = name} {b = []} (name_read {q = q} name {rest = cs} is.0) (name_left name cs is.1) in
    pass_then {a = dollar ∷ []} {b = name} (pass_one {r = Base q} (dollar_after q) refl) (rw append-nil at read)

-- parts in a row are read
parts_pass : (dialect : Dialect) (q : Quoting) (ps : List Part) (cs : List ℕ) → AreParts dialect q ps cs →
    Passes dialect (Base q) (parts_text ps) (Base q) cs
parts_pass dialect q [] cs are = record { is = refl }
parts_pass dialect q (p ∷ ps) cs are =
    pass_then {a = part_text p} {b = parts_text ps} (part_passes dialect q p (parts_text ps ++ cs) are.0)
    (parts_pass dialect q ps cs are.1)

-- a segment is read
segment_passes : (dialect : Dialect) (s : Segment) (cs : List ℕ) → IsSegment dialect s cs →
    Passes dialect (Base Unquoted) (segment_text s) (Base Unquoted) cs
segment_passes dialect (unquoted_part p) cs is = part_passes dialect Unquoted p cs is
segment_passes dialect (single inner) cs is =
    let step : (c : ℕ) → not (c == single_quote) ≡ true → after dialect Single c ≡ Single = λ c h. grind arith in
    pass_then {a = single_quote ∷ []} {b = inner ++ single_quote ∷ []} (pass_one {r = Base Unquoted} refl refl)
    (pass_then {a = inner} {b = single_quote ∷ []}
    (pass_run Single (λ c. not (c == single_quote)) step refl inner is) (pass_one {r = Single} refl refl))
segment_passes dialect (double inner) cs is =
    pass_then {a = double_quote ∷ []} {b = parts_text inner ++ double_quote ∷ []}
    (pass_one {r = Base Unquoted} refl refl)
    (pass_then {a = parts_text inner} {b = double_quote ∷ []}
    (parts_pass dialect DoubleQuoted inner (double_quote ∷ cs) is) (pass_one {r = Base DoubleQuoted} refl refl))

-- of the end of a value what has a meaning is read
close_meant : (dialect : Dialect) (close : Close) → IsClose dialect close →
    meant_part dialect (Base Unquoted) (close_text close) ≡ meant_close close
close_meant dialect no_close is = refl
close_meant dialect lone_backslash is = refl
close_meant dialect (bare_name name) is =
    let read = pass_then {a = dollar ∷ []} {b = name} {rest = []}
    (pass_one {dialect = dialect} {r = Base Unquoted} {c = dollar} refl refl)
    (name_read {q = Unquoted} name is) in
    ap (meant_part dialect (Base Unquoted)) (sym (append-nil (dollar ∷ name))) ∙ read.is ∙ append-nil (dollar ∷ name)
close_meant dialect (tail blank blanks comment) is =
    let ends : is_tail (after dialect (Base Unquoted) blank) ≡ true = grind (arith, nat_tests, is.0) in rw ends refl

-- segments and the end of a value are read up to a blank
segments_meant : (dialect : Dialect) (ss : List Segment) (close : Close) →
    AreSegments dialect ss (close_text close) → IsClose dialect close →
    meant_part dialect (Base Unquoted) (segments_text ss ++ close_text close) ≡ segments_text ss ++ meant_close close
segments_meant dialect [] close are is = close_meant dialect close is
segments_meant dialect (s ∷ ss) close are is =
    simp append_assoc (rw (
      (segment_passes dialect s (segments_text ss ++ close_text close) are.0).is,
      segments_meant dialect ss close are.1 is,
    ))

-- the part of a value that is read up to a blank is its part with a meaning
pub meant_is : (dialect : Dialect) (assigned : List ℕ) (pieces : List Piece) → IsValue dialect assigned pieces →
    IsValuePart dialect assigned (meant_part dialect (Base Unquoted) assigned)
meant_is dialect assigned pieces is = record {
  segments = is.segments;
  close = is.close;
  are_segments = is.are_segments;
  is_close = is.is_close;
  spelled = is.spelled;
  part =
      ap (meant_part dialect (Base Unquoted)) is.spelled
      ∙ segments_meant dialect is.segments is.close is.are_segments is.is_close;
}

-- the part of a value with a meaning is what is read up to a blank
part_meant : (dialect : Dialect) (assigned old : List ℕ) → IsValuePart dialect assigned old →
    meant_part dialect (Base Unquoted) assigned ≡ old
part_meant dialect assigned old p =
    ap (meant_part dialect (Base Unquoted)) p.spelled
    ∙ segments_meant dialect p.segments p.close p.are_segments p.is_close ∙ sym p.part

-- a value has one part with a meaning
pub one_part : (dialect : Dialect) (assigned a b : List ℕ) → IsValuePart dialect assigned a →
    IsValuePart dialect assigned b → a ≡ b
one_part dialect assigned a b p q = sym (part_meant dialect assigned a p) ∙ part_meant dialect assigned b q

-- a text is read so far: the characters before the rest belong to the part with a meaning
pub record IsReadSo (dialect : Dialect) (text : List ℕ) (reading : Reading) (rest : List ℕ) : Type 0 where
  pub front : List ℕ
  pub spelled : text ≡ front ++ rest
  pub meant : meant_part dialect (Base Unquoted) text ≡ front ++ meant_part dialect reading rest

-- at first nothing is read
pub read_none : (dialect : Dialect) (text : List ℕ) → IsReadSo dialect text (Base Unquoted) text
read_none dialect text = record { front = []; spelled = refl; meant = refl }

-- a character that doesn't begin a tail is read
pub read_more : {dialect : Dialect} {text rest : List ℕ} {reading next : Reading} (c : ℕ) (later : List ℕ) →
    IsReadSo dialect text reading rest → rest ≡ c ∷ later → next ≡ after dialect reading c → is_tail next ≡ false →
    IsReadSo dialect text next later
read_more {dialect} {reading = reading} c later so first goes none = record {
  front = so.front ++ c ∷ [];
  spelled = so.spelled ∙ ap (λ cs. so.front ++ cs) first ∙ sym (append_assoc so.front (c ∷ []) later);
  meant =
      so.meant ∙ ap (λ cs. so.front ++ meant_part dialect reading cs) first
      ∙ ap (λ cs. so.front ++ cs) (pass_one {rest = later} (sym goes) none).is
      ∙ sym (append_assoc so.front (c ∷ []) _);
}

-- at a character that begins a tail the part ends
pub read_tail : {dialect : Dialect} {text rest : List ℕ} {reading next : Reading} (c : ℕ) (later : List ℕ) →
    (so : IsReadSo dialect text reading rest) → rest ≡ c ∷ later → next ≡ after dialect reading c →
    is_tail next ≡ true → meant_part dialect (Base Unquoted) text ≡ so.front
read_tail {dialect} {reading = reading} c later so first goes ends =
    let none : meant_part dialect reading (c ∷ later) ≡ [] = rw (← goes, ends) refl in
    so.meant ∙ ap (λ cs. so.front ++ meant_part dialect reading cs) first ∙ ap (λ cs. so.front ++ cs) none
    ∙ append-nil so.front

-- where nothing is left, the whole text is the part
pub read_all : {dialect : Dialect} {text rest : List ℕ} {reading : Reading} → IsReadSo dialect text reading rest →
    rest ≡ [] → meant_part dialect (Base Unquoted) text ≡ text
read_all {dialect} {reading = reading} so none =
    so.meant ∙ ap (λ cs. so.front ++ meant_part dialect reading cs) none
    ∙ sym (so.spelled ∙ ap (λ cs. so.front ++ cs) none)
