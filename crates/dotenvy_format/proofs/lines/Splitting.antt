-- The splitter's machine reads the tokens of a logical line, and ends where the logical line does.
use Rattle.std.proofs.lemmas.Bool.{and_parts}
use Rattle.dotenvy_format.specs.Characters.{carriage_return}
use Rattle.std.proofs.Common.{false}
use Rattle.std.proofs.Common.{◌≡◌, ℕ, true, ◌||◌, not, List, [], ◌∷◌, ◌++◌, Option}
use Rattle.std.proofs.Common.{Some, None, refl, sym, ◌∙◌, ap, arith, append_assoc, subst, inl, inr}
use Rattle.std.specs.Prelude.{◌==◌, ◌⊎◌}
use Rattle.std.specs.List.{flat_map, list_all}
use Rattle.std.proofs.lemmas.List.{append-nil}
use Rattle.std.proofs.lemmas.List.Folds.{list_all-append}
use Rattle.std.proofs.lemmas.Grind.{flat_map-append}
use Rattle.std.proofs.lemmas.Bool.Decides.{nat_tests}
use Rattle.dotenvy_format.specs.Characters.{is_blank, is_quote, line_feed, backslash, hash}
use Rattle.dotenvy_format.specs.Tokens.{QuotedCharacter, one, pair, Token, one_character, backslash_pair}
use Rattle.dotenvy_format.specs.Tokens.{quoted, blank_pair, blank, quoted_text, token_text, tokens_text}
use Rattle.dotenvy_format.specs.Tokens.{is_quoted, stands_for_itself, is_before_break, IsToken, AreTokens}
use Rattle.dotenvy_format.specs.LogicalLine.{Ending, line_end, escaped_line_end, comment, input_end}
use Rattle.dotenvy_format.specs.LogicalLine.{ending_text, IsOneLine, IsEnding, kept_text}
use Rattle.dotenvy_format.specs.LogicalLine.{without_carriage_return, IsWhole}
use Rattle.dotenvy_format.specs.declared.walk.LineMode.{LineMode}
use Rattle.dotenvy_format.specs.declared.walk.LineMode.TheVariants.{Outside, Escaping, Inside}
use Rattle.dotenvy_format.specs.declared.walk.LineMode.TheVariants.{InsideEscaping, AfterBlank}
use Rattle.dotenvy_format.specs.inside.Walk.{leads_outside, leads, kept_before, Walk, going, ended, walked, walk}

-- what a walk gives where it goes on after this one
abbrev pub onward : Walk → (LineMode → Walk) → Walk
onward (going m) next = next m
onward (ended kept) next = ended kept

-- a walk over two texts is that over the first, and where this goes on, that over the second
pub walk-append : (m : LineMode) (seen xs ys : List ℕ) →
    walk m seen (xs ++ ys) ≡ onward (walk m seen xs) (λ n. walk n (seen ++ xs) ys)
walk-append m seen [] ys = rw append-nil refl
walk-append m seen (x ∷ xs) ys =
    let later = λ (n : LineMode). simp append_assoc at (walk-append n (seen ++ x ∷ []) xs ys) in grind arith

-- no logical line ends in the text, and reading it leads to the mode
abbrev pub IsGoing : List ℕ → LineMode → Type 0
IsGoing seen m = walk Outside [] seen ≡ going m

-- where a loop begins
pub going_start : IsGoing [] Outside
going_start = refl

-- a walk from the start goes on after what was seen
pub going_more : (seen : List ℕ) (m : LineMode) (cs : List ℕ) → IsGoing seen m →
    walk Outside [] (seen ++ cs) ≡ walk m seen cs
going_more seen m cs g = walk-append Outside [] seen cs ∙ rw g refl

-- From the walk to the tokens.
-- an opening quote and what may stand after it
record IsOpen (q : ℕ) (part : List ℕ) : Type 0 where
  inner : List QuotedCharacter
  quote : is_quote q ≡ true
  are : list_all (is_quoted q) inner ≡ true
  is : part ≡ q ∷ flat_map quoted_text inner

-- what a mode has read of a token that is not whole yet
abbrev IsPart : LineMode → List ℕ → Type 0
IsPart Outside part = part ≡ []
IsPart Escaping part = part ≡ backslash ∷ []
IsPart (Inside q) part = IsOpen q part
IsPart (InsideEscaping q) part = (front : List ℕ) × IsOpen q front × (part ≡ front ++ backslash ∷ [])
IsPart AfterBlank part = (b : ℕ) × (is_blank b ≡ true) × (part ≡ b ∷ [])

-- what was seen, before this text, is tokens, and a part of which this holds
record Told (seen : List ℕ) (Part : List ℕ → Type 0) (after : List ℕ) : Type 0 where
  tokens : List Token
  part : List ℕ
  are : AreTokens tokens (part ++ after)
  is_part : Part part
  spelled : seen ≡ tokens_text tokens ++ part

-- a token more after tokens spells its text after theirs
text_more : (tokens : List Token) (t : Token) (after : List ℕ) →
    tokens_text tokens ++ (token_text t ++ after) ≡ tokens_text (tokens ++ t ∷ []) ++ after
text_more tokens t after = simp (flat_map-append, append-nil, append_assoc)

-- a token may stand after others where its text may follow them
are_more : (tokens : List Token) (t : Token) (after : List ℕ) → AreTokens tokens (token_text t ++ after) →
    IsToken t after → AreTokens (tokens ++ t ∷ []) after
are_more [] t after are is = (is, tt)
are_more (x ∷ tokens) t after are is =
    (subst (IsToken x) (text_more tokens t after) are.0, are_more tokens t after are.1 is)

-- a character may belong to the part
grow : {seen cs : List ℕ} {P Q : List ℕ → Type 0} {c : ℕ} (t : Told seen P (c ∷ cs)) → Q (t.part ++ c ∷ []) →
    Told (seen ++ c ∷ []) Q cs
grow {c = c} t is = record {
  tokens = t.tokens;
  part = t.part ++ c ∷ [];
  are = rw append_assoc t.are;
  is_part = is;
  spelled = rw t.spelled (append_assoc (tokens_text t.tokens) t.part (c ∷ []));
}

-- a part may be a whole token
close : {seen after : List ℕ} (x : Token) → Told seen (λ part. part ≡ token_text x) after → IsToken x after →
    Told seen (IsPart Outside) after
close {after = after} x t is = record {
  tokens = t.tokens ++ x ∷ [];
  part = [];
  are = are_more t.tokens x after (rw t.is_part at t.are) is;
  is_part = refl;
  spelled = t.spelled ∙ rw t.is_part (simp (append-nil, flat_map-append));
}

-- what stands in quotes may be followed by a character, or by a backslash and one
open_more : {q : ℕ} {part : List ℕ} (x : QuotedCharacter) → IsOpen q part → is_quoted q x ≡ true →
    IsOpen q (part ++ quoted_text x)
open_more {q = q} x o is = record {
  inner = o.inner ++ x ∷ [];
  quote = o.quote;
  are = rw (list_all-append, o.are, is) refl;
  is = rw o.is (simp (flat_map-append, append-nil));
}

-- after a whole token: where a line feed, a backslash, a quote, a blank and another character lead
pub outside_leads : (c : ℕ) →
    ((c ≡ line_feed) × (leads_outside c ≡ None))
    ⊎ (((c ≡ backslash) × (leads_outside c ≡ Some Escaping))
    ⊎ (((is_quote c ≡ true) × (leads_outside c ≡ Some (Inside c)))
    ⊎ (((is_blank c ≡ true) × (leads_outside c ≡ Some AfterBlank))
    ⊎ ((not (is_blank c || stands_for_itself c) ≡ true) × (leads_outside c ≡ Some Outside)))))
outside_leads c = grind (arith, nat_tests)

-- after a backslash: where a line feed and another character lead
pub escaping_leads : (c : ℕ) →
    ((c ≡ line_feed) × (leads Escaping c ≡ None))
    ⊎ ((not (c == line_feed) ≡ true) × (leads Escaping c ≡ Some Outside))
escaping_leads c = grind (arith, nat_tests)

-- in quotes: where the quote, a backslash and another character lead
pub inside_leads : (q c : ℕ) →
    ((c ≡ q) × (leads (Inside q) c ≡ Some Outside))
    ⊎ (((c ≡ backslash) × (leads (Inside q) c ≡ Some (InsideEscaping q)))
    ⊎ ((is_quoted q (one c) ≡ true) × (leads (Inside q) c ≡ Some (Inside q))))
inside_leads q c = grind (arith, nat_tests)

-- after a blank: where `#`, a character before which the blank stands alone, and another character lead
pub blank_leads : (c : ℕ) →
    ((c ≡ hash) × (leads AfterBlank c ≡ None))
    ⊎ (((stands_for_itself c ≡ true) × (leads AfterBlank c ≡ leads_outside c))
    ⊎ ((not (c == hash || stands_for_itself c) ≡ true) × (leads AfterBlank c ≡ Some Outside)))
blank_leads c = grind (arith, nat_tests)

-- a text that ends with a character other than a carriage return has none at its end to be cut off
pub not_returned : (xs : List ℕ) (c : ℕ) → (c == carriage_return) ≡ false →
    without_carriage_return (xs ++ c ∷ []) ≡ xs ++ c ∷ []
not_returned [] c h = rw h refl
not_returned (x ∷ []) c h = rw h refl
not_returned (x ∷ y ∷ xs) c h = ap (◌∷◌ x) (not_returned (y ∷ xs) c h)

-- nothing follows a line feed in a line
nothing_after : (c : ℕ) (rest : List ℕ) → c ≡ line_feed → IsOneLine (c ∷ rest) → rest ≡ []
nothing_after c rest h is_one = grind (arith, nat_tests)

-- one line without its first character is one line
one_line_after : (c : ℕ) (rest : List ℕ) → IsOneLine (c ∷ rest) → IsOneLine rest
one_line_after c rest is_one = grind arith

-- tokens and a part, with what follows, are a whole logical line where the part and that are an ending
whole_from : {seen : List ℕ} {P : List ℕ → Type 0} (after kept : List ℕ) (ending : Ending) (last : Type 0)
    (t : Told seen P after) → t.part ++ after ≡ ending_text ending → IsEnding ending last →
    kept ≡ kept_text (tokens_text t.tokens) ending → IsWhole (seen ++ after) kept last
whole_from after kept ending last t e is cut = record {
  tokens = t.tokens;
  ending = ending;
  are_tokens = rw e at t.are;
  is_ending = is;
  spelled = rw (t.spelled, append_assoc, e) refl;
  cut = cut;
}

-- a character leads to a mode, which has read it, or it ends the logical line
abbrev Led : Type 0 → List ℕ → ℕ → List ℕ → Option LineMode → Type 0
Led last seen c cs None = IsOneLine (c ∷ cs) → IsWhole (seen ++ c ∷ cs) (kept_before c seen) last
Led last seen c cs (Some n) = Told (seen ++ c ∷ []) (IsPart n) cs

-- after a whole token, where a character leads is what was read
lead_outside : {seen cs : List ℕ} (last : Type 0) (c : ℕ) → Told seen (IsPart Outside) (c ∷ cs) →
    Led last seen c cs (leads_outside c)
lead_outside {seen = seen} {cs = cs} last c t = elim (outside_leads c) [
  | inl h ↦
      rw h.1 (λ line.
      let none = nothing_after c cs h.0 line in
      whole_from (c ∷ cs) (kept_before c seen) line_end last t (rw (t.is_part, h.0, none) refl) tt
      (rw (h.0, t.spelled, t.is_part, append-nil) refl))
  | inr (inl h) ↦ rw h.1 (grow t (rw (t.is_part, h.0) refl))
  | inr (inr (inl h)) ↦ rw h.1 (grow t (record { inner = []; quote = h.0; are = refl; is = rw t.is_part refl }))
  | inr (inr (inr (inl h))) ↦ rw h.1 (grow t (c, h.0, rw t.is_part refl))
  | inr (inr (inr (inr h))) ↦ rw h.1 (close (one_character c) (grow t (rw t.is_part refl)) h.0)
]

-- where a character leads is what was read
lead : {seen cs : List ℕ} (last : Type 0) (m : LineMode) (c : ℕ) → Told seen (IsPart m) (c ∷ cs) →
    Led last seen c cs (leads m c)
lead last Outside c t = lead_outside last c t
lead {seen = seen} {cs = cs} last Escaping c t = elim (escaping_leads c) [
  | inl h ↦
      rw h.1 (λ line.
      let none = nothing_after c cs h.0 line in
      whole_from (c ∷ cs) (kept_before c seen) escaped_line_end last t (rw (t.is_part, h.0, none) refl) tt
      (rw (h.0, t.spelled, t.is_part, not_returned (tokens_text t.tokens) backslash refl) refl))
  | inr h ↦ rw h.1 (close (backslash_pair c) (grow t (rw t.is_part refl)) h.0)
]
lead last (Inside q) c t = let o = t.is_part in elim (inside_leads q c) [
  | inl h ↦ rw h.1 (close (quoted q o.inner) (grow t (rw (o.is, h.0) refl)) (o.quote, o.are))
  | inr (inl h) ↦ rw h.1 (grow t (t.part, o, rw h.0 refl))
  | inr (inr h) ↦ rw h.1 (grow t (open_more (one c) o h.0))
]
lead last (InsideEscaping q) c t =
    let p = t.is_part in grow t (rw (p.2, append_assoc) (open_more (pair c) p.1 refl))
lead {seen = seen} {cs = cs} last AfterBlank c t = let p = t.is_part in elim (blank_leads c) [
  | inl h ↦
      rw h.1 (λ line.
      whole_from (c ∷ cs) (kept_before c seen) (comment p.0 cs) last t (rw (p.2, h.0) refl)
      (p.1, one_line_after c cs line) (rw (h.0, t.spelled, p.2) refl))
  | inr (inl h) ↦
      let alone : Told seen (λ part. part ≡ token_text (blank p.0)) (c ∷ cs) =
      record { tokens = t.tokens; part = t.part; are = t.are; is_part = p.2; spelled = t.spelled } in
      rw h.1 (lead_outside last c (close (blank p.0) alone (p.1, h.0)))
  | inr (inr h) ↦ rw h.1 (close (blank_pair p.0 c) (grow t (rw p.2 refl)) (p.1, h.0))
]

-- a walk over a text leads to a mode, which has read it, or it ends the logical line
abbrev Reached : Type 0 → List ℕ → List ℕ → List ℕ → Walk → Type 0
Reached last seen cs rest (going n) = Told (seen ++ cs) (IsPart n) rest
Reached last seen cs rest (ended kept) = IsOneLine (cs ++ rest) → IsWhole (seen ++ (cs ++ rest)) kept last

-- a walk after a text and a character more is a walk after the text, over one that begins with that character
reached_more : (last : Type 0) (seen : List ℕ) (c : ℕ) (cs rest : List ℕ) (w : Walk) →
    Reached last (seen ++ c ∷ []) cs rest w → Reached last seen (c ∷ cs) rest w
reached_more last seen c cs rest (going n) h = rw append_assoc at h
reached_more last seen c cs rest (ended kept) h = λ line. rw append_assoc at (h (one_line_after c (cs ++ rest) line))

-- where a walk leads is what was read
reached : (last : Type 0) (seen : List ℕ) (m : LineMode) (cs rest : List ℕ) → Told seen (IsPart m) (cs ++ rest) →
    Reached last seen cs rest (walk m seen cs)
reached last seen m [] rest t = rw append-nil t
reached last seen m (c ∷ cs) rest t =
    (elim (leads m c) as (λ o.
    Led last seen c (cs ++ rest) o →
    Reached last seen (c ∷ cs) rest (walked o c seen (λ n. walk n (seen ++ c ∷ []) cs))) [
      | None ↦ λ h. h
      | Some n ↦
          λ h.
          reached_more last seen c cs rest (walk n (seen ++ c ∷ []) cs)
          (reached last (seen ++ c ∷ []) n cs rest h)
    ]) (lead last m c t)

-- a text in which no logical line ends is tokens and a part of one, as they are before whatever follows
told : (seen : List ℕ) (m : LineMode) (rest : List ℕ) → IsGoing seen m → Told seen (IsPart m) rest
told seen m rest g =
    rw g at (reached (Unit {0}) [] Outside seen rest
    (record { tokens = []; part = []; are = tt; is_part = refl; spelled = refl }))

-- a text that leads to a whole token is a row of tokens
pub outside_tokens : (seen : List ℕ) → IsGoing seen Outside →
    (tokens : List Token) × AreTokens tokens [] × (seen ≡ tokens_text tokens)
outside_tokens seen g =
    let t = told seen Outside [] g in
    (t.tokens, rw t.is_part at t.are, t.spelled ∙ rw t.is_part (append-nil (tokens_text t.tokens)))

-- one physical line after what was seen
abbrev pub IsWalked : Type 0 → List ℕ → List ℕ → Walk → Type 0
IsWalked last seen line (going m) = IsGoing (seen ++ line) m
IsWalked last seen line (ended text) = IsWhole (seen ++ line) text last

-- after a text in which no logical line ends, one more physical line does what the walk over it says
pub walk-is : (last : Type 0) (m : LineMode) (seen line : List ℕ) → IsGoing seen m → IsOneLine line →
    IsWalked last seen line (walk m seen line)
walk-is last m seen line g is_one =
    at (walk m seen line) (going_more seen m line g)
    (reached last seen m line [] (rw append-nil (told seen m line g)))
  where
    at : (w : Walk) → walk Outside [] (seen ++ line) ≡ w → Reached last seen line [] w → IsWalked last seen line w
    at (going n) e h = e
    at (ended kept) e h = (rw append-nil at h) is_one

-- From the tokens to the walk.
-- after a whole token, a blank leads to what is after a blank
blank_goes : (b : ℕ) → is_blank b ≡ true → leads_outside b ≡ Some AfterBlank
blank_goes b h = grind (arith, nat_tests)

-- what may stand in quotes, and the quote, lead outside
walk_inner : (q : ℕ) (inner : List QuotedCharacter) (seen after : List ℕ) → is_quote q ≡ true →
    list_all (is_quoted q) inner ≡ true →
    walk (Inside q) seen ((flat_map quoted_text inner ++ q ∷ []) ++ after)
    ≡ walk Outside (seen ++ (flat_map quoted_text inner ++ q ∷ [])) after
walk_inner q [] seen after h k =
    let closes : leads (Inside q) q ≡ Some Outside = grind (arith, nat_tests) in rw closes refl
walk_inner q (one c ∷ inner) seen after h k =
    let p = and_parts (is_quoted q (one c)) (list_all (is_quoted q) inner) k in
    let stays : leads (Inside q) c ≡ Some (Inside q) = grind (arith, nat_tests, p.0) in
    rw stays (rw (append_assoc seen (c ∷ [])) at (walk_inner q inner (seen ++ c ∷ []) after h p.1))
walk_inner q (pair c ∷ inner) seen after h k =
    let escapes : leads (Inside q) backslash ≡ Some (InsideEscaping q) = grind (arith, nat_tests) in
    rw escapes (rw append_assoc
    (rw (append_assoc seen (backslash ∷ c ∷ [])) at (walk_inner q inner (seen ++ backslash ∷ c ∷ []) after h k)))

-- before a character that a blank stands alone before, a walk is as after a whole token
walk_alone : (seen after : List ℕ) → is_before_break after ≡ true → walk AfterBlank seen after ≡ walk Outside seen after
walk_alone seen [] h = cc
walk_alone seen (c ∷ after) h =
    let alone : leads AfterBlank c ≡ leads_outside c = grind (arith, nat_tests) in rw alone refl

-- a walk passes a token as a whole, before any text that a blank stands alone before where it did
walk_token : (t : Token) (seen after other : List ℕ) → IsToken t after →
    (is_before_break after ≡ true → is_before_break other ≡ true) →
    walk Outside seen (token_text t ++ other) ≡ walk Outside (seen ++ token_text t) other
walk_token (one_character c) seen after other is alone =
    let stays : leads_outside c ≡ Some Outside = grind (arith, nat_tests) in rw stays refl
walk_token (backslash_pair c) seen after other is alone = elim (escaping_leads c) [
  | inl h ↦ let e : true ≡ false = rw h.0 at (sym is) in cc
  | inr h ↦ rw h.1 (rw append_assoc refl)
]
walk_token (quoted q inner) seen after other is alone =
    let opens : leads_outside q ≡ Some (Inside q) = grind (arith, nat_tests) in
    rw opens (rw (append_assoc seen (q ∷ [])) at (walk_inner q inner (seen ++ q ∷ []) other is.0 is.1))
walk_token (blank_pair b c) seen after other is alone = elim (blank_leads c) [
  | inl h ↦ let e : true ≡ false = rw h.0 at (sym is.1) in cc
  | inr (inl h) ↦ let k = is.1 in let l = h.0 in absurd (grind (arith, nat_tests))
  | inr (inr h) ↦ rw (blank_goes b is.0, h.1) (rw append_assoc refl)
]
walk_token (blank b) seen after other is alone = rw (blank_goes b is.0) (walk_alone (seen ++ b ∷ []) other (alone is.1))

-- a walk passes a row of tokens, before any text that a blank stands alone before where it did
walk_tokens : (tokens : List Token) (seen after other : List ℕ) → AreTokens tokens after →
    (is_before_break after ≡ true → is_before_break other ≡ true) →
    walk Outside seen (tokens_text tokens ++ other) ≡ walk Outside (seen ++ tokens_text tokens) other
walk_tokens [] seen after other are alone = rw append-nil refl
walk_tokens (t ∷ tokens) seen after other are alone =
    rw append_assoc (walk_token t seen (tokens_text tokens ++ after) (tokens_text tokens ++ other) are.0
    (before (tokens_text tokens))
    ∙ (rw append_assoc at (walk_tokens tokens (seen ++ token_text t) after other are.1 alone)))
  where
    before : (xs : List ℕ) → is_before_break (xs ++ after) ≡ true → is_before_break (xs ++ other) ≡ true
    before [] h = alone h
    before (c ∷ xs) h = h

-- no logical line ends in a row of tokens
pub tokens_going : (tokens : List Token) (after : List ℕ) → AreTokens tokens after →
    (n : LineMode) × IsGoing (tokens_text tokens) n
tokens_going tokens after are =
    at (walk Outside [] (tokens_text tokens)) refl
    (sym (walk-append Outside [] (tokens_text tokens) (backslash ∷ []))
    ∙ walk_tokens tokens [] after (backslash ∷ []) are (λ h. refl))
  where
    at : (w : Walk) → walk Outside [] (tokens_text tokens) ≡ w →
        onward w (λ n. walk n (tokens_text tokens) (backslash ∷ [])) ≡ going Escaping →
        (n : LineMode) × IsGoing (tokens_text tokens) n
    at (going n) h e = (n, h)
    at (ended kept) h e = cc

-- a walk over a whole logical line ends with the text that is kept, or it goes on to the end of the input
pub whole_walks : {text kept : List ℕ} {last : Type 0} → IsWhole text kept last →
    (walk Outside [] text ≡ ended kept) ⊎ (IsGoing text Outside × (kept ≡ text) × last)
whole_walks {last = last} w =
    rw (w.spelled, w.cut) (at w.ending (tokens_text w.tokens) w.is_ending
    (walk_tokens w.tokens [] (ending_text w.ending) (ending_text w.ending) w.are_tokens (λ h. h)))
  where
    at : (ending : Ending) (ts : List ℕ) → IsEnding ending last →
        walk Outside [] (ts ++ ending_text ending) ≡ walk Outside ts (ending_text ending) →
        (walk Outside [] (ts ++ ending_text ending) ≡ ended (kept_text ts ending))
        ⊎ (IsGoing (ts ++ ending_text ending) Outside × (kept_text ts ending ≡ ts ++ ending_text ending) × last)
    at line_end ts is e = inl e
    at escaped_line_end ts is e = inl (e ∙ ap ended (not_returned ts backslash refl))
    at (comment b words) ts is e = inl (e ∙ rw (blank_goes b is.0) refl)
    at input_end ts is e = inr (e, sym (append-nil ts), is)
