-- The first of several lines that reads back.
use Rattle.std.proofs.Common.{◌≡◌, ◌≢◌, ℕ, Bool, true, false, ◌||◌, List, [], ◌∷◌, ◌++◌, inl, inr}
use Rattle.std.proofs.Common.{refl, sym, subst, append_assoc, ◌<◌, ◌+◌, drop}
use Rattle.std.specs.Prelude.{get_or}
use Rattle.std.specs.Prelude.{Option, Some, None}
use Rattle.std.specs.List.{flat_map}
use Rattle.std.specs.Str.{chars, encode_utf8_all, IsUtf8}
use Rattle.std.proofs.lemmas.List.{append-nil, drop_more}
use Rattle.std.proofs.lemmas.List.Concat.{flat_map-append}
use Rattle.std.proofs.lemmas.Str.{encodes-append, encodes-chars}
use Rattle.dotenvy_format.specs.Characters.{space}
use Rattle.dotenvy_editor.specs.declared.forms.Form.{Form}
use Rattle.dotenvy_editor.specs.declared.forms.Form.TheVariants.{Plain, Single, Double, OneLine}
use Rattle.dotenvy_editor.specs.Assignments.{Spot}
use Rattle.dotenvy_editor.specs.Forms.{candidates, comment_of, end_of, form_lines, form_text, is_long, is_nil}
use Rattle.dotenvy_editor.specs.Forms.{where_true}
use Rattle.dotenvy_editor.specs.Lines.{IsFirst, NoneIs}
use Rattle.dotenvy_editor.specs.inside.Tried.{FindsFirst, forms_for, may_have}

-- the first of some texts is the first of these and others
first_here : (P : List ℕ → Type 0) (xs ys : List (List ℕ)) (text : List ℕ) → IsFirst P xs text →
    IsFirst P (xs ++ ys) text
first_here P [] ys text h = absurd h
first_here P (x ∷ xs) ys text (inl h) = inl h
first_here P (x ∷ xs) ys text (inr h) = inr (h.0, first_here P xs ys text h.1)

first_later : (P : List ℕ → Type 0) (xs ys : List (List ℕ)) (text : List ℕ) → NoneIs P xs → IsFirst P ys text →
    IsFirst P (xs ++ ys) text
first_later P [] ys text none h = h
first_later P (x ∷ xs) ys text none h = inr (none.0, first_later P xs ys text none.1 h)

none_later : (P : List ℕ → Type 0) (xs ys : List (List ℕ)) → NoneIs P xs → NoneIs P ys → NoneIs P (xs ++ ys)
none_later P [] ys none h = h
none_later P (x ∷ xs) ys none h = (none.0, none_later P xs ys none.1 h)

-- what is found among some texts is found among these and others
pub finds_here : (P : List ℕ → Type 0) (xs ys : List (List ℕ)) (line : List ℕ) → FindsFirst P xs (Some line) →
    FindsFirst P (xs ++ ys) (Some line)
finds_here P xs ys line (text, is, first) = (text, is, first_here P xs ys text first)

-- where nothing is found among the first texts, what is found among the others counts
pub finds_later : (P : List ℕ → Type 0) (xs ys : List (List ℕ)) (found : Option (List ℕ)) →
    FindsFirst P xs None → FindsFirst P ys found → FindsFirst P (xs ++ ys) found
finds_later P xs ys None none h = none_later P xs ys none h
finds_later P xs ys (Some line) none (text, is, first) = (text, is, first_later P xs ys text none first)

-- the forms in the order in which they are tried
abbrev pub four_forms : List Form
four_forms = Plain ∷ Single ∷ Double ∷ OneLine ∷ []

-- those of these forms that the value may have before the comment
abbrev pub forms_among : Bool → List ℕ → List ℕ → List Form → List (List ℕ)
forms_among is_portable value comment forms =
    flat_map (λ form. where_true (may_have is_portable value comment form) (form_text form value)) forms

-- all forms are tried in order
pub all_forms : (is_portable : Bool) (value comment : List ℕ) →
    forms_among is_portable value comment four_forms
    ≡ forms_for is_portable value comment
all_forms true value comment = simp append-nil
all_forms false value comment = refl

-- the parts of a line are its bytes
pub spot_bytes : (front old rest : List ℕ) → IsUtf8 front → IsUtf8 old → IsUtf8 rest →
    encode_utf8_all (chars front ++ (chars old ++ chars rest)) ≡ front ++ (old ++ rest)
spot_bytes front old rest f o r =
    rw (
      encodes-append (chars front) (chars old ++ chars rest),
      encodes-append (chars old) (chars rest),
      encodes-chars front f,
      encodes-chars old o,
      encodes-chars rest r,
    ) refl

-- one line that is tried is found if it reads back
pub one_found : (P : List ℕ → Type 0) (text line : List ℕ) → line ≡ encode_utf8_all text → P text →
    FindsFirst P (text ∷ []) (Some line)
one_found P text line is h = (text, is, inl (h, refl))

-- the lines that are tried with a form, where there is no comment, where it goes on over several lines, and else
lines_bare : (spot : Spot) (form : List ℕ) → is_nil (comment_of spot.rest) ≡ true →
    form_lines spot form
    ≡ (spot.front ++ (form ++ spot.rest)) ∷ (spot.front ++ (form ++ end_of spot.rest)) ∷ []
lines_bare spot form bare = rw bare refl

lines_long : (spot : Spot) (form : List ℕ) → is_nil (comment_of spot.rest) ≡ false → is_long spot.rest ≡ true →
    form_lines spot form ≡ (spot.front ++ (form ++ spot.rest)) ∷ []
lines_long spot form some long = rw (some, long) refl

lines_blank : (spot : Spot) (form : List ℕ) → is_nil (comment_of spot.rest) ≡ false → is_long spot.rest ≡ false →
    form_lines spot form
    ≡ (spot.front ++ (form ++ spot.rest)) ∷ (spot.front ++ (form ++ space ∷ comment_of spot.rest)) ∷ []
lines_blank spot form some short = rw (some, short) refl

-- the line with what comes after the old value is tried first
module _ (P : List ℕ → Type 0) (spot : Spot) (form : List ℕ) where
  -- it is found
  pub tail_first : (line : List ℕ) → FindsFirst P ((spot.front ++ (form ++ spot.rest)) ∷ []) (Some line) →
      FindsFirst P (form_lines spot form) (Some line)
  tail_first line (text, is, inl h) = (text, is, inl h)
  tail_first line (text, is, inr h) = absurd h.1

  -- or else, where there is no comment, the end alone comes after the value
  pub tail_bare : (found : Option (List ℕ)) → is_nil (comment_of spot.rest) ≡ true →
      FindsFirst P ((spot.front ++ (form ++ spot.rest)) ∷ []) None →
      FindsFirst P ((spot.front ++ (form ++ end_of spot.rest)) ∷ []) found → FindsFirst P (form_lines spot form) found
  tail_bare found bare none h =
      subst (λ lines. FindsFirst P lines found) (sym (lines_bare spot form bare))
      (finds_later P ((spot.front ++ (form ++ spot.rest)) ∷ []) ((spot.front ++ (form ++ end_of spot.rest)) ∷ []) found
      none h)

  -- nothing else, where the comment is long
  pub tail_long : is_nil (comment_of spot.rest) ≡ false → is_long spot.rest ≡ true →
      FindsFirst P ((spot.front ++ (form ++ spot.rest)) ∷ []) None → FindsFirst P (form_lines spot form) None
  tail_long some long none =
      subst (λ lines. FindsFirst P lines None) (sym (lines_long spot form some long)) none

  -- or one blank, and the comment
  pub tail_blank : (found : Option (List ℕ)) → is_nil (comment_of spot.rest) ≡ false → is_long spot.rest ≡ false →
      FindsFirst P ((spot.front ++ (form ++ spot.rest)) ∷ []) None →
      FindsFirst P ((spot.front ++ ((form ++ space ∷ []) ++ comment_of spot.rest)) ∷ []) found →
      FindsFirst P (form_lines spot form) found
  tail_blank found some short none h =
      subst (λ lines. FindsFirst P lines found) (sym (lines_blank spot form some short))
      (finds_later P ((spot.front ++ (form ++ spot.rest)) ∷ [])
      ((spot.front ++ (form ++ space ∷ comment_of spot.rest)) ∷ []) found none
      (rw (append_assoc form (space ∷ []) (comment_of spot.rest)) at h))

-- the lines with a form that the value may have
pub form_fits : (P : List ℕ → Type 0) (spot : Spot) (may : Bool) (form : List ℕ) (found : Option (List ℕ)) →
    may ≡ true → FindsFirst P (form_lines spot form) found →
    FindsFirst P (candidates spot (where_true may form)) found
form_fits P spot may form found is h =
    rw is (subst (λ lines. FindsFirst P lines found) (sym (append-nil (form_lines spot form))) h)

-- a form that it can't have isn't tried
pub form_unfit : (P : List ℕ → Type 0) (spot : Spot) (may : Bool) (form : List ℕ) → may ≡ false →
    FindsFirst P (candidates spot (where_true may form)) None
form_unfit P spot may form is = rw is tt

-- the lines with some forms are tried before those with others
pub form_found : (P : List ℕ → Type 0) (spot : Spot) (some others : List (List ℕ)) (line : List ℕ) →
    FindsFirst P (candidates spot some) (Some line) → FindsFirst P (candidates spot (some ++ others)) (Some line)
form_found P spot some others line h =
    rw (flat_map-append (form_lines spot) some others)
    (finds_here P (candidates spot some) (candidates spot others) line h)

pub form_failed : (P : List ℕ → Type 0) (spot : Spot) (some others : List (List ℕ)) (found : Option (List ℕ)) →
    FindsFirst P (candidates spot some) None → FindsFirst P (candidates spot others) found →
    FindsFirst P (candidates spot (some ++ others)) found
form_failed P spot some others found none h =
    rw (flat_map-append (form_lines spot) some others) (finds_later P (candidates spot some) (candidates spot others)
    found none h)

-- the lines with the old quotes come before those with other forms
pub kept_first : (P : List ℕ → Type 0) (spot : Spot) (first : List ℕ) (quoted plain : List (List ℕ)) (line : List ℕ) →
    FindsFirst P (first ∷ candidates spot quoted) (Some line) →
    FindsFirst P (first ∷ candidates spot (quoted ++ plain)) (Some line)
kept_first P spot first quoted plain line h =
    rw (flat_map-append (form_lines spot) quoted plain) (finds_here P (first ∷ candidates spot quoted)
    (candidates spot plain) line h)

pub kept_failed : (P : List ℕ → Type 0) (spot : Spot) (first : List ℕ) (quoted plain : List (List ℕ))
    (found : Option (List ℕ)) → FindsFirst P (first ∷ candidates spot quoted) None →
    FindsFirst P (candidates spot plain) found → FindsFirst P (first ∷ candidates spot (quoted ++ plain)) found
kept_failed P spot first quoted plain found none h =
    rw (flat_map-append (form_lines spot) quoted plain) (finds_later P (first ∷ candidates spot quoted)
    (candidates spot plain) found none h)

-- where the value can have no form that is read alike, there is none
pub no_forms : (a b c : Bool) (x y z : List ℕ) → (a || (b || c)) ≡ false →
    where_true a x ++ (where_true b y ++ where_true c z) ≡ []
no_forms false false false x y z h = refl
no_forms false false true x y z h = let e : true ≡ false = h in absurd (cc)
no_forms false true c x y z h = let e : true ≡ false = h in absurd (cc)
no_forms true b c x y z h = let e : true ≡ false = h in absurd (cc)

-- where it can have one, there is one
pub some_forms : (a b c : Bool) (x y z : List ℕ) → (a || (b || c)) ≡ true →
    where_true a x ++ (where_true b y ++ where_true c z) ≢ []
some_forms true b c x y z h e = cc
some_forms false true c x y z h e = cc
some_forms false false true x y z h e = cc
some_forms false false false x y z h e = let f : false ≡ true = h in absurd (cc)

-- the forms from a place on begin with the form there
pub forms_from : (P : List ℕ → Type 0) (spot : Spot) (is_portable : Bool) (value comment : List ℕ) (index : ℕ)
    (other : Form) (found : Option (List ℕ)) → index < 4 →
    FindsFirst P (candidates spot (forms_among is_portable value comment (get_or four_forms index other
    ∷ drop (index + 1) four_forms))) found →
    FindsFirst P (candidates spot (forms_among is_portable value comment (drop index four_forms))) found
forms_from P spot is_portable value comment index other found within h =
    rw (drop_more four_forms index other within) h
