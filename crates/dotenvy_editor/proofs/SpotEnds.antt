-- The comment and the end of a line, after its value.
use Rattle.std.proofs.Common.{◌≡◌, ◌∙◌, ℕ, Bool, true, false, List, [], ◌∷◌, ◌++◌, inl, inr, refl, sym, ap}
use Rattle.std.proofs.Common.{lit<, take, drop}
use Rattle.std.specs.Prelude.{◌==◌, None, if◌then◌else◌}
use Rattle.std.specs.Str.{chars, IsUtf8}
use Rattle.std.specs.Str.Pattern.{FindsChar, MatchBeginsAt}
use Rattle.std.proofs.lemmas.Bool.{cases_Bool, eqb-true}
use Rattle.std.proofs.lemmas.Str.{chars_past_char, IsUtf8-drop}
use Rattle.dotenvy_format.specs.Characters.{carriage_return, hash, line_feed}
use Rattle.dotenvy_format.proofs.bytes.Slices.{characters_fail, cut_once}
use Rattle.dotenvy_editor.specs.Ends.{ends_in}
use Rattle.dotenvy_editor.specs.Forms.{comment_of, end_of, has, is_long}
use Rattle.dotenvy_editor.proofs.TextTests.{first_differs, is_none_of, others_differ}

-- the comment begins at the first `#`
comment_at : (xs ys : List ℕ) → is_none_of hash xs ≡ true → comment_of (xs ++ hash ∷ ys) ≡ hash ∷ ys
comment_at [] ys h = refl
comment_at (x ∷ xs) ys h = rw (first_differs hash x xs h) (comment_at xs ys (others_differ hash x xs h))

comment_nil : (cs : List ℕ) → is_none_of hash cs ≡ true → comment_of cs ≡ []
comment_nil [] h = refl
comment_nil (c ∷ cs) h = rw (first_differs hash c cs h) (comment_nil cs (others_differ hash c cs h))

-- where `find` finds it
pub comment_found : (text : List ℕ) (i : ℕ) → IsUtf8 text → MatchBeginsAt (FindsChar hash) text i →
    chars (drop i text) ≡ comment_of (chars text)
comment_found text i u found =
    let cut =
    cut_once hash text (take i text) (drop found.0 text) i found.0 u (lit< tt) found.1.0 found.1.1 refl refl in
    chars_past_char (drop i text) (drop found.0 text) hash (IsUtf8-drop text i u found.3) found.1.1.split
    ∙ sym (ap comment_of cut.spelled ∙ comment_at (chars (take i text)) (chars (drop found.0 text)) cut.none_before)

pub comment_none : (text : List ℕ) → IsUtf8 text → FindsChar hash text None → comment_of (chars text) ≡ []
comment_none text u none = comment_nil (chars text) (characters_fail (λ d. d == hash) text u none)

-- the texts of line ends
pub return_feed_text : chars (13 ∷ 10 ∷ []) ≡ carriage_return ∷ line_feed ∷ []
unfolding chars
return_feed_text = refl

pub feed_text : chars (10 ∷ []) ≡ line_feed ∷ []
unfolding chars
feed_text = refl

pub return_text : chars (13 ∷ []) ≡ carriage_return ∷ []
unfolding chars
return_text = refl

-- a line end with a line feed, and one without, with a carriage return or not
abbrev pub end_picked : Bool → List ℕ
end_picked b = if b then carriage_return ∷ line_feed ∷ [] else line_feed ∷ []

abbrev pub end_picked_other : Bool → List ℕ
end_picked_other b = if b then carriage_return ∷ [] else []

-- the end of a line after a line feed
pub end_at_feed : (xs : List ℕ) → end_of (xs ++ line_feed ∷ []) ≡ end_picked (ends_in carriage_return xs)
end_at_feed [] = refl
end_at_feed (x ∷ []) =
    elim (cases_Bool (x == carriage_return)) [
      | inl is ↦ rw (is, eqb-true x carriage_return is) refl
      | inr other ↦ rw other refl
    ]
end_at_feed (x ∷ y ∷ []) = end_at_feed (y ∷ [])
end_at_feed (x ∷ y ∷ z ∷ xs) = end_at_feed (y ∷ z ∷ xs)

-- one carriage return, or nothing
one_return : (c : ℕ) → (if c == carriage_return then c ∷ [] else []) ≡ end_picked_other (c == carriage_return)
one_return c =
    elim (cases_Bool (c == carriage_return)) [
      | inl is ↦ rw (is, eqb-true c carriage_return is) refl
      | inr other ↦ rw other refl
    ]

-- the end of a line after no line feed
pub end_at_other : (cs : List ℕ) → ends_in line_feed cs ≡ false →
    end_of cs ≡ end_picked_other (ends_in carriage_return cs)
end_at_other [] h = refl
end_at_other (c ∷ []) h =
    elim (cases_Bool (c == carriage_return)) [
      | inl is ↦ rw (h, is, eqb-true c carriage_return is) refl
      | inr other ↦ rw (h, other) refl
    ]
end_at_other (c ∷ d ∷ []) h =
    elim (cases_Bool (c == carriage_return)) [
      | inl is ↦ rw (is, h) (one_return d)
      | inr other ↦ rw other (end_at_other (d ∷ []) h)
    ]
end_at_other (c ∷ d ∷ e ∷ cs) h = end_at_other (d ∷ e ∷ cs) h

-- a line feed before the end of the line
pub long_at_feed : (xs : List ℕ) → is_long (xs ++ line_feed ∷ []) ≡ has line_feed xs
long_at_feed [] = refl
long_at_feed (x ∷ []) = refl
long_at_feed (x ∷ y ∷ xs) = rw (long_at_feed (y ∷ xs)) refl

pub long_at_other : (cs : List ℕ) → ends_in line_feed cs ≡ false → is_long cs ≡ has line_feed cs
long_at_other [] h = refl
long_at_other (c ∷ []) h = rw h refl
long_at_other (c ∷ d ∷ cs) h = rw (long_at_other (d ∷ cs) h) refl
