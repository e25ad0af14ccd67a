-- White space in a line around the name, and after the value up to a comment.
use Rattle.std.proofs.Common.{◌≡◌, ◌∙◌, ℕ, true, false, ◌||◌, List, [], ◌∷◌, ◌++◌, IsTrue, inl, inr}
use Rattle.std.proofs.Common.{ap, arith, lit<, refl, sym}
use Rattle.std.specs.Prelude.{◌==◌, None}
use Rattle.std.specs.Str.{chars, IsUtf8}
use Rattle.std.specs.Str.Pattern.{FindsChar, SplitsAroundMatch}
use Rattle.std.proofs.lemmas.Bool.{and_parts, cases_Bool}
use Rattle.std.proofs.lemmas.Bool.Decides.{nat_tests}
use Rattle.std.specs.List.{list_all, list_any}
use Rattle.dotenvy_format.specs.Characters.{carriage_return, continues_key, equals_sign, hash, line_feed}
use Rattle.dotenvy_format.specs.Keys.{is_key}
use Rattle.dotenvy_format.proofs.KeyCharacters.{key_continues}
use Rattle.dotenvy_format.proofs.bytes.Slices.{characters_fail, cut_once}
use Rattle.dotenvy_editor.specs.Edits.{new_spot}
use Rattle.dotenvy_editor.specs.Ends.{IsEnd, ends_in}
use Rattle.dotenvy_editor.specs.Forms.{comment_of}
use Rattle.dotenvy_editor.specs.Portable.{before_comment, has_white_space, is_other_white, portable_forms, spot_forms}
use Rattle.dotenvy_editor.specs.Portable.{without_end}
use Rattle.dotenvy_editor.proofs.TextTests.{first_differs, is_none_of, others_differ}

-- what comes before a carriage return and a line feed
pub end_return : (xs : List ℕ) → without_end (xs ++ carriage_return ∷ line_feed ∷ []) ≡ xs
end_return [] = refl
end_return (x ∷ []) = refl
end_return (x ∷ y ∷ []) = ap (λ cs. x ∷ cs) (end_return (y ∷ []))
end_return (x ∷ y ∷ z ∷ xs) = ap (λ cs. x ∷ cs) (end_return (y ∷ z ∷ xs))

-- what comes before a line feed, after no carriage return
pub end_feed : (xs : List ℕ) → ends_in carriage_return xs ≡ false → without_end (xs ++ line_feed ∷ []) ≡ xs
end_feed [] h = refl
end_feed (x ∷ []) h = rw h refl
end_feed (x ∷ y ∷ []) h = ap (λ cs. x ∷ cs) (end_feed (y ∷ []) h)
end_feed (x ∷ y ∷ z ∷ xs) h = ap (λ cs. x ∷ cs) (end_feed (y ∷ z ∷ xs) h)

-- a text that doesn't end with a line feed stays
pub end_none : (cs : List ℕ) → ends_in line_feed cs ≡ false → without_end cs ≡ cs
end_none [] h = refl
end_none (c ∷ []) h = rw h refl
end_none (c ∷ d ∷ []) h =
    elim (cases_Bool (c == carriage_return)) [
      | inl is ↦ rw (is, h) refl
      | inr other ↦ rw (other, h) refl
    ]
end_none (c ∷ d ∷ e ∷ cs) h = ap (λ ds. c ∷ ds) (end_none (d ∷ e ∷ cs) h)

-- the text before the first `#`, or all of a text that has none
before_hash : (xs ys : List ℕ) → is_none_of hash xs ≡ true → before_comment (xs ++ hash ∷ ys) ≡ xs
before_hash [] ys h = refl
before_hash (x ∷ xs) ys h =
    rw (first_differs hash x xs h) (ap (λ cs. x ∷ cs) (before_hash xs ys (others_differ hash x xs h)))

before_all : (cs : List ℕ) → is_none_of hash cs ≡ true → before_comment cs ≡ cs
before_all [] h = refl
before_all (c ∷ cs) h =
    rw (first_differs hash c cs h) (ap (λ ds. c ∷ ds) (before_all cs (others_differ hash c cs h)))

-- this is what `split_once` finds
pub before_found : (text front rest : List ℕ) → IsUtf8 text → SplitsAroundMatch (FindsChar hash) text front rest →
    chars front ≡ before_comment (chars text)
before_found text front rest u split =
    let cut =
    cut_once hash text front rest split.0 split.1 u (lit< tt) split.2.0 split.2.1 split.3 split.4 in
    sym (ap before_comment cut.spelled ∙ before_hash (chars front) (chars rest) cut.none_before)

pub before_none : (text : List ℕ) → IsUtf8 text → FindsChar hash text None →
    chars text ≡ before_comment (chars text)
before_none text u none = sym (before_all (chars text) (characters_fail (λ d. d == hash) text u none))

-- a key has no white space, nor has `=` after it
key_character : (c : ℕ) → continues_key c ≡ true → is_other_white c ≡ false
key_character c h = grind (arith, nat_tests, h)

key_spaced : (key : List ℕ) → list_all continues_key key ≡ true →
    list_any is_other_white (key ++ equals_sign ∷ []) ≡ false
key_spaced [] h = refl
key_spaced (c ∷ key) h =
    let parts = and_parts (continues_key c) (list_all continues_key key) h in
    rw (key_character c parts.0, key_spaced key parts.1) refl

-- nor has what follows the value of a line that is appended
end_spaced : (end : List ℕ) → IsEnd end →
    (list_any is_other_white (before_comment (without_end end)) || ends_in carriage_return end) ≡ false
end_spaced end (inl is) = rw is refl
end_spaced end (inr is) = rw is refl

-- a line that is appended has no white space but its end
pub new_spaced : (key end : List ℕ) → IsTrue (is_key key) → IsEnd end → has_white_space (new_spot key end) ≡ false
new_spaced key end h is = rw (key_spaced key (key_continues key h), end_spaced end is) refl

-- no comment is in an end
comment_none : (end : List ℕ) → IsEnd end → comment_of end ≡ []
comment_none end (inl is) = rw is refl
comment_none end (inr is) = rw is refl

-- the forms that are tried in it
pub new_forms : (value key end : List ℕ) → IsTrue (is_key key) → IsEnd end →
    spot_forms value (new_spot key end) ≡ portable_forms value []
new_forms value key end h is = rw (new_spaced key end h is, comment_none end is) refl
