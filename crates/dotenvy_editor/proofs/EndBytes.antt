-- The end of a line and its comment, in bytes and in characters.
use Rattle.std.proofs.Common.{◌≡◌, ◌≢◌, ◌⊎◌, ℕ, ◌≤◌, Bool, true, false, not, List, [], ◌∷◌, ◌++◌, length, refl}
use Rattle.std.proofs.Common.{sym, ap, ◌∙◌, arith, inl, inr, append_assoc, append-nil}
use Rattle.std.proofs.Common.{Option, Some, None, suc, ◌+◌, unwrap_or, drop, take, length-append}
use Rattle.std.specs.Prelude.{◌==◌, ◌||◌, nat_lt, is_some, MatchOption}
use Rattle.std.specs.List.{list_all, list_any, position_or_len}
use Rattle.std.specs.Str.{encode_utf8_all}
use Rattle.std.proofs.lemmas.Bool.{and_parts, cases_Bool, false_from_ne_true}
use Rattle.std.proofs.lemmas.Bool.Decides.{nat_tests}
use Rattle.std.proofs.lemmas.Grind.{common_steps}
use Rattle.std.proofs.lemmas.List.{drop_all}
use Rattle.std.proofs.Math.Seq.{drop-append_seam, drop-length, take-append_seam, take-length}
use Rattle.std.proofs.lemmas.List.Sums.{position_or_len_is}
use Rattle.std.proofs.lemmas.Str.{length-le-encodes}
use Rattle.std.proofs.Math.Utf8.{encode}
use Rattle.memchr.specs.Find.{IsFirstByte, is_byte}
use Rattle.dotenvy.specs.Characters.{carriage_return, hash, line_feed}
use Rattle.dotenvy_format.proofs.lines.Cuts.{encode_some}
use Rattle.dotenvy_editor.specs.Forms.{comment_of, end_of, has, is_long}

-- bytes that end no line and begin no comment
abbrev is_inner : ℕ → Bool
is_inner b = not ((b == line_feed || b == carriage_return) || b == hash)

-- a character is its byte, or its bytes end no line and begin no comment
character_bytes : (c : ℕ) → (encode c ≡ c ∷ []) ⊎ ((is_inner c ≡ true) × (list_all is_inner (encode c) ≡ true))
unfolding encode
character_bytes c = grind (arith, nat_tests)

-- The comment.
-- bytes that begin no comment are left out before one
comment-inner : (xs ys : List ℕ) → list_all is_inner xs ≡ true → comment_of (xs ++ ys) ≡ comment_of ys
comment-inner [] ys h = refl
comment-inner (x ∷ xs) ys h = grind (arith, nat_tests, comment-inner xs ys)

-- the comment of a text's bytes has the bytes of its comment
pub comment-encodes : (cs : List ℕ) → comment_of (encode_utf8_all cs) ≡ encode_utf8_all (comment_of cs)
comment-encodes [] = refl
comment-encodes (c ∷ cs) =
    elim (character_bytes c) [
      | inl one ↦ let later = comment-encodes cs in rw one (grind (arith, nat_tests, one, later))
      | inr (inner, all) ↦
          let none : (c == hash) ≡ false = grind (arith, nat_tests) in
          rw none (comment-inner (encode c) (encode_utf8_all cs) all ∙ comment-encodes cs)
    ]

-- where the first byte of a kind was found
first_place : (test : ℕ → Bool) (bytes : List ℕ) (found : Option ℕ) → IsFirstByte test bytes found →
    position_or_len test bytes ≡ unwrap_or found (length bytes)
first_place test bytes None none =
    position_or_len_is test bytes (length bytes) 0 (omega arith)
    (λ k below. false_from_ne_true _ (none k (omega arith) below)) (λ h. absurd (omega arith))
first_place test bytes (Some n) (first, here) =
    position_or_len_is test bytes n 0 (omega arith)
    (λ k below. false_from_ne_true _ (first.before k (omega arith) below)) (λ h. here)

-- one byte more is dropped
drop_one : (n b : ℕ) (bytes : List ℕ) → drop (1 + n) (b ∷ bytes) ≡ drop n bytes
drop_one n b bytes = let e : 1 + n ≡ suc n = omega arith in rw e refl

-- the comment begins at the first `#`
comment_place : (bytes : List ℕ) → comment_of bytes ≡ drop (position_or_len (is_byte 35) bytes) bytes
comment_place [] = refl
comment_place (b ∷ bytes) =
    elim (cases_Bool (b == hash)) [
      | inl h ↦ rw h refl
      | inr h ↦ rw (h, comment_place bytes) (sym (drop_one (position_or_len (is_byte 35) bytes) b bytes))
    ]

-- the comment begins where the first `#` was found
pub comment_found : (bytes : List ℕ) (found : Option ℕ) → IsFirstByte (is_byte 35) bytes found →
    MatchOption found (comment_of bytes ≡ []) (λ n. (n ≤ length bytes) × (comment_of bytes ≡ drop n bytes))
comment_found bytes None is =
    rw (comment_place bytes, first_place (is_byte 35) bytes None is) (drop_all (length bytes) bytes (omega arith))
comment_found bytes (Some n) is =
    (omega (arith, is.0.high), rw (comment_place bytes, first_place (is_byte 35) bytes (Some n) is) refl)

-- there is a byte of a kind where its first place is within the bytes
any_place : (test : ℕ → Bool) (bytes : List ℕ) →
    list_any test bytes ≡ nat_lt (position_or_len test bytes) (length bytes)
any_place test [] = refl
any_place test (b ∷ bytes) = grind (arith, common_steps, nat_tests, any_place test bytes)

-- a byte is there just where it was found
pub byte_found : (c : ℕ) (bytes : List ℕ) (found : Option ℕ) → IsFirstByte (is_byte c) bytes found →
    is_some found ≡ has c bytes
byte_found c bytes None is =
    let place = first_place (is_byte c) bytes None is in
    let any = any_place (is_byte c) bytes in grind (arith, nat_tests, place, any)
byte_found c bytes (Some n) is =
    let place = first_place (is_byte c) bytes (Some n) is in
    let any = any_place (is_byte c) bytes in
    let below = is.0.high in grind (arith, nat_tests, place, any, below)

-- Line feeds before the end.
-- a line feed before others is one before the end
long-append : (xs : List ℕ) (y : ℕ) (ys : List ℕ) → is_long (xs ++ y ∷ ys) ≡ (has 10 xs || is_long (y ∷ ys))
long-append [] y ys = refl
long-append (x ∷ []) y ys = grind (arith, nat_tests)
long-append (x ∷ z ∷ xs) y ys = let later = long-append (z ∷ xs) y ys in grind (arith, nat_tests, later)

-- bytes that end no line have no line feed
inner_has : (xs : List ℕ) → list_all is_inner xs ≡ true → has 10 xs ≡ false
inner_has [] h = refl
inner_has (x ∷ xs) h = grind (arith, nat_tests, inner_has xs)

-- bytes without a line feed have none before the end
none_long : (xs : List ℕ) → has 10 xs ≡ false → is_long xs ≡ false
none_long [] h = refl
none_long (x ∷ []) h = refl
none_long (x ∷ y ∷ xs) h = let later = none_long (y ∷ xs) in grind (arith, nat_tests, later)

-- a character has the byte of a line feed just where it is one
feed_in : (c : ℕ) → has 10 (encode c) ≡ (c == 10)
feed_in c =
    elim (character_bytes c) [
      | inl one ↦ rw one (grind (arith, nat_tests))
      | inr (inner, all) ↦ let none = inner_has (encode c) all in grind (arith, nat_tests, none)
    ]

-- a character before others is a line feed, or there is one among these
long_then : (c : ℕ) (bytes : List ℕ) → bytes ≢ [] → is_long (encode c ++ bytes) ≡ ((c == 10) || is_long bytes)
long_then c [] some = absurd (some refl)
long_then c (y ∷ ys) some = long-append (encode c) y ys ∙ rw (feed_in c) refl

-- a text's bytes have a line feed before their end just where the text has
pub long-encodes : (cs : List ℕ) → is_long (encode_utf8_all cs) ≡ is_long cs
long-encodes [] = refl
long-encodes (c ∷ []) =
    elim (character_bytes c) [
      | inl one ↦ rw one refl
      | inr (inner, all) ↦ rw append-nil (none_long (encode c) (inner_has (encode c) all))
    ]
long-encodes (c ∷ d ∷ cs) =
    long_then c (encode_utf8_all (d ∷ cs)) (λ e.
    (let n = ap length e in let k = length-le-encodes (d ∷ cs) in omega (arith, n, k)))
    ∙ ap (λ b. (c == 10) || b) (long-encodes (d ∷ cs))

-- where the bytes don't end with a line feed, each one is before the end
pub no_end_long : (bytes : List ℕ) → ((front : List ℕ) → bytes ≢ front ++ 10 ∷ []) → is_long bytes ≡ has 10 bytes
no_end_long [] h = refl
no_end_long (c ∷ []) h = let k : c ≢ 10 = λ e. h [] (rw e refl) in grind (arith, nat_tests)
no_end_long (c ∷ d ∷ bytes) h =
    let later = no_end_long (d ∷ bytes) (λ front e. h (c ∷ front) (ap (λ cs. c ∷ cs) e)) in
    grind (arith, nat_tests, later)

-- a line feed before one that ends the bytes, or before the return and it
pub feed_long : (body : List ℕ) → is_long (body ++ 10 ∷ []) ≡ has 10 body
feed_long body = long-append body 10 [] ∙ grind arith

pub return_long : (body : List ℕ) → is_long (body ++ 13 ∷ []) ≡ has 10 body
return_long body = long-append body 13 [] ∙ grind arith

pub return_feed_long : (body : List ℕ) → is_long (body ++ 13 ∷ 10 ∷ []) ≡ has 10 body
return_feed_long body = long-append body 13 (10 ∷ []) ∙ grind arith

-- The end.
-- before two characters one more doesn't matter to the end
end-cons : (c : ℕ) (cs : List ℕ) → 2 ≤ length cs → end_of (c ∷ cs) ≡ end_of cs
end-cons c [] h = absurd (omega arith)
end-cons c (d ∷ []) h = absurd (omega arith)
end-cons c (d ∷ e ∷ cs) h = refl

-- before two characters others don't matter to the end
end-append : (xs ys : List ℕ) → 2 ≤ length ys → end_of (xs ++ ys) ≡ end_of ys
end-append [] ys h = refl
end-append (x ∷ xs) ys h =
    end-cons x (xs ++ ys) (omega (arith, length-append xs ys)) ∙ end-append xs ys h

-- a return and a line feed are the end
pub end_return_feed : (body : List ℕ) → end_of (body ++ 13 ∷ 10 ∷ []) ≡ 13 ∷ 10 ∷ []
end_return_feed body = end-append body (13 ∷ 10 ∷ []) (omega arith)

-- a line feed alone is the end
pub end_feed : (body : List ℕ) → ((front : List ℕ) → body ≢ front ++ 13 ∷ []) → end_of (body ++ 10 ∷ []) ≡ 10 ∷ []
end_feed [] h = refl
end_feed (c ∷ []) h = let k : c ≢ 13 = λ e. h [] (rw e refl) in grind (arith, nat_tests)
end_feed (c ∷ d ∷ body) h =
    end-cons c (d ∷ body ++ 10 ∷ []) (omega (arith, length-append body (10 ∷ [])))
    ∙ end_feed (d ∷ body) (λ front e. h (c ∷ front) (ap (λ cs. c ∷ cs) e))

-- a return alone is the end
pub end_return : (body : List ℕ) → end_of (body ++ 13 ∷ []) ≡ 13 ∷ []
end_return [] = refl
end_return (c ∷ []) = grind (arith, nat_tests)
end_return (c ∷ d ∷ body) =
    end-cons c (d ∷ body ++ 13 ∷ []) (omega (arith, length-append body (13 ∷ []))) ∙ end_return (d ∷ body)

-- where nothing else ends a line, nothing is the end
pub end_none : (bytes : List ℕ) → ((front : List ℕ) → bytes ≢ front ++ 10 ∷ []) →
    ((front : List ℕ) → bytes ≢ front ++ 13 ∷ []) → end_of bytes ≡ []
end_none [] h k = refl
end_none (c ∷ []) h k =
    let no : c ≢ 10 = λ e. h [] (rw e refl) in
    let none : c ≢ 13 = λ e. k [] (rw e refl) in grind (arith, nat_tests)
end_none (c ∷ d ∷ []) h k =
    let no : d ≢ 10 = λ e. h (c ∷ []) (rw e refl) in
    let none : d ≢ 13 = λ e. k (c ∷ []) (rw e refl) in grind (arith, nat_tests)
end_none (c ∷ d ∷ e ∷ bytes) h k =
    end_none (d ∷ e ∷ bytes) (λ front is. h (c ∷ front) (ap (λ cs. c ∷ cs) is))
    (λ front is. k (c ∷ front) (ap (λ cs. c ∷ cs) is))

-- bytes that end no line have no end
inner_end : (xs : List ℕ) → list_all is_inner xs ≡ true → end_of xs ≡ []
inner_end [] h = refl
inner_end (x ∷ []) h = grind (arith, nat_tests)
inner_end (x ∷ y ∷ []) h = grind (arith, nat_tests)
inner_end (x ∷ y ∷ z ∷ xs) h =
    let later = and_parts (is_inner x) (list_all is_inner (y ∷ z ∷ xs)) h in inner_end (y ∷ z ∷ xs) later.1

-- bytes that end no line are not the end, whatever comes before them
end-inner : (zs xs : List ℕ) → list_all is_inner xs ≡ true → xs ≢ [] → end_of (zs ++ xs) ≡ []
end-inner zs [] h some = absurd (some refl)
end-inner [] (x ∷ xs) h some = inner_end (x ∷ xs) h
end-inner (z ∷ []) (x ∷ []) h some = grind (arith, nat_tests)
end-inner (z ∷ []) (x ∷ y ∷ xs) h some =
    end-cons z (x ∷ y ∷ xs) (omega arith) ∙ inner_end (x ∷ y ∷ xs) h
end-inner (z ∷ w ∷ zs) (x ∷ xs) h some =
    end-cons z (w ∷ zs ++ x ∷ xs) (omega (arith, length-append zs (x ∷ xs))) ∙ end-inner (w ∷ zs) (x ∷ xs) h some

-- bytes that end no line don't matter before one more
end-inner-one : (xs : List ℕ) (d : ℕ) → list_all is_inner xs ≡ true → end_of (xs ++ d ∷ []) ≡ end_of (d ∷ [])
end-inner-one [] d h = refl
end-inner-one (x ∷ []) d h = grind (arith, nat_tests)
end-inner-one (x ∷ y ∷ xs) d h =
    let later = and_parts (is_inner x) (list_all is_inner (y ∷ xs)) h in
    end-cons x (y ∷ xs ++ d ∷ []) (omega (arith, length-append xs (d ∷ []))) ∙ end-inner-one (y ∷ xs) d later.1

-- a character has a byte
some_bytes : (c : ℕ) → encode c ≢ []
some_bytes c e = let n = ap length e in let k = encode_some c in omega (arith, n, k)

-- the end of two characters
end_two : (c d : ℕ) → end_of (encode c ++ encode d) ≡ encode_utf8_all (end_of (c ∷ d ∷ []))
end_two c d =
    elim (character_bytes d) [
      | inl one ↦
          elim (character_bytes c) [
            | inl first ↦ rw (first, one) (grind (arith, nat_tests, one, first))
            | inr (inner, all) ↦
                rw one (end-inner-one (encode c) d all ∙ grind (arith, nat_tests, one, inner))
          ]
      | inr (inner, all) ↦
          end-inner (encode c) (encode d) all (some_bytes d) ∙ grind (arith, nat_tests, inner)
    ]

-- the end of a text's bytes has the bytes of its end
pub end-encodes : (cs : List ℕ) → end_of (encode_utf8_all cs) ≡ encode_utf8_all (end_of cs)
end-encodes [] = refl
end-encodes (c ∷ []) =
    elim (character_bytes c) [
      | inl one ↦ rw one (grind (arith, nat_tests, one))
      | inr (inner, all) ↦
          let none : end_of (c ∷ []) ≡ [] = grind (arith, nat_tests, inner) in
          rw (append-nil, none) (end-inner [] (encode c) all (some_bytes c))
    ]
end-encodes (c ∷ d ∷ []) = rw append-nil (end_two c d)
end-encodes (c ∷ d ∷ e ∷ cs) =
    end-append (encode c) (encode_utf8_all (d ∷ e ∷ cs))
    (let k = length-le-encodes (d ∷ e ∷ cs) in omega (arith, k))
    ∙ end-encodes (d ∷ e ∷ cs)

-- a byte was cut off the end, or there is none
abbrev pub IsCutOff : ℕ → List ℕ → List ℕ → Type 0
IsCutOff c bytes rest =
    (bytes ≡ rest ++ c ∷ []) ⊎ ((rest ≡ bytes) × ((front : List ℕ) → bytes ≢ front ++ c ∷ []))

-- bytes that were cut before their end
pub record IsEnded (bytes body : List ℕ) : Type 0 where
  pub end_is : drop (length body) bytes ≡ end_of bytes
  pub long_is : is_long bytes ≡ has 10 (take (length body) bytes)

-- bytes are cut before their end, whose bytes were cut off one by one
pub ended : (bytes without body : List ℕ) → IsCutOff 10 bytes without → IsCutOff 13 without body → IsEnded bytes body
ended bytes without body (inl feed) (inl return) =
    let whole : bytes ≡ body ++ 13 ∷ 10 ∷ [] =
    feed ∙ ap (λ cs. cs ++ 10 ∷ []) return ∙ append_assoc body (13 ∷ []) (10 ∷ []) in record {
      end_is = rw (whole, drop-append_seam, end_return_feed) refl;
      long_is = rw (whole, take-append_seam, return_feed_long) refl;
    }
ended bytes without body (inl feed) (inr (same, none)) =
    let whole : bytes ≡ body ++ 10 ∷ [] = feed ∙ ap (λ cs. cs ++ 10 ∷ []) (sym same) in
    let no : (front : List ℕ) → body ≢ front ++ 13 ∷ [] = λ front e. none front (sym same ∙ e) in record {
      end_is = rw (whole, drop-append_seam) (sym (end_feed body no));
      long_is = rw (whole, take-append_seam, feed_long) refl;
    }
ended bytes without body (inr (same, none)) (inl return) =
    let whole : bytes ≡ body ++ 13 ∷ [] = sym same ∙ return in record {
      end_is = rw (whole, drop-append_seam, end_return) refl;
      long_is = rw (whole, take-append_seam, return_long) refl;
    }
ended bytes without body (inr (same, none)) (inr (also, neither)) =
    let whole : body ≡ bytes = also ∙ same in
    let no : (front : List ℕ) → bytes ≢ front ++ 13 ∷ [] = λ front e. neither front (same ∙ e) in record {
      end_is = rw (whole, drop-length) (sym (end_none bytes none no));
      long_is = rw (whole, take-length) (no_end_long bytes none);
    }
