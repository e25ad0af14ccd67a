-- Rows of one ASCII character at the front of a text.
use Rattle.std.proofs.Common.{◌≡◌, ℕ, zero, suc, ◌+◌, ◌<◌, ◌≤◌, List, [], ◌∷◌, ◌++◌, refl, sym, arith, take}
use Rattle.std.proofs.Common.{drop, get_or}
use Rattle.std.specs.Prelude.{◌==◌}
use Rattle.std.specs.List.{prefix_len}
use Rattle.std.specs.Str.{chars, encode_utf8_all, IsUtf8, IsCharBoundary}
use Rattle.std.proofs.Math.ListN.{replicate}
use Rattle.std.proofs.lemmas.Bool.{eqb-true}
use Rattle.std.proofs.lemmas.Bool.Decides.{nat_tests}
use Rattle.std.proofs.lemmas.List.{take-append-drop}
use Rattle.std.proofs.lemmas.List.Sums.{prefix_len-le-length, prefix_len_passes}
use Rattle.std.proofs.lemmas.Str.{encode_ascii, chars-append, chars_from_encodes, IsUtf8-take, IsUtf8-drop}
use Rattle.std.proofs.lemmas.Str.{IsCharBoundary-after_ascii, IsCharBoundary-start}

-- as many of this character
abbrev pub row : (c n : ℕ) → List ℕ
row c n = replicate n c

-- a row is its own UTF-8
pub row_bytes : (c n : ℕ) → c < 128 → encode_utf8_all (row c n) ≡ row c n
row_bytes c zero small = refl
row_bytes c (suc n) small = rw (row_bytes c n small, encode_ascii c small) refl

-- what is taken of the row at the front of a text is a row
pub row_taken : (c n : ℕ) (text : List ℕ) → n ≤ prefix_len (λ b. b == c) text → take n text ≡ row c n
row_taken c zero text h = refl
row_taken c (suc n) text h = grind (arith, nat_tests, row_taken c n)

-- a text may be cut anywhere in the row at its front
pub row_boundary : (c : ℕ) (text : List ℕ) (i : ℕ) → c < 128 → IsUtf8 text → i ≤ prefix_len (λ b. b == c) text
    → IsCharBoundary text i
row_boundary c text zero small utf8 most = IsCharBoundary-start text utf8
row_boundary c text (suc i) small utf8 most =
    let passes = prefix_len_passes (λ b. b == c) text i 0 (omega arith) in
    let is : get_or text i 0 ≡ c = eqb-true (get_or text i 0) c passes in
    let within = prefix_len-le-length (λ b. b == c) text in
    let next : i + 1 ≡ suc i = omega arith in
    rw next at (IsCharBoundary-after_ascii text i utf8 (omega arith) (rw is small))

-- a text, cut in the row at its front
pub record CutRow (c n : ℕ) (text : List ℕ) : Type 0 where
  pub own : take n text ≡ row c n
  pub front : IsUtf8 (row c n)
  pub spells : chars (row c n) ≡ row c n
  pub rest : IsUtf8 (drop n text)
  pub bytes : text ≡ row c n ++ drop n text
  pub characters : chars text ≡ row c n ++ chars (drop n text)

-- where a text is cut in the row at its front, that row and a text are its parts
pub cut_row : (c n : ℕ) (text : List ℕ) → c < 128 → IsUtf8 text → n ≤ prefix_len (λ b. b == c) text → CutRow c n text
cut_row c n text small utf8 most =
    let boundary = row_boundary c text n small utf8 most in
    let own = row_taken c n text most in
    let front : IsUtf8 (row c n) = rw own at (IsUtf8-take text n utf8 boundary) in
    let spells : chars (row c n) ≡ row c n =
    sym (chars_from_encodes (row c n) (row c n) front (row_bytes c n small)) in
    let bytes : text ≡ row c n ++ drop n text = rw own at (sym (take-append-drop n text)) in
    let parts = chars-append (row c n) (drop n text) front in
    record {
      own = own;
      front = front;
      spells = spells;
      rest = IsUtf8-drop text n utf8 boundary;
      bytes = bytes;
      characters = cc (bytes, parts, spells);
    }

-- behind some of the row at the front of a text, as many more of it follow
pub row_dropped : (c k n : ℕ) (text : List ℕ) → k + n ≤ prefix_len (λ b. b == c) text
    → drop k text ≡ row c n ++ drop (k + n) text
row_dropped c zero n text h =
    let all : 0 + n ≡ n = omega arith in
    rw all (rw (row_taken c n text (omega arith)) at (sym (take-append-drop n text)))
row_dropped c (suc k) n [] h = absurd (omega arith)
row_dropped c (suc k) n (b ∷ text) h =
    let more : suc k + n ≡ suc (k + n) = omega arith in
    rw more (row_dropped c k n text (grind (arith, nat_tests)))
