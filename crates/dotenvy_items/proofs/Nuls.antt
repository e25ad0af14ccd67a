-- A text's bytes have a NUL exactly where its characters do.
use Rattle.std.proofs.Common.{◌≡◌, ℕ, List, [], ◌∷◌, refl, ap, arith}
use Rattle.std.specs.Prelude.{◌==◌, not, encode_utf8_all}
use Rattle.std.specs.Str.{chars, IsUtf8}
use Rattle.std.proofs.Math.Utf8.{encode}
use Rattle.std.proofs.lemmas.Bool.Decides.{nat_tests}
use Rattle.std.proofs.lemmas.List.Folds.{list_any-append}
use Rattle.std.proofs.lemmas.Str.{encodes-chars}
use Rattle.dotenvy_base.specs.Environment.{value_ok}
use Rattle.dotenvy_format.specs.Run.{has_nul}

-- a character's bytes have a NUL where it is one
has_nul-encode : (c : ℕ) → has_nul (encode c) ≡ (c == 0)
unfolding encode
has_nul-encode c = grind (arith, nat_tests)

-- a text's bytes have a NUL just where its characters do
has_nul-encodes : (cs : List ℕ) → has_nul (encode_utf8_all cs) ≡ has_nul cs
has_nul-encodes [] = refl
has_nul-encodes (c ∷ cs) =
    rw (list_any-append (λ b. b == 0) (encode c) (encode_utf8_all cs), has_nul-encode c, has_nul-encodes cs)

-- a text is a good value exactly where no character is a NUL
pub value_ok-chars : (bs : List ℕ) → IsUtf8 bs → value_ok bs ≡ not (has_nul (chars bs))
value_ok-chars bs utf8 = rw (encodes-chars bs utf8) at (ap not (has_nul-encodes (chars bs)))
