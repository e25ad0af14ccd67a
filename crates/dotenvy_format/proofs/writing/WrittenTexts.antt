-- The written form of keys and texts is a text.
use Rattle.std.proofs.lemmas.List.Folds.{list_all-append}
use Rattle.std.proofs.Common.{◌≡◌, ℕ, true, List, [], ◌∷◌, refl, arith}
use Rattle.std.specs.List.{flat_map, list_all}
use Rattle.std.proofs.lemmas.Bool.{and_parts}
use Rattle.std.proofs.lemmas.Bool.Decides.{nat_tests}
use Rattle.std.proofs.Math.Utf8.{scalar, scalars}
use Rattle.dotenvy_format.specs.Characters.{continues_key}
use Rattle.dotenvy_format.specs.Keys.{is_key}
use Rattle.dotenvy_format.specs.Written.{written_character, written_text, AreWritable}
use Rattle.dotenvy_format.proofs.KeyCharacters.{key_continues}
use Rattle.dotenvy_format.proofs.writing.ReadBackLines.{AreKeys}

-- of pairs that can be written each first part is a key
pub keys_of : (pairs : List (List ℕ × List ℕ)) → AreWritable pairs → AreKeys pairs
keys_of [] are = tt
keys_of ((key, text) ∷ pairs) are = grind (arith, keys_of pairs)

-- later characters of a key are Unicode scalar values
key_scalars : (cs : List ℕ) → list_all continues_key cs ≡ true → scalars cs ≡ true
key_scalars [] h = refl
key_scalars (c ∷ cs) h =
    grind (arith, nat_tests, key_scalars cs)

-- a text of Unicode scalar values is written as such a text
text_scalars : (text : List ℕ) → scalars text ≡ true → scalars (flat_map written_character text) ≡ true
text_scalars [] h = refl
text_scalars (c ∷ text) h =
    grind (arith, nat_tests, text_scalars text)

-- pairs that can be written are written as a text of Unicode scalar values
pub written_scalars : (pairs : List (List ℕ × List ℕ)) → AreWritable pairs → scalars (written_text pairs) ≡ true
written_scalars [] are = refl
written_scalars ((key, text) ∷ pairs) are =
    let p = and_parts (is_key key) (scalars text) are.0 in
    let own = key_scalars key (key_continues key p.0) in
    simp (list_all-append scalar, own, text_scalars text p.1, written_scalars pairs are.1)
