-- The characters of a key.
use Rattle.std.proofs.Common.{◌≡◌, ℕ, arith, true, List, [], ◌∷◌, refl}
use Rattle.std.specs.Prelude.{IsTrue}
use Rattle.std.specs.List.{list_all}
use Rattle.dotenvy_format.specs.Characters.{begins_key, continues_key}
use Rattle.dotenvy_format.specs.Keys.{is_key}

-- a character that begins a key may also stand later in one
pub key_begins_continues : (c : ℕ) → begins_key c ≡ true → continues_key c ≡ true
key_begins_continues c h = rw h

-- each character of a key, the first one too, may stand later in a key
pub key_continues : (key : List ℕ) → IsTrue (is_key key) → list_all continues_key key ≡ true
key_continues [] h = refl
key_continues (c ∷ key) h = grind (arith, key_begins_continues c)
