-- Keys: the names to which a file may assign values.
use Rattle.std.specs.Prelude.{ℕ, Bool, false, ◌&&◌, List, [], ◌∷◌}
use Rattle.std.specs.List.{list_all}
use Rattle.dotenvy_format.specs.Characters.{begins_key, continues_key}

-- the whole text is a key: one character that may begin it, and others that may follow
abbrev pub is_key : List ℕ → Bool
is_key [] = false
is_key (c ∷ cs) = begins_key c && list_all continues_key cs
