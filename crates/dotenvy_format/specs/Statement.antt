-- Statements: an optional `export`, a key, `=`, and what is assigned, with white space around each of these.
use Rattle.std.specs.Prelude.{◌≡◌, ◌⊎◌, ℕ, Bool, not, ◌&&◌, List, [], ◌∷◌, ◌++◌, codes, IsTrue}
use Rattle.std.specs.Char.{is_whitespace}
use Rattle.std.specs.List.{list_all}
use Rattle.dotenvy_format.specs.Characters.{equals_sign, begins_passing}
use Rattle.dotenvy_format.specs.Keys.{is_key}

-- the text is all white space
abbrev pub is_white_space : List ℕ → Bool
is_white_space text = list_all is_whitespace text

-- the text is empty, or is `export` and at least one white space character
abbrev pub IsPrefix : List ℕ → Type 0
IsPrefix prefix =
    (prefix ≡ [])
    ⊎ ((first : ℕ) × (gap : List ℕ) × (prefix ≡ codes "export" ++ first ∷ gap)
    × IsTrue (is_white_space (first ∷ gap)))

-- the text begins with white space
abbrev pub begins_with_white_space : List ℕ → Bool
begins_with_white_space text = begins_passing is_whitespace text

-- the line is a statement, which assigns the rest to the key
pub record IsStatement (line key rest : List ℕ) : Type 0 where
  pub indent : List ℕ
  pub prefix : List ℕ
  pub before : List ℕ
  pub after : List ℕ
  pub white_space : IsTrue (is_white_space indent && is_white_space before && is_white_space after)
  pub is_prefix : IsPrefix prefix
  pub is_key : IsTrue (is_key key)
  pub trimmed : IsTrue (not (begins_with_white_space rest))
  pub spelled : line ≡ indent ++ (prefix ++ (key ++ (before ++ equals_sign ∷ (after ++ rest))))
