-- A change of the assignments of a key, as the code has it.
use Rattle.std.specs.Prelude.{ℕ, Bool, false, List, bytes_eq}
use Rattle.std.specs.Str.{chars}
use Rattle.dotenvy.specs.Dialect.{Dialect}
use Rattle.dotenvy_editor.specs.declared.change.Change.{Change}
use Rattle.dotenvy_editor.specs.declared.change.Change.TheVariants.{Set, Unset, Rename}

-- the key whose assignments are changed
abbrev pub key_of : Change → List ℕ
key_of (Set setting) = chars setting.key.now
key_of (Unset key dialect) = chars key.now
key_of (Rename old new dialect) = chars old.now

-- the dialect of the file
abbrev pub dialect_of : Change → Dialect
dialect_of (Set setting) = setting.how.dialect
dialect_of (Unset key dialect) = dialect
dialect_of (Rename old new dialect) = dialect

-- the key is the new one of a rename
abbrev pub gives : Change → List ℕ → Bool
gives (Set setting) key = false
gives (Unset key dialect) other = false
gives (Rename old new dialect) key = bytes_eq (chars new.now) key
