-- How many bytes of a file are whole statements.
use Rattle.std.specs.Prelude.{ℕ, ◌≡◌, ◌+◌, ◌-◌, List, length}
use Rattle.dotenvy_editor.specs.Whole.{IsWholeLen}
use Rattle.dotenvy_c.specs.Options.{bytes_asked}

-- so many bytes are a byte order mark, if it is dropped, and whole logical lines after it
pub record IsWhole (options : ℕ) (file : List ℕ) (count : ℕ) : Type 0 where
  pub lines : ℕ
  pub whole : IsWholeLen (bytes_asked options file) lines
  pub counts : count ≡ length file - length (bytes_asked options file) + lines
