-- What a reading of the bytes left gives: their entries, and the fault that ends it.
use Rattle.std.specs.Prelude.{ℕ, ◌≡◌, ◌≤◌, ◌+◌, ◌⊎◌, List, [], ◌∷◌, ◌++◌, length, Option, Some, None}
use Rattle.std.specs.declared.io.ErrorKind.{ErrorKind}
use Rattle.std.specs.declared.io.ErrorKind.TheVariants.{Other}
use Rattle.dotenvy_format.specs.declared.dialect.Dialect.{Dialect}
use Rattle.dotenvy_format.specs.Entries.{Entry, Fails, Io, Memory, HasEntries}
use Rattle.dotenvy_format.specs.Decided.{HasDecided}
use Rattle.dotenvy_format.specs.Marks.{without_mark}
use Rattle.dotenvy_base.specs.Source.{Ahead}
use Rattle.dotenvy_lines.specs.Input.{InputState, end_reads}

-- the entries of what is left: those of the bytes, or before a fault those that they decide
abbrev pub HasEntriesLeft : Dialect → Option ErrorKind → List ℕ → List Entry → Type 0
HasEntriesLeft dialect None bytes entries = HasEntries dialect bytes entries
HasEntriesLeft dialect (Some kind) bytes entries = HasDecided dialect bytes entries

-- the entry of the fault that is told, if one is
abbrev pub told_fault : Option ErrorKind → List Entry
told_fault None = []
told_fault (Some kind) = Fails (Io kind) ∷ []

-- memory is refused after some of the first entries
pub record StopsAtMemory (entries read : List Entry) : Type 0 where
  pub front : List Entry
  pub back : List Entry
  pub cut : entries ≡ front ++ back
  pub ends : read ≡ front ++ Fails Memory ∷ []

-- so many bytes can be read for certain: one by each read that may still be made, one more by that
-- of the end, and those that were read already
abbrev pub certain_bytes : InputState → ℕ
certain_bytes s = s.reads + s.unread + end_reads s.at_end

-- a reading of a, of which so many bytes can be read for certain, without a byte order mark at its
-- front, stops at the bound on reads: after the entries that the bytes read so far decide, where
-- each read gave a byte at least
pub record StopsAtBound (dialect : Dialect) (a : Ahead) (certain : ℕ) (read : List Entry)
    : Type 0 where
  pub bytes : List ℕ
  pub later : List ℕ
  pub cut : a.bytes ≡ bytes ++ later
  pub each_gave : certain ≤ length bytes
  pub decided : List Entry
  pub has_decided : HasDecided dialect (without_mark bytes) decided
  pub ends : read ≡ decided ++ Fails (Io Other) ∷ []

-- a reading of a from s on, where these are the entries without the byte order mark: all of them and
-- the fault that is told; or it stops before
abbrev pub IsReading : Dialect → Ahead → InputState → List Entry → List Entry → Type 0
IsReading dialect a s entries read =
    (read ≡ entries ++ told_fault a.fault)
    ⊎ (StopsAtMemory entries read ⊎ StopsAtBound dialect a (certain_bytes s) read)
