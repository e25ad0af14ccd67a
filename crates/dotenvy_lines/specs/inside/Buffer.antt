-- What one read puts into the buffer.
use Rattle.std.specs.Prelude.{ℕ, ◌≡◌, ◌≤◌, ◌+◌, List, ◌++◌, length, take, Result, Ok, Err}
use Rattle.std.specs.declared.io.Error.{Error as IoError}
use Rattle.dotenvy_base.specs.Calls.{TellsCall, call_of}
use Rattle.dotenvy_base.specs.Source.{Told, ReadsAhead}
use Rattle.dotenvy_lines.specs.Input.{most_bytes}

-- the unread bytes, and behind them those that were given; a fault gives none
abbrev pub AppendsGiven : List ℕ → Result ℕ IoError → List ℕ → List ℕ → Type 0
AppendsGiven old (Ok n) given new = (n ≤ length given) × (new ≡ old ++ take n given)
AppendsGiven old (Err e) given new = new ≡ old

-- one read of a source, with all the room behind the unread bytes
pub record Fills (before : Told) (old : List ℕ) (r : Result ℕ IoError) (after : Told)
    (new : List ℕ) : Type 0 where
  pub given : List ℕ
  pub room : length old + length given ≡ most_bytes
  pub reads : ReadsAhead before.ahead after.ahead r given
  pub appends : AppendsGiven old r given new
  pub call : TellsCall before.calls after.calls (call_of (length given) r)
  pub same : after.references ≡ before.references
