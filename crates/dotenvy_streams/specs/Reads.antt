-- What is read of a source.
use Rattle.std.specs.Prelude.{ℕ, ◌≡◌, ◌≤◌, ◌-◌, ◌^◌, ◌⊎◌, List, Some, None, length}
use Rattle.std.specs.IoError.{error_kind}
use Rattle.std.specs.declared.io.ErrorKind.TheVariants.{Interrupted}
use Rattle.dotenvy_base.specs.Source.{Ahead}
use Rattle.dotenvy_base.specs.declared.errors.Error.{Error}
use Rattle.dotenvy_base.specs.declared.errors.Error.TheVariants.{Io, Memory}

-- these are all bytes of a source that says what is still to be read, up to its end; of a source
-- whose next fault is an interruption it doesn't say what comes then
abbrev pub IsWhole : Ahead → List ℕ → Type 0
IsWhole ahead bytes =
    ((bytes ≡ ahead.bytes) × (ahead.fault ≡ None)) ⊎ (ahead.fault ≡ Some Interrupted)

-- how many reads are made at most
abbrev pub most_reads : ℕ
most_reads = 2 ^ 64 - 1

-- why not all bytes of such a source are read: an allocation failed, a read failed as the source
-- says, or it has more bytes than reads are made
abbrev pub IsReadFault : {A : Type 0} → Ahead → Error A → Type 0
IsReadFault ahead (Memory refused) = Unit {0}
IsReadFault ahead (Io fault) =
    (ahead.fault ≡ Some (error_kind fault)) ⊎ ((ahead.fault ≡ Some Interrupted)
    ⊎ (most_reads ≤ length ahead.bytes))
IsReadFault ahead other = ⊥
