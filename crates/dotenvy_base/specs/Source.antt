-- What one read takes from a source, and what one write appends to a sink.
use Rattle.std.specs.Prelude.{ℕ, ◌≡◌, ◌≤◌, ◌<◌, List, [], ◌∷◌, ◌++◌, length, take, drop, ◌==◌}
use Rattle.std.specs.Prelude.{Option, Some, None, Result, Ok, Err, IfOk, IfErr, OnErr, refl}
use Rattle.std.specs.Prelude.{if◌then◌else◌}
use Rattle.std.specs.IoError.{error_kind}
use Rattle.std.specs.declared.io.Error.{Error}
use Rattle.std.specs.declared.io.ErrorKind.{ErrorKind}
use Rattle.std.specs.declared.io.ErrorKind.TheVariants.{WriteZero}
use Rattle.std.specs.contracts.io.ErrorKind as kind
use Rattle.std.specs.Coded.{Coded, code_by, coded×, coded_ℕ, coded_list, coded_option}
use Rattle.dotenvy_base.specs.Calls.{Call}
use Rattle.dotenvy_base.specs.declared.source.Plain.{Plain}

-- what is still to be read: the bytes up to the end, or up to the first read that fails, with the kind of its error
pub record Ahead : Type 0 where
  pub bytes : List ℕ
  pub fault : Option ErrorKind

-- the encoding of this record, made of those of its fields
abbrev pub ahead_code : Coded Ahead
ahead_code =
    code_by (List ℕ × Option ErrorKind)
    (coded× (coded_list coded_ℕ) (coded_option kind.the_row.coded)) (λ a. (a.bytes, a.fault))
    (λ p. record { bytes = p.0; fault = p.1 }) (λ _. refl)

-- what a source specifies of itself: what is still to be read; the calls that were made on it so far; and through which
-- references it is read, the outermost first, by their ghost names; these names are the identity of the reader, so that
-- a contract can say that it is the same one, and a source that is no reference has none
pub record Told : Type 0 where
  pub ahead : Option Ahead
  pub calls : Option (List Call)
  pub references : List ℕ

-- nothing is specified, and the source is no reference
abbrev pub nothing_told : Told
nothing_told = record { ahead = None; calls = None; references = [] }

-- a reference with this name specifies what the source behind it does
abbrev pub told_through : ℕ → Told → Told
told_through name told = record told { references = name ∷ told.references }

-- what a sink specifies of itself: what it holds; the kind of the last error of a write; and the
-- calls that were made on it so far
pub record SinkTold : Type 0 where
  pub held : Option (List ℕ)
  pub last_fault : Option ErrorKind
  pub calls : Option (List Call)

-- a read with the result r takes the next bytes; it returns 0 only at the end, and fails only when the fault is next
abbrev pub ReadsFront : Ahead → Option Ahead → Result ℕ Error → List ℕ → Type 0
ReadsFront a after r buf =
    IfOk r
    (λ n.
    (take n buf ≡ take n a.bytes) × (n ≤ length a.bytes)
    × (after ≡ Some (record { bytes = drop n a.bytes; fault = a.fault }))
    × (0 < length buf → n ≡ 0 → (a.bytes ≡ []) × (a.fault ≡ None)))
    × IfErr r (λ e. (a.bytes ≡ []) × (a.fault ≡ Some (error_kind e)))

-- the same for any source; nothing is said of one whose bytes are not specified
abbrev pub ReadsAhead : Option Ahead → Option Ahead → Result ℕ Error → List ℕ → Type 0
ReadsAhead None after r buf = Unit {0}
ReadsAhead (Some a) after r buf = ReadsFront a after r buf

-- a write with the result r appends so many bytes from the start of buf, and none if it fails
abbrev pub WriteAppends : Option (List ℕ) → Option (List ℕ) → Result ℕ Error → List ℕ → Type 0
WriteAppends None after r buf = Unit {0}
WriteAppends (Some xs) after r buf =
    IfOk r (λ n. after ≡ Some (xs ++ take n buf)) × OnErr r (after ≡ Some xs)

-- the kind of the last write error, after a write with the result r; taking 0 of some bytes counts as `WriteZero`
abbrev pub fault_after : Option ErrorKind → List ℕ → Result ℕ Error → Option ErrorKind
fault_after last [] r = last
fault_after last (b ∷ bs) (Ok n) = if n == 0 then Some WriteZero else last
fault_after last (b ∷ bs) (Err e) = Some (error_kind e)

-- the reader or writer that a `Plain` wraps
abbrev pub plain_inner : {T : Type 0} → Plain T → T
plain_inner p = p.inner

-- the kind of the last write error of a `Plain`, if a write has failed
abbrev pub plain_fault : {T : Type 0} → Plain T → Option ErrorKind
plain_fault p = p.last_fault
