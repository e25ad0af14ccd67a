-- What the errors of the library say, and what they print.
use Rattle.std.specs.Prelude.{ℕ, ◌≡◌, ◌++◌, Bool, true, false, List, Option, Some, None, Result, Ok}
use Rattle.std.specs.Prelude.{Err, alloc_error, codes, string_bytes, if◌then◌else◌}
use Rattle.std.specs.Fmt.{decimal}
use Rattle.std.specs.Str.{chars}
use Rattle.std.specs.IoError.{error_kind}
use Rattle.std.specs.declared.io.Error.{Error as IoError}
use Rattle.std.specs.declared.io.ErrorKind.{ErrorKind}
use Rattle.std.specs.declared.io.ErrorKind.TheVariants.{NotFound, OutOfMemory}
use Rattle.dotenvy_base.specs.declared.errors.Error.{Error}
use Rattle.dotenvy_base.specs.declared.errors.Error.TheVariants.{LineParse, Io, EnvVar, Nul, Memory}

-- the error is an `Io` for which P holds
abbrev pub IsIoOf : {A : Type 0} → (IoError → Type 0) → Error A → Type 0
IsIoOf P (Io e) = P e
IsIoOf P _ = ⊥

-- the error is an `Io` of kind `NotFound`
abbrev pub IsNotFound : {A : Type 0} → Error A → Type 0
IsNotFound e = IsIoOf (λ fault. error_kind fault ≡ NotFound) e

-- the error says that an allocation failed
abbrev pub IsMemory : {A : Type 0} → Error A → Type 0
IsMemory (Memory _) = Unit {0}
IsMemory _ = ⊥

-- what is printed of a `LineParse` with this text and this place
abbrev pub line_parse_text : List ℕ → ℕ → List ℕ
line_parse_text text place =
    codes "Error parsing line: '" ++ (text ++ (codes "', error at line index: " ++ decimal place))

-- what `{}` prints of an error; of an error of a reader, a writer or a file nothing is said
abbrev pub error_text : {A : Type 0} → Error A → Option (List ℕ)
error_text (LineParse text place) = Some (line_parse_text (string_bytes text) place)
error_text (Io _) = None
error_text (EnvVar _) = None
error_text (Nul key) = Some (codes "value of '" ++ (string_bytes key ++ codes "' contains a NUL"))
error_text (Memory _) = Some (codes "out of memory")

-- the error says that the value of this key has a NUL
abbrev pub IsNulOf : {A : Type 0} → List ℕ → Error A → Type 0
IsNulOf key (Nul text) = string_bytes text ≡ key
IsNulOf key _ = ⊥

-- the call failed because an allocation failed
abbrev pub IsMemoryErr : {T A : Type 0} → Result T (Error A) → Type 0
IsMemoryErr (Ok x) = ⊥
IsMemoryErr (Err e) = IsMemory e

-- the error is a `LineParse` with this text, as characters, and this index
abbrev pub IsLineParseOf : {A : Type 0} → List ℕ → ℕ → Error A → Type 0
IsLineParseOf text index (LineParse found place) =
    (chars (string_bytes found) ≡ text) × (place ≡ index)
IsLineParseOf text index _ = ⊥

-- an error of this kind says that the system is out of memory
abbrev pub is_out_of_memory : ErrorKind → Bool
is_out_of_memory OutOfMemory = true
is_out_of_memory _ = false

-- the same error, except that an `Io` which says out of memory becomes `Memory`
abbrev pub or_memory : {A : Type 0} → Error A → Error A
or_memory (Io fault) = if is_out_of_memory (error_kind fault) then Memory alloc_error else Io fault
or_memory e = e

-- the error is one of the system, such as that of a file, or a failed allocation; an `Io` never says out of memory
abbrev pub IsFileFault : {A : Type 0} → Error A → Type 0
IsFileFault (Io fault) = is_out_of_memory (error_kind fault) ≡ false
IsFileFault (Memory _) = Unit {0}
IsFileFault _ = ⊥
