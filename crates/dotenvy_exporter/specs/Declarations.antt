-- The names that files declare, with the values that loads of the files leave.
use Rattle.std.specs.Prelude.{ℕ, ◌≡◌, ◌+◌, ◌≤◌, ◌⊎◌, Bool, false, List, [], ◌∷◌, ◌++◌, length, Some}
use Rattle.std.specs.Prelude.{None, Result, Ok, Err, if◌then◌else◌}
use Rattle.std.specs.FinMap as fin
use Rattle.std.specs.IoError.{error_kind}
use Rattle.std.specs.List.{list_any}
use Rattle.std.specs.Str.{bytes_eq}
use Rattle.std.specs.declared.io.ErrorKind.TheVariants.{Other}
use Rattle.dotenvy_base.specs.Environment.{Env, Texts}
use Rattle.dotenvy_base.specs.Errors.{IsIoOf, IsMemory, IsNulOf}
use Rattle.dotenvy_base.specs.Source.{Ahead, Told}
use Rattle.dotenvy_base.specs.declared.errors.Error.{Error}
use Rattle.dotenvy_format.specs.declared.dialect.Dialect.{Dialect}
use Rattle.dotenvy_format.specs.Entries.{Entry, Declares, Fails, HasEntries}
use Rattle.dotenvy_format.specs.Items.{LookUp, no_values}
use Rattle.dotenvy_format.specs.Marks.{without_mark}
use Rattle.dotenvy.specs.Input.{most_reads}
use Rattle.dotenvy_items.specs.LoadsRest.{IsAnswer}
use Rattle.dotenvy_items.specs.Meaning.{values_of}
use Rattle.dotenvy_items.specs.NextItem.{UsesUpTo}
use Rattle.env_layers.specs.Layers.{rule_of}
use Rattle.env_layers.specs.declared.layers.Mode.{Mode}
use Rattle.env_layers.specs.declared.layers.Mode.TheVariants.{Keep, Override}
use Rattle.dotenvy_exporter.specs.declared.declared.Stopped.{Stopped}

-- the entry declares this name
abbrev pub declares : List ℕ → Entry → Bool
declares name (Declares key pieces) = bytes_eq key name
declares name (Fails failure) = false

-- one of the files, given by their entries, declares this name
abbrev pub is_declared : List (List Entry) → List ℕ → Bool
is_declared files name = list_any (λ entries. list_any (declares name) entries) files

-- a load of this file over `before` has no error and leaves `after`, where a name that is unknown means
-- what it means outside
pub record LoadsFile (mode : Mode) (dialect : Dialect) (outside before : LookUp) (file : List ℕ)
    (after : LookUp) : Type 0 where
  pub entries : List Entry
  pub has_entries : HasEntries dialect (without_mark file) entries
  pub no_error : (rule_of mode before outside entries).answer ≡ Ok tt
  pub leaves : (name : List ℕ) → after name ≡ (rule_of mode before outside entries).env name

-- files with these entries are loaded one after another, each over what the others left
abbrev pub LoadsFiles : Mode → Dialect → LookUp → LookUp → List (List ℕ) → LookUp → List (List Entry) →
    Type 0
LoadsFiles mode dialect outside before [] after lists =
    ((name : List ℕ) → after name ≡ before name) × (lists ≡ [])
LoadsFiles mode dialect outside before (file ∷ files) after lists =
    (between : LookUp) × (own : LoadsFile mode dialect outside before file between)
    × (later : List (List Entry)) × LoadsFiles mode dialect outside between files after later
    × (lists ≡ own.entries ∷ later)

-- files are loaded one after another, whatever their entries are
abbrev pub LoadsThrough : Mode → Dialect → LookUp → List (List ℕ) → LookUp → LookUp → Type 0
LoadsThrough mode dialect outside files before after =
    (lists : List (List Entry)) × LoadsFiles mode dialect outside before files after lists

-- loads of these files over an environment have no error, and `names` has each name that one of the
-- files declares, with the value that the loads leave, and no others
pub record HasDeclared (mode : Mode) (dialect : Dialect) (env : Texts) (files : List (List ℕ))
    (names : Texts) : Type 0 where
  pub after : LookUp
  pub lists : List (List Entry)
  pub loads : LoadsFiles mode dialect no_values (values_of env) files after lists
  pub holds : (name : List ℕ) →
      values_of names name ≡ (if is_declared lists name then after name else None)

-- the error says that a value has a NUL
abbrev pub IsNul : {A : Type 0} → Error A → Type 0
IsNul error = (key : List ℕ) × IsNulOf key error

-- a source has these bytes left, and no fault after them
abbrev pub ahead_of : List ℕ → Ahead
ahead_of bytes = record { bytes = bytes; fault = None }

-- what a source of these bytes tells
abbrev pub bytes_told : List ℕ → Told
bytes_told bytes = record { ahead = Some (ahead_of bytes); calls = None; references = [] }

-- a load of this file over `before` meets no error in its first entries, and this error in the next
-- one, which begins on this physical line
pub record StopsOnLine {A : Type 0} (mode : Mode) (dialect : Dialect) (outside before : LookUp)
    (file : List ℕ) (line : ℕ) (error : Error A) : Type 0 where
  pub done : List Entry
  pub entry : Entry
  pub loads : (rule_of mode before outside done).answer ≡ Ok tt
  pub stops : IsAnswer (rule_of mode before outside (done ++ entry ∷ [])).answer (Err error)
  pub left : List ℕ
  pub uses : UsesUpTo dialect (ahead_of (without_mark file)) done entry left
  pub begins : line ≡ uses.before + 1

-- the file has enough bytes to meet the bound on reads, and the error is an `Io` of kind `Other`
abbrev pub IsTooLong : {A : Type 0} → List ℕ → Error A → Type 0
IsTooLong file error =
    (most_reads ≤ length file) × IsIoOf (λ fault. error_kind fault ≡ Other) error

-- a load of this file over `before` stops with this error: at an entry that begins on this line; or
-- on no line, which is 0, since an allocation failed or the bound on reads was met
abbrev pub StopsFile : {A : Type 0} → Mode → Dialect → LookUp → LookUp → List ℕ → ℕ → Error A →
    Type 0
StopsFile mode dialect outside before file line error =
    StopsOnLine mode dialect outside before file line error
    ⊎ ((line ≡ 0) × (IsMemory error ⊎ IsTooLong file error))

-- loads of these files over `before` meet no error in the files in front of the one with this
-- number, counted from 0, which stops them on this line and with this error
pub record StopsAmong {A : Type 0} (mode : Mode) (dialect : Dialect) (outside before : LookUp)
    (files : List (List ℕ)) (stopped : Stopped A) : Type 0 where
  pub front : List (List ℕ)
  pub file : List ℕ
  pub back : List (List ℕ)
  pub cut : files ≡ front ++ file ∷ back
  pub number : stopped.file ≡ length front
  pub between : LookUp
  pub loads : LoadsThrough mode dialect outside front before between
  pub stops : StopsFile mode dialect outside between file stopped.line stopped.error

-- with these pairs, those whose name is among some
abbrev pub restricted : Texts → List (List ℕ × List ℕ) → Texts → Texts
restricted names [] kept = kept
restricted names ((name, value) ∷ pairs) kept =
    restricted names pairs
    (if fin.contains_key names name then fin.insert kept name value else kept)

-- the names of the environment that are among some and keep their values
abbrev pub kept_names : Mode → Texts → Texts → Texts
kept_names Keep env names = restricted names (fin.entries env) fin.empty
kept_names Override env names = fin.empty

-- the load of files stops before the first line for this error
abbrev pub StopsBefore : {A : Type 0} → Error A → Stopped A → Type 0
StopsBefore error stopped = (stopped.file ≡ 0) × (stopped.line ≡ 0) × (stopped.error ≡ error)

-- the load of files stops on no line, since an allocation failed
abbrev pub IsMemoryStop : {A : Type 0} → Stopped A → Type 0
IsMemoryStop stopped = (stopped.line ≡ 0) × IsMemory stopped.error

-- files are loaded over these names: over none at first, and then over those names of the
-- environment that the first loads set and that keep their values
abbrev pub IsStart : Mode → Dialect → Texts → List (List ℕ) → Texts → Type 0
IsStart mode dialect env files start =
    (start ≡ fin.empty)
    ⊎ ((names : Texts)
    × LoadsThrough mode dialect (values_of env) files (values_of fin.empty) (values_of names)
    × (start ≡ kept_names mode env names))

-- loads of these files over the environment stop so: an allocation failed, or a file stops them
abbrev pub StopsDeclared : {A : Type 0} → Mode → Dialect → Texts → List (List ℕ) → Stopped A →
    Type 0
StopsDeclared mode dialect env files stopped =
    IsMemoryStop stopped
    ⊎ ((start : Texts) × IsStart mode dialect env files start
    × StopsAmong mode dialect (values_of env) (values_of start) files stopped)

-- loads of these files over the environment end so: with the names that the files declare, or where
-- they stop
abbrev pub LoadsDeclared : {A : Type 0} → Mode → Dialect → Texts → List (List ℕ) →
    Result Env (Stopped A) → Type 0
LoadsDeclared mode dialect env files (Ok names) = HasDeclared mode dialect env files names.names
LoadsDeclared mode dialect env files (Err stopped) = StopsDeclared mode dialect env files stopped
