-- What C is told of the warnings of an edit.
use Rattle.std.specs.Prelude.{ℕ, ◌≡◌, ◌+◌, List, [], ◌∷◌, ◌++◌, length, string_bytes}
use Rattle.std.specs.List.{flat_map}
use Rattle.std.specs.declared.alloc.Global.{Global}
use Rattle.dotenvy_editor.specs.declared.warning.Edited.{Edited}
use Rattle.dotenvy_editor.specs.declared.warning.Warning.{Warning}
use Rattle.dotenvy_editor.specs.declared.warning.Warning.TheVariants.{Mentions, StopsBefore}
use Rattle.dotenvy_editor.specs.declared.warning.Warning.TheVariants.{Removed, Dollar}
use Rattle.dotenvy_c.specs.declared.warnings.Noted as rust
use Rattle.dotenvy_c.specs.declared.warnings.ToldFile.{ToldFile}
use Rattle.dotenvy_c.specs.declared.warnings.ToldWarning.{ToldWarning}

-- a kind, a name, and the first and the last physical line
pub record Noted : Type 0 where
  pub kind : ℕ
  pub name : List ℕ
  pub first_line : ℕ
  pub last_line : ℕ

-- what the record of the code says
abbrev pub noted_of : rust.Noted → Noted
noted_of noted = record {
  kind = noted.kind;
  name = noted.name.now;
  first_line = noted.first_line;
  last_line = noted.last_line;
}

-- a kind, with a name and lines
abbrev pub as_noted : ℕ → List ℕ → ℕ → ℕ → Noted
as_noted kind name first last =
    record { kind = kind; name = name; first_line = first; last_line = last }

-- what is told of a warning; a dollar in a value is on no line
abbrev pub warning_told : {A : Type 0} → Warning A → Noted
warning_told (Mentions name line) = as_noted 1 (string_bytes name) line line
warning_told (StopsBefore line) = as_noted 2 [] line line
warning_told (Removed first last) = as_noted 3 [] first last
warning_told Dollar = as_noted 4 [] 0 0

-- the name of a warning
abbrev pub warning_name : Warning Global → List ℕ
warning_name warning = (warning_told warning).name

-- the names of warnings, one after the other
abbrev pub warning_names : List (Warning Global) → List ℕ
warning_names = flat_map warning_name

-- the record of a warning whose name begins here
abbrev pub told_at : ℕ → Noted → ToldWarning
told_at at noted = record {
  kind = noted.kind;
  name_at = at;
  name_len = length noted.name;
  first_line = noted.first_line;
  last_line = noted.last_line;
  reserved = 0 ∷ 0 ∷ [];
}

-- the records of warnings whose names begin here
abbrev pub told_from : ℕ → List (Warning Global) → List ToldWarning
told_from at [] = []
told_from at (warning ∷ later) =
    told_at at (warning_told warning) ∷ told_from (at + length (warning_name warning)) later

-- the bytes of an edited file, and the names of its warnings after them
abbrev pub edit_bytes : Edited Global → List ℕ
edit_bytes edited = edited.bytes.items ++ warning_names edited.warnings.items

-- the records of the warnings of an edited file
abbrev pub edit_warnings : Edited Global → List ToldWarning
edit_warnings edited = told_from (length edited.bytes.items) edited.warnings.items

-- the edited file is told with its warnings
pub record TellsWarnings (edited : Edited Global) (told : ToldFile) : Type 0 where
  pub bytes : told.bytes.items ≡ edit_bytes edited
  pub warnings : told.warnings.items ≡ edit_warnings edited
