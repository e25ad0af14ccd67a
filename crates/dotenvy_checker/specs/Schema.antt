-- The names of a schema, compared with those that the checked files declare. A name is its bytes.
use Rattle.std.specs.Prelude.{Bool, false, not, List, ◌++◌, map, Some, codes}
use Rattle.std.specs.List.{filter, list_any}
use Rattle.std.specs.Str.{chars}
use Rattle.clap.specs.Words.{Text}
use Rattle.dotenvy_reports.specs.declared.format.Format.{Format}
use Rattle.dotenvy_reports.specs.declared.severity.Severity.{Severity}
use Rattle.dotenvy_reports.specs.declared.severity.Severity.TheVariants.{Error, Warning}
use Rattle.dotenvy_reports.specs.OneLine.{on_one_line}
use Rattle.dotenvy_reports.specs.Reports.{name_message, report_text, told_of_file}
use Rattle.dotenvy_reports.specs.Told.{Told}
use Rattle.dotenvy_checker.specs.declared.report.Found.{Found}
use Rattle.dotenvy_checker.specs.declared.schema.DeclaredNames.{DeclaredNames}
use Rattle.dotenvy_checker.specs.declared.schema.Difference.{Difference}
use Rattle.dotenvy_checker.specs.declared.schema.Difference.TheVariants.{NotDeclared, NotInSchema}
use Rattle.dotenvy_checker.specs.declared.schema.Telling.{Telling}
use Rattle.dotenvy_words.specs.Found.{texts}
use Rattle.dotenvy_checker.specs.Folders.{is_among}

-- the names, in the order in which the code keeps them
abbrev pub names_of : {A : Type 0} → DeclaredNames A → List Text
names_of declared = texts declared.names.keys

-- the name is none of these
abbrev pub is_lacking : List Text → Text → Bool
is_lacking names name = not (is_among names name)

-- those of the names that the others lack
abbrev pub lacked : List Text → List Text → List Text
lacked names others = filter (is_lacking others) names

-- the kind of a difference
abbrev pub difference_kind : Difference → Text
difference_kind NotDeclared = codes "not-declared"
difference_kind NotInSchema = codes "not-in-schema"

-- how bad it is
abbrev pub difference_severity : Difference → Severity
difference_severity NotDeclared = Error
difference_severity NotInSchema = Warning

-- what is said of it, before the name
abbrev pub difference_message : Difference → Text
difference_message NotDeclared = codes "no checked file declares this name"
difference_message NotInSchema = codes "a checked file declares this name, and this file doesn't"

-- what is told of a name that differs so, in the file with this name
abbrev pub told_difference : Difference → Text → Text → Told
told_difference difference file name =
    told_of_file file (difference_severity difference)
    (Some (on_one_line (chars (difference_kind difference))))
    (name_message (difference_message difference) name)

-- the report of a name, in this format
abbrev pub difference_text : Format → Difference → Text → Text → Text
difference_text format difference file name =
    report_text format (told_difference difference file name)

-- the report of a name, told so
abbrev pub telling_text : Telling → Text → Text
telling_text telling name =
    difference_text telling.format telling.difference telling.file.now name

-- the reports of those of the names that the others lack
abbrev pub lacked_texts : Format → Difference → Text → List Text → List Text → List Text
lacked_texts format difference file names others =
    map (difference_text format difference file) (lacked names others)

-- the reports of a comparison: the names of the schema that the files lack, and then those of the
-- files that the schema lacks
abbrev pub comparison_texts : Format → Text → List Text → List Text → List Text
comparison_texts format file schema files =
    lacked_texts format NotDeclared file schema files
    ++ lacked_texts format NotInSchema file files schema

-- what a comparison finds
abbrev pub found_between : List Text → List Text → Found
found_between schema files = record {
  faults = list_any (is_lacking files) schema;
  warnings = list_any (is_lacking schema) files;
  denied = false;
}
