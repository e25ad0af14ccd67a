-- What is said of an edit that is made.
use Rattle.std.specs.Prelude.{◌++◌, List, [], ◌∷◌, codes, string_bytes}
use Rattle.clap.specs.Words.{Text}
use Rattle.dotenvy_editor.specs.declared.warning.Warning.{Warning}
use Rattle.dotenvy_editor.specs.declared.warning.Warning.TheVariants as warning
use Rattle.dotenvy_edit_command.specs.Failures.{at_line, of_text}

-- a warning of an edit of a name in a file
abbrev pub warning_text : {A : Type 0} → Text → Text → Warning A → Text
warning_text file name (warning.Mentions other line) =
    at_line file line
    (string_bytes other
    ++ (codes " mentions " ++ (name ++ codes ", directly or through another name")))
warning_text file name (warning.StopsBefore line) =
    at_line file line (codes "a load stops at this line, before " ++ name)
warning_text file name (warning.Removed first last) =
    at_line file first (codes "this later line of " ++ (name ++ codes " is removed"))
warning_text file name warning.Dollar = of_text name (codes "the value has a $, which is text here")

-- a line for each warning
abbrev pub warning_lines : {A : Type 0} → Text → Text → List (Warning A) → Text
warning_lines file name [] = []
warning_lines file name (told ∷ warnings) =
    codes "dotenvy_edit: warning: "
    ++ (warning_text file name told ++ (codes "\n" ++ warning_lines file name warnings))
