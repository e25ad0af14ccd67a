-- Why the program does not do what it was asked for, and what is printed of it.
use Rattle.std.specs.Prelude.{ℕ, ◌++◌, Option, Some, None, codes, decimal, string_bytes}
use Rattle.std.specs.Option.{option_map}
use Rattle.clap.specs.Words.{Text}
use Rattle.dotenvy_base.specs.Errors.{error_text}
use Rattle.dotenvy_editor.specs.declared.refusal.Reason.{Reason}
use Rattle.dotenvy_editor.specs.declared.refusal.Reason.TheVariants as reason
use Rattle.dotenvy_editor.specs.declared.refusal.Refusal.{Refusal}
use Rattle.dotenvy_editor.specs.declared.refusal.Unportable.{Unportable}
use Rattle.dotenvy_editor.specs.declared.refusal.Unportable.TheVariants as form
use Rattle.dotenvy_edit_command.specs.declared.failure.Failure.{Failure}
use Rattle.dotenvy_edit_command.specs.declared.failure.Failure.TheVariants as failure
use Rattle.dotenvy_edit_command.specs.declared.failure.Lacked.{Lacked}
use Rattle.dotenvy_edit_command.specs.declared.failure.Lacked.TheVariants as lacked
use Rattle.dotenvy_edit_command.specs.declared.failure.Usage.{Usage}
use Rattle.dotenvy_edit_command.specs.declared.failure.Usage.TheVariants as usage
use Rattle.dotenvy_edit_command.specs.declared.step.Step.{Step}
use Rattle.dotenvy_edit_command.specs.declared.step.Step.TheVariants as step
use Rattle.dotenvy_words.specs.Refused.{mistake_text}

-- how a word that is lacked is called
abbrev pub lacked_text : Lacked → Text
lacked_text lacked.File = codes "FILE"
lacked_text lacked.Name = codes "NAME"
lacked_text lacked.Old = codes "OLD"
lacked_text lacked.New = codes "NEW"

-- what ends the text of a wrong call
abbrev pub try_help : Text
try_help = codes "; try 'dotenvy_edit --help'"

-- what is said of a word with which this is wrong
abbrev pub wrong_text : Text → Text → Text
wrong_text wrong shown = codes "error: " ++ (wrong ++ (codes " '" ++ (shown ++ (codes "'" ++ try_help))))

-- what is printed of a wrong call
abbrev pub usage_text : {A : Type 0} → Usage A → Text
usage_text (usage.Word kind word) = wrong_text (mistake_text kind) (string_bytes word)
usage_text usage.NoCommand = codes "error: there is no command" ++ try_help
usage_text (usage.Command name) = wrong_text (codes "unknown command") (string_bytes name)
usage_text (usage.Lacks lacked) = codes "error: there is no " ++ (lacked_text lacked ++ try_help)
usage_text (usage.Unexpected word) = wrong_text (codes "unexpected word") (string_bytes word)

-- what a value has that has no portable form, or what stands around it
abbrev pub form_text : Unportable → Text
form_text form.CarriageReturn = codes "a carriage return"
form_text form.Apostrophe = codes "a single quote, and a double quote, a dollar or a backslash"
form_text form.LineFeed = codes "a line feed, and a double quote, a dollar or a backslash"
form_text form.Backslashes = codes "two backslashes in a row"
form_text form.LastBackslash = codes "a backslash at its end"
form_text form.Substitution = codes "a dollar and braces"
form_text form.Mark = codes "a byte order mark before it"
form_text form.WhiteSpace = codes "white space around it other than spaces"
form_text form.Comment = codes "a comment behind it with its quotes"

-- a text that is said of a file, or of a name
abbrev pub of_text : Text → Text → Text
of_text shown text = shown ++ (codes ": " ++ text)

-- a text that is said of a line of a file
abbrev pub at_line : Text → ℕ → Text → Text
at_line file line text = file ++ (codes ":" ++ (decimal line ++ (codes ": " ++ text)))

-- why an edit of a name in a file is refused, at this line
abbrev pub reason_text : Text → Text → ℕ → Reason → Text
reason_text file name line reason.Key = of_text name (codes "this can't be a name")
reason_text file name line reason.Nul = of_text name (codes "the value has a NUL")
reason_text file name line reason.Absent = of_text file (name ++ codes " is not in this file")
reason_text file name line reason.Present = at_line file line (name ++ codes " is there already")
reason_text file name line reason.QuoteOpen =
    at_line file line (codes "an open end, so nothing can be appended")
reason_text file name line reason.EndOpen =
    at_line file line (codes "an open end, so nothing can be appended; end it with a line feed")
reason_text file name line reason.Unreadable =
    at_line file line
    (codes "this line of " ++ (name ++ codes " has an open end, or isn't UTF-8"))
reason_text file name line reason.LongComment =
    at_line file line (codes "the comment runs over several lines, and would be cut, or go")
reason_text file name line (reason.Unportable form.Mark) =
    at_line file line (codes "a byte order mark is not portable")
reason_text file name line (reason.Unportable form.WhiteSpace) =
    at_line file line (codes "white space other than spaces is not portable")
reason_text file name line (reason.Unportable form.Comment) =
    at_line file line (codes "the comment has the quotes of a portable value")
reason_text file name line (reason.Unportable form) =
    of_text name (codes "the value has no portable form, since it has " ++ form_text form)

-- why an edit of a name in a file is refused
abbrev pub refusal_text : Text → Text → Refusal → Text
refusal_text file name refusal = reason_text file name refusal.line refusal.reason

-- what could not be done with the new file
abbrev pub step_text : Step → Text
step_text step.Make = codes "no new file can be made beside it"
step_text step.Write = codes "the new file can't be written"
step_text step.Owner = codes "the new file can't have its owner"
step_text step.Permissions = codes "the new file can't have its permissions"
step_text step.Sync = codes "the new file can't be synced"
step_text step.Put = codes "the new file can't take its place"
step_text step.SyncFolder = codes "it is replaced, but its folder can't be synced"
step_text step.Remove = codes "the new file can't be removed"

-- an error, with what it is of
abbrev pub error_of : Text → Text → Text
error_of shown text = codes "error: " ++ of_text shown text

-- what is printed of a failure; nothing is said of an error whose own text is not specified
abbrev pub failure_text : {A : Type 0} → Failure A → Option Text
failure_text (failure.Usage usage) = Some (usage_text usage)
failure_text (failure.File file error) = option_map (error_of (string_bytes file)) (error_text error)
failure_text (failure.Input error) =
    option_map (error_of (codes "standard input")) (error_text error)
failure_text (failure.Value place) =
    Some (error_of (string_bytes place.name) (codes "the value isn't UTF-8"))
failure_text (failure.Refused place refusal) =
    Some (codes "error: " ++ refusal_text (string_bytes place.file) (string_bytes place.name) refusal)
failure_text (failure.Stops place line) =
    Some (codes "error: " ++ at_line (string_bytes place.file) line
    (codes "a load stops at this line, before " ++ string_bytes place.name))
failure_text (failure.Unreplaced file unreplaced) = None
failure_text (failure.Write error) =
    option_map (error_of (codes "standard output")) (error_text error)
failure_text (failure.Memory refused) = Some (codes "error: out of memory")

-- the status to end with: 1 if the name is not there or the edit is refused, else 2
abbrev pub failure_status : {A : Type 0} → Failure A → ℕ
failure_status (failure.Value place) = 1
failure_status (failure.Refused place refusal) = 1
failure_status (failure.Stops place line) = 1
failure_status other = 2

-- the failure is a failed allocation
abbrev pub IsMemoryEnd : {A : Type 0} → Failure A → Type 0
IsMemoryEnd (failure.Memory refused) = Unit {0}
IsMemoryEnd other = ⊥
