-- What the code finds at the start of the words: a group, a command, or neither.
use Rattle.std.specs.Prelude.{ℕ, ◌≡◌, ◌≢◌, false, not, ◌&&◌, nat_eq, List, [], ◌∷◌, ◌++◌, Option}
use Rattle.std.specs.Prelude.{Some, None, Result, Ok, Err, IsTrue, codes, string_bytes}
use Rattle.std.specs.List.{starts_with}
use Rattle.std.specs.declared.string.String.{String}
use denote.Ref.{Bor}
use Rattle.dotenvy_command.specs.declared.command_line.Group.{Group as Found}
use Rattle.dotenvy_command.specs.declared.command_line.Group.TheVariants as found
use Rattle.dotenvy_command.specs.declared.command_line.Word.{Word}
use Rattle.dotenvy_command.specs.declared.command_line.Word.TheVariants as word
use Rattle.dotenvy_command.specs.declared.failure.Usage.{Usage}
use Rattle.dotenvy_command.specs.declared.failure.Usage.TheVariants.{MissingCommand, MissingFile, UnknownOption, Memory}
use Rattle.dotenvy_command.specs.Answers.{texts}
use Rattle.dotenvy_command.specs.Words.{Form, Group, list, next, file_word, group_words, is_option}
use Rattle.dotenvy_command.specs.Words.{begins_group, IsGroup, group_files, is_list, is_next}

-- the group that the code found means the same as this one
abbrev pub IsGroupOf : Group → Found → Type 0
IsGroupOf group (found.File name) = (group_files group ≡ name.now ∷ []) × (is_list group ≡ false)
    × (is_next group ≡ false)
IsGroupOf group found.List = group ≡ list
IsGroupOf group found.Next = group ≡ next

-- the word is a whole group, which means what was found
abbrev pub IsAlone : List ℕ → Found → Type 0
IsAlone text group =
    (spelled : Group) × IsGroup spelled × (group_words spelled ≡ text ∷ [])
    × IsGroupOf spelled group

-- the word is an option that the program does not have
abbrev pub IsUnknown : List ℕ → Type 0
IsUnknown text = IsTrue (is_option text && not (begins_group text))

-- what the word is by itself
abbrev pub IsWord : List ℕ → Word → Type 0
IsWord text word.BeforeFile = (form : Form) × (text ≡ file_word form)
IsWord text (word.Group group) = IsAlone text group
IsWord text word.Unknown = IsUnknown text
IsWord text word.Command = IsTrue (not (is_option text))

-- the word, unless it is `-f` alone, has a file after its option; or it begins with no such option
abbrev pub AttachesFile : List ℕ → Option (Bor (List ℕ)) → Type 0
AttachesFile text (Some name) = text ≢ codes "-f" → IsAlone text (found.File name)
AttachesFile text None = (starts_with nat_eq text (codes "--file=") ≡ false)
    × (starts_with nat_eq text (codes "-f") ≡ false)

-- there are no words, or the first one is not an option
abbrev pub AreCommand : List (List ℕ) → Type 0
AreCommand [] = Unit {0}
AreCommand (text ∷ words) = IsTrue (not (is_option text))

-- the words begin with this group and go on with these words; or no group comes first; or they are refused
abbrev pub GroupBeginsWith : {A : Type 0} → List (List ℕ) →
    Result (Option (Found × Bor (List (String A)))) (Usage A) →
    Type 0
GroupBeginsWith words (Ok (Some (group, after))) =
    (spelled : Group) × IsGroup spelled × (words ≡ group_words spelled ++ texts after.now)
    × IsGroupOf spelled group
GroupBeginsWith words (Ok None) = AreCommand words
GroupBeginsWith words (Err MissingCommand) = ⊥
GroupBeginsWith words (Err MissingFile) = (form : Form) × (words ≡ file_word form ∷ [])
GroupBeginsWith words (Err (UnknownOption text)) =
    (others : List (List ℕ)) × (words ≡ string_bytes text ∷ others)
    × IsUnknown (string_bytes text)
GroupBeginsWith words (Err (Memory error)) = Unit {0}
