-- The words of the command line: groups of options, and then an ending.
use Rattle.std.specs.Prelude.{◌≡◌, ◌≢◌, ℕ, Bool, true, false, not, ◌&&◌, ◌||◌, ◌==◌, List, [], ◌∷◌}
use Rattle.std.specs.Prelude.{◌++◌, Result, Ok, Err, IsTrue, codes, nat_eq, bytes_eq, if◌then◌else◌}
use Rattle.std.specs.List.{flat_map, list_any, starts_with}
use Rattle.dotenvy.specs.Dialect.{Dialect}
use Rattle.dotenvy.specs.Dialect.TheVariants.{V15, Next}
use Rattle.dotenvy.specs.Characters.{equals_sign}

-- how the option for a file is spelled: `-f` or `--file`
pub data Form : Type 0 where
  short : Form
  long : Form

-- a group: a file in the next word, or in the same word after `-f` or `--file=`; or a flag
pub data Group : Type 0 where
  next_file : Form → List ℕ → Group
  joined_file : List ℕ → Group
  assigned_file : List ℕ → Group
  list : Group
  next : Group

-- an ending: nothing; an option without its file; or an unknown option or a command, and the words after it
pub data WordsEnd : Type 0 where
  no_ending : WordsEnd
  missing_file : Form → WordsEnd
  unknown : List ℕ → List (List ℕ) → WordsEnd
  command : List ℕ → List (List ℕ) → WordsEnd

-- the word before a file
abbrev pub file_word : Form → List ℕ
file_word short = codes "-f"
file_word long = codes "--file"

-- the words of a group
abbrev pub group_words : Group → List (List ℕ)
group_words (next_file form name) = file_word form ∷ name ∷ []
group_words (joined_file tail) = (codes "-f" ++ tail) ∷ []
group_words (assigned_file name) = (codes "--file=" ++ name) ∷ []
group_words list = codes "--list" ∷ []
group_words next = codes "--next" ∷ []

-- the words of an ending
abbrev pub ending_words : WordsEnd → List (List ℕ)
ending_words no_ending = []
ending_words (missing_file form) = file_word form ∷ []
ending_words (unknown word words) = word ∷ words
ending_words (command word words) = word ∷ words

-- the word begins with a dash
abbrev pub is_option : List ℕ → Bool
is_option word = starts_with nat_eq word (codes "-")

-- the word is a group, or the first word of one
abbrev pub begins_group : List ℕ → Bool
begins_group word =
    ((starts_with nat_eq word (codes "-f") || bytes_eq word (codes "--file"))
    || starts_with nat_eq word (codes "--file="))
    || (bytes_eq word (codes "--list") || bytes_eq word (codes "--next"))

-- a group may have any file, except that a file joined to `-f` is not empty
abbrev pub IsGroup : Group → Type 0
IsGroup (next_file form name) = Unit {0}
IsGroup (joined_file tail) = tail ≢ []
IsGroup (assigned_file name) = Unit {0}
IsGroup list = Unit {0}
IsGroup next = Unit {0}

-- each of these is a group
abbrev pub AreGroups : List Group → Type 0
AreGroups [] = Unit {0}
AreGroups (group ∷ groups) = IsGroup group × AreGroups groups

-- words may end so
abbrev pub IsWordsEnd : WordsEnd → Type 0
IsWordsEnd no_ending = Unit {0}
IsWordsEnd (missing_file form) = Unit {0}
IsWordsEnd (unknown word words) = IsTrue (is_option word && not (begins_group word))
IsWordsEnd (command word words) = IsTrue (not (is_option word))

-- the words are these groups and this ending
pub record AreWords (words : List (List ℕ)) (groups : List Group) (ending : WordsEnd) : Type 0 where
  pub are_groups : AreGroups groups
  pub is_ending : IsWordsEnd ending
  pub spelled : words ≡ flat_map group_words groups ++ ending_words ending

-- the text without one `=` at its start
abbrev pub without_equals : List ℕ → List ℕ
without_equals [] = []
without_equals (c ∷ cs) = if c == equals_sign then cs else c ∷ cs

-- the file that a group names, if it names one
abbrev pub group_files : Group → List (List ℕ)
group_files (next_file form name) = name ∷ []
group_files (joined_file tail) = without_equals tail ∷ []
group_files (assigned_file name) = name ∷ []
group_files list = []
group_files next = []

-- the group asks for a list
abbrev pub is_list : Group → Bool
is_list (next_file form name) = false
is_list (joined_file tail) = false
is_list (assigned_file name) = false
is_list list = true
is_list next = false

-- the group asks for the second dialect
abbrev pub is_next : Group → Bool
is_next (next_file form name) = false
is_next (joined_file tail) = false
is_next (assigned_file name) = false
is_next list = false
is_next next = true

-- what the words ask for: a list, a dialect, the files in order, and the command with its arguments
pub record CommandLine : Type 0 where
  pub list : Bool
  pub dialect : Dialect
  pub files : List (List ℕ)
  pub command : List (List ℕ)

-- why words are refused
pub data Usage : Type 0 where
  MissingCommand : Usage
  MissingFile : Usage
  UnknownOption : List ℕ → Usage

-- what these groups ask for, with this command
abbrev pub command_line : List Group → List (List ℕ) → CommandLine
command_line groups words = record {
  list = list_any is_list groups;
  dialect = if list_any is_next groups then Next else V15;
  files = flat_map group_files groups;
  command = words;
}

-- the command line with what one more group asks for
abbrev pub with_group : CommandLine → Group → CommandLine
with_group line group = record {
  list = line.list || is_list group;
  dialect = if is_next group then Next else line.dialect;
  files = line.files ++ group_files group;
  command = line.command;
}

-- the answer to these groups and this ending: a command line, or why they are refused
abbrev pub answer_to : List Group → WordsEnd → Result CommandLine Usage
answer_to groups no_ending =
    if list_any is_list groups then Ok (command_line groups []) else Err MissingCommand
answer_to groups (missing_file form) = Err MissingFile
answer_to groups (unknown word words) = Err (UnknownOption word)
answer_to groups (command word words) = Ok (command_line groups (word ∷ words))

-- the words have this answer
abbrev pub HasUsage : List (List ℕ) → Result CommandLine Usage → Type 0
HasUsage words answer =
    (groups : List Group) × (ending : WordsEnd) × AreWords words groups ending
    × (answer ≡ answer_to groups ending)

-- the words ask for a list, and for all of this
abbrev pub AsksList : List (List ℕ) → CommandLine → Type 0
AsksList words line = HasUsage words (Ok line) × (line.list ≡ true)

-- the words ask for a command, and for all of this
abbrev pub AsksCommand : List (List ℕ) → CommandLine → Type 0
AsksCommand words line = HasUsage words (Ok line) × (line.list ≡ false)
