-- Worked examples of command lines: what some words ask for, and why others are refused.
use Rattle.std.specs.Prelude.{◌≡◌, true, false, List, [], ◌∷◌, Some, None, codes}
use Rattle.clap.specs.Words.{Kinds, Text, fault_of, matches_of}
use Rattle.clap.specs.declared.error.kind.ErrorKind.TheVariants.{DisplayHelp, DisplayVersion}
use Rattle.clap.specs.declared.error.kind.ErrorKind.TheVariants.{InvalidValue, TooManyValues}
use Rattle.clap.specs.declared.error.kind.ErrorKind.TheVariants.{UnknownArgument}
use Rattle.dotenvy_format.specs.declared.dialect.Dialect.TheVariants.{V15, Next}
use Rattle.env_layers.specs.declared.layers.Mode.TheVariants.{Keep, Override}
use Rattle.dotenvy_exporter.specs.declared.target.Target.TheVariants.{Docker, Json, Sh}
use Rattle.dotenvy_export_command.specs.Files.{merged, placed}
use Rattle.dotenvy_words.specs.Asked.{AskForOnly, before_text}
use Rattle.dotenvy_words.specs.Found.{values_of}
use Rattle.dotenvy_export_command.specs.Words.{Asked, asked_of, exporter}

-- words ask for this, with these files, and with these that may be absent
abbrev pub Ask : List Text → Asked → List Text → List Text → Type 0
Ask words asked files optional =
    (asked_of (matches_of exporter words) ≡ asked)
    × (values_of (codes "file") (matches_of exporter words) ≡ files)
    × (values_of (codes "optional") (matches_of exporter words) ≡ optional)

-- words have these kinds of error
abbrev pub HaveFaults : List Text → Kinds → Type 0
HaveFaults words kinds = fault_of exporter words ≡ kinds

-- what no words ask for
abbrev pub plain : Asked
plain = record {
  target = None;
  dialect = V15;
  mode = Keep;
  skips_reserved = false;
  ignores_environment = false;
}

-- what words ask for
abbrev pub WordsAsk : Type 0
WordsAsk =
    Ask [] plain [] []
    -- the first word that is no option is the target, and the others are files
    × Ask (codes "--next" ∷ codes "docker" ∷ codes "a" ∷ codes "--override" ∷ codes "-" ∷ [])
    (record plain { target = Some Docker; dialect = Next; mode = Override })
    (codes "a" ∷ codes "-" ∷ []) []
    -- files and optional files in turn
    × Ask (codes "sh" ∷ codes "--optional" ∷ codes "a" ∷ codes "b" ∷ codes "--optional=c" ∷ [])
    (record plain { target = Some Sh }) (codes "b" ∷ []) (codes "a" ∷ codes "c" ∷ [])
    -- words after `--`
    × Ask (codes "--skip-reserved" ∷ codes "--" ∷ codes "json" ∷ codes "--next" ∷ codes "--" ∷ [])
    (record plain { target = Some Json; skips_reserved = true })
    (codes "--next" ∷ codes "--" ∷ []) []
    -- no target has this name
    × Ask (codes "JSON" ∷ codes "--ignore-environment" ∷ codes "--ignore-environment" ∷ [])
    (record plain { ignores_environment = true }) [] []

-- these words are refused, or ask for a text
abbrev pub WordsFail : Type 0
WordsFail =
    HaveFaults [] []
    × HaveFaults (codes "" ∷ codes "-" ∷ codes "--" ∷ codes "-x" ∷ []) []
    × HaveFaults (codes "sh" ∷ codes "--overide" ∷ []) (UnknownArgument ∷ [])
    × HaveFaults (codes "sh" ∷ codes "-x" ∷ []) (UnknownArgument ∷ [])
    × HaveFaults (codes "--next=yes" ∷ []) (TooManyValues ∷ [])
    × HaveFaults (codes "-x" ∷ codes "--help" ∷ []) (UnknownArgument ∷ [])
    × AskForOnly exporter (codes "--help" ∷ codes "-x" ∷ []) DisplayHelp
    × AskForOnly exporter (codes "sh" ∷ codes "-V" ∷ []) DisplayVersion
    -- letters that begin with the one of help are no name of it
    × HaveFaults (before_text DisplayHelp (codes "sh" ∷ codes "-hV" ∷ [])) (DisplayHelp ∷ [])
    × HaveFaults (codes "--" ∷ codes "--version" ∷ []) []
    -- an option lacks its value, since a value that begins with `-` stands after `=`
    × HaveFaults (codes "sh" ∷ codes "--optional" ∷ []) (InvalidValue ∷ [])
    × HaveFaults (codes "sh" ∷ codes "--optional" ∷ codes "--next" ∷ []) (InvalidValue ∷ [])

-- each file is behind the optional ones whose place among the words is before its own
abbrev pub FilesMerge : Type 0
FilesMerge =
    (merged (placed (2 ∷ 5 ∷ []) (codes "a" ∷ codes "b" ∷ []))
    (placed (4 ∷ 7 ∷ 9 ∷ []) (codes "c" ∷ codes "d" ∷ codes "e" ∷ []))
    ≡ (codes "a", false) ∷ (codes "c", true) ∷ (codes "b", false) ∷ (codes "d", true)
    ∷ (codes "e", true) ∷ [])
    × (merged (placed [] (codes "a" ∷ [])) (placed (1 ∷ []) (codes "b" ∷ []))
    ≡ (codes "b", true) ∷ (codes "a", false) ∷ [])

-- all of them
abbrev pub WorkedWords : Type 0
WorkedWords = WordsAsk × WordsFail × FilesMerge
