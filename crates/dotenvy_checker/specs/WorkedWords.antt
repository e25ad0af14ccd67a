-- Worked examples of command lines: what some words ask for, and why others are refused.
use Rattle.std.specs.Prelude.{◌≡◌, true, false, List, [], ◌∷◌, Some, None, codes}
use Rattle.clap.specs.Words.{Kinds, Text, fault_of, matches_of}
use Rattle.clap.specs.declared.error.kind.ErrorKind.TheVariants.{DisplayHelp, DisplayVersion}
use Rattle.clap.specs.declared.error.kind.ErrorKind.TheVariants.{InvalidValue, TooManyValues}
use Rattle.clap.specs.declared.error.kind.ErrorKind.TheVariants.{UnknownArgument}
use Rattle.dotenvy_format.specs.declared.dialect.Dialect.TheVariants.{V15, Next}
use Rattle.dotenvy_findings.specs.declared.kind.Kind.TheVariants as kind
use Rattle.dotenvy_checker.specs.declared.mistake.Mistake.{Mistake}
use Rattle.dotenvy_checker.specs.declared.mistake.Mistake.TheVariants as mistake
use Rattle.dotenvy_reports.specs.declared.format.Format.TheVariants as format
use Rattle.dotenvy_words.specs.Asked.{AskForOnly, before_text}
use Rattle.dotenvy_checker.specs.Words.{Asked, asked_of, checker, mistake_of}

-- words are taken, and ask for this
abbrev pub Ask : List Text → Asked → Type 0
Ask words asked = asked_of (matches_of checker words) ≡ asked

-- words have these kinds of error
abbrev pub HaveFaults : List Text → Kinds → Type 0
HaveFaults words kinds = fault_of checker words ≡ kinds

-- this is wrong with this value of words
abbrev pub HaveMistake : List Text → Mistake → Text → Type 0
HaveMistake words wrong value = mistake_of (matches_of checker words) ≡ Some (wrong, value)

-- nothing is wrong with the values of words
abbrev pub HaveNoMistake : List Text → Type 0
HaveNoMistake words = mistake_of (matches_of checker words) ≡ None

-- what no words ask for
abbrev pub plain : Asked
plain = record {
  dialect = V15;
  strict = false;
  quiet = false;
  text = false;
  together = false;
  ignores_environment = false;
  allowed = [];
  denied = [];
  known = [];
  excluded = [];
  schema = None;
  format = format.Text;
  files = [];
}

-- what options without a value, and files, ask for
abbrev pub FlagsAsk : Type 0
FlagsAsk =
    Ask [] plain
    -- options between files, and `-`
    × Ask (codes "a" ∷ codes "--next" ∷ codes "-" ∷ codes "--strict" ∷ codes "a" ∷ [])
    (record plain {
      dialect = Next;
      strict = true;
      files = codes "a" ∷ codes "-" ∷ codes "a" ∷ [];
    })
    -- `-q` twice, and words after `--`
    × Ask (codes "-qq" ∷ codes "--quiet" ∷ codes "--" ∷ codes "--strict" ∷ codes "--" ∷ [])
    (record plain { quiet = true; files = codes "--strict" ∷ codes "--" ∷ [] })
    × Ask (codes "--text" ∷ codes "--together" ∷ codes "--ignore-environment" ∷ [])
    (record plain { text = true; together = true; ignores_environment = true })

-- what options with a value ask for
abbrev pub ValuesAsk : Type 0
ValuesAsk =
    -- each use counts
    Ask (codes "--allow" ∷ codes "own-name" ∷ codes "--deny=default" ∷ codes "--allow"
    ∷ codes "tilde" ∷ codes "--deny" ∷ codes "open-brace" ∷ [])
    (record plain {
      allowed = kind.OwnName ∷ kind.Tilde ∷ [];
      denied = kind.Default ∷ kind.OpenBrace ∷ [];
    })
    × Ask (codes "--known" ∷ codes "A" ∷ codes "--exclude" ∷ codes ".env.example"
    ∷ codes "--known=-b" ∷ codes "--exclude=c.env" ∷ codes "d" ∷ [])
    (record plain {
      known = codes "A" ∷ codes "-b" ∷ [];
      excluded = codes ".env.example" ∷ codes "c.env" ∷ [];
      files = codes "d" ∷ [];
    })
    -- the last use counts
    × Ask (codes "--schema" ∷ codes "a" ∷ codes "--format" ∷ codes "sarif" ∷ codes "--schema"
    ∷ codes "b" ∷ codes "--format=github" ∷ [])
    (record plain { schema = Some (codes "b"); format = format.Github })
    × Ask (codes "--format" ∷ codes "json" ∷ []) (record plain { format = format.Json })

-- these words are refused, or ask for a text
abbrev pub WordsFail : Type 0
WordsFail =
    HaveFaults (codes "--strict" ∷ codes "--strict" ∷ []) []
    × HaveFaults (codes "" ∷ codes "-" ∷ codes "--" ∷ codes "-x" ∷ []) []
    × HaveFaults (codes "a" ∷ codes "--strct" ∷ []) (UnknownArgument ∷ [])
    × HaveFaults (codes "-qx" ∷ []) (UnknownArgument ∷ [])
    × HaveFaults (codes "--strict=yes" ∷ []) (TooManyValues ∷ [])
    × HaveFaults (codes "-x" ∷ codes "--help" ∷ []) (UnknownArgument ∷ [])
    × AskForOnly checker (codes "--help" ∷ codes "-x" ∷ []) DisplayHelp
    × AskForOnly checker (codes "a" ∷ codes "-V" ∷ []) DisplayVersion
    -- letters with the one of help among them are no name of it
    × HaveFaults (before_text DisplayHelp (codes "-qh" ∷ [])) (DisplayHelp ∷ [])
    × HaveFaults (codes "--" ∷ codes "--version" ∷ []) []
    -- an option lacks its value, since a value that begins with `-` stands after `=`
    × HaveFaults (codes "--known" ∷ []) (InvalidValue ∷ [])
    × HaveFaults (codes "--known" ∷ codes "--strict" ∷ codes "a" ∷ []) (InvalidValue ∷ [])
    × HaveFaults (codes "--schema" ∷ codes "a" ∷ codes "--schema" ∷ codes "b" ∷ []) []

-- something is wrong with a value of these words, or nothing
abbrev pub ValuesFail : Type 0
ValuesFail =
    HaveMistake (codes "--allow" ∷ codes "x" ∷ []) mistake.UnknownKind (codes "x")
    × HaveMistake (codes "--allow" ∷ codes "open-brace" ∷ []) mistake.AllowedError
    (codes "open-brace")
    × HaveMistake (codes "--deny" ∷ codes "Tilde" ∷ []) mistake.UnknownKind (codes "Tilde")
    × HaveMistake (codes "--format" ∷ codes "yaml" ∷ []) mistake.UnknownFormat (codes "yaml")
    × HaveMistake (codes "--format=" ∷ codes "--deny=" ∷ codes "--allow" ∷ codes "x" ∷ [])
    mistake.UnknownKind (codes "x")
    × HaveNoMistake (codes "--format" ∷ codes "yaml" ∷ codes "--format" ∷ codes "text" ∷ [])
    × HaveNoMistake (codes "--deny" ∷ codes "open-brace" ∷ codes "--allow" ∷ codes "tilde" ∷ [])

-- all of them
abbrev pub WorkedWords : Type 0
WorkedWords = FlagsAsk × ValuesAsk × WordsFail × ValuesFail
