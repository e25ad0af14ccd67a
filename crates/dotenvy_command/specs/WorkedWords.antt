-- Worked words of the command line: examples of what words ask for.
use Prim.Native.String.{String}
use Rattle.std.specs.Prelude.{ℕ, true, false, List, [], ◌∷◌, map, Ok, Err, codes}
use Rattle.dotenvy.specs.Dialect.TheVariants.{V15, Next}
use Rattle.dotenvy_command.specs.Words.{MissingCommand, MissingFile, UnknownOption, HasUsage}

-- these texts, as words
abbrev pub words : List String → List (List ℕ)
words texts = map codes texts

-- what words ask for, or why they are refused
abbrev pub HaveUsages : Type 0
HaveUsages =
    -- files in order, and a command with its own options
    HasUsage (words ("-fa" ∷ "--file=b" ∷ "sh" ∷ "-c" ∷ "-x" ∷ []))
    (Ok (record {
      list = false;
      dialect = V15;
      files = words ("a" ∷ "b" ∷ []);
      command = words ("sh" ∷ "-c" ∷ "-x" ∷ []);
    }))
    -- flags may be anywhere before the command, and twice
    × HasUsage (words ("--next" ∷ "-f=a" ∷ "--next" ∷ "--list" ∷ []))
    (Ok (record { list = true; dialect = Next; files = words ("a" ∷ []); command = [] }))
    -- the word after `-f` or `--file` is a file, whatever it is
    × HasUsage (words ("-f" ∷ "--list" ∷ "--file" ∷ "-x" ∷ "sh" ∷ []))
    (Ok (record {
      list = false;
      dialect = V15;
      files = words ("--list" ∷ "-x" ∷ []);
      command = words ("sh" ∷ []);
    }))
    × HasUsage (words ("-f" ∷ "x" ∷ [])) (Err MissingCommand)
    × HasUsage [] (Err MissingCommand)
    × HasUsage (words ("--list" ∷ "--file" ∷ [])) (Err MissingFile)
    × HasUsage (words ("-" ∷ "sh" ∷ [])) (Err (UnknownOption (codes "-")))
    × HasUsage (words ("--list" ∷ "-h" ∷ [])) (Err (UnknownOption (codes "-h")))
