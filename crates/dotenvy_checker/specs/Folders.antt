-- The environment files of a folder. A name is its bytes.
use Rattle.std.specs.Prelude.{◌++◌, ◌&&◌, ◌||◌, Bool, not, List, codes, if◌then◌else◌, length}
use Rattle.std.specs.Prelude.{map, nat_eq, nat_lt}
use Rattle.std.specs.List.{ends_with, list_any, starts_with}
use Rattle.std.specs.Str.{bytes_eq}
use Rattle.clap.specs.Words.{Text}

-- an environment file is called like this: it ends with `.env`, or begins with `.env.` and goes on
abbrev pub is_environment_name : Text → Bool
is_environment_name name =
    ends_with nat_eq name (codes ".env")
    || (nat_lt 5 (length name) && starts_with nat_eq name (codes ".env."))

-- the name is one of these
abbrev pub is_among : List Text → Text → Bool
is_among names name = list_any (λ other. bytes_eq other name) names

-- a file of this name is checked, where these are excluded
abbrev pub is_chosen : List Text → Text → Bool
is_chosen excluded name = is_environment_name name && not (is_among excluded name)

-- the path of the file of this name in a folder
abbrev pub path_in : Text → Text → Text
path_in folder name =
    if ends_with nat_eq folder (codes "/") then folder ++ name else folder ++ (codes "/" ++ name)

-- the paths of the files of these names
abbrev pub paths_in : Text → List Text → List Text
paths_in folder names = map (path_in folder) names
